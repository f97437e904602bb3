use Rattle.std.proofs.Common.{◌≡◌, ◌-◌, ◌+◌, ◌*◌}
use Rattle.td_parse.specs.code.ReadingSteps.{list_by_commas, separated_from}
use Rattle.td_parse.specs.code.ReadingTypes.{attribute, read_type}
use Rattle.td_parse.specs.code.Views.{attribute_trees_view}
use Rattle.td_parse.proofs.types.+types.Given as goal

abbrev pub decreases-type_tree : goal.decreases-type_tree
decreases-type_tree l = 10 * l.depth

abbrev pub decreases-attribute : goal.decreases-attribute
decreases-attribute l = 10 * l.depth + 1

abbrev pub decreases-attributes : goal.decreases-attributes
decreases-attributes l = 10 * l.depth + 2

abbrev pub decreases-heading : goal.decreases-heading
decreases-heading l = 10 * l.depth + 3

abbrev pub decreases-type_of_word : goal.decreases-type_of_word
decreases-type_of_word l = 10 * l.depth + 4

-- what is left goes on from the attributes so far
abbrev pub invariant-attributes-loop-turn : goal.invariant-attributes-loop-turn
invariant-attributes-loop-turn l = list_by_commas (attribute (read_type l.depth)) l.fn.tokens ≡ separated_from (attribute (read_type l.depth)) (l.limit - l._turn) (attribute_trees_view l.items.items) l.tokens
