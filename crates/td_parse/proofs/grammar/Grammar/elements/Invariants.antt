use Rattle.std.proofs.Common.{◌≡◌, ◌-◌, map}
use Rattle.td_tree.specs.model.Grammar.{loosest}
use Rattle.td_parse.specs.code.ReadingSteps.{list_by_commas, separated_from}
use Rattle.td_parse.specs.code.Reading.{read}
use Rattle.td_tree.specs.code.TreeViews.{tree_view}
use Rattle.td_parse.proofs.grammar.Grammar.elements.Given as goal

-- what is left goes on from the expressions so far
abbrev pub invariant-loop-turn : goal.invariant-loop-turn
invariant-loop-turn g l = list_by_commas (read l.self.depth loosest) l.fn.tokens ≡ separated_from (read l.self.depth loosest) (l.limit - l._turn) (map tree_view l.items) l.tokens
