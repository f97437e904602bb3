use Rattle.std.proofs.Common.{◌≡◌, ◌++◌, take}
use Rattle.td_check.specs.model.Mentions.{types_named_in}
use Rattle.td_tree.specs.code.TreeViews.{heading_tree_view}
use Rattle.td_check.proofs.mentioned.+named.Given as goal

abbrev pub invariant-add_types_in-loop-attribute : goal.invariant-add_types_in-loop-attribute
invariant-add_types_in-loop-attribute l =
    l.types.items ≡ l.initial.types.items ++ types_named_in (heading_tree_view (take l.attribute-index l.heading))
