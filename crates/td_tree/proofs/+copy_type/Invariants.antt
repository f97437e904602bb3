use Rattle.std.proofs.Common.{◌≡◌, take}
use Rattle.td_tree.specs.code.TreeViews.{heading_tree_view}
use Rattle.td_tree.proofs.+copy_type.Given as goal

abbrev pub invariant-copy::copy_heading-loop-attribute : goal.invariant-copy::copy_heading-loop-attribute
invariant-copy::copy_heading-loop-attribute l =
    heading_tree_view l.copy.items ≡ heading_tree_view (take l.attribute-index l.attribute-items)
