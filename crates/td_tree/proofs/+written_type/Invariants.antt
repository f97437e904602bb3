use Rattle.std.proofs.Common.{drop}
use Rattle.td_tree.specs.model.WrittenTrees.{HaveNames}
use Rattle.td_tree.specs.code.TreeViews.{heading_tree_view}
use Rattle.td_tree.proofs.+written_type.Given as goal

-- where the names in the rest are names, all are
abbrev pub invariant-written::reveal_heading-loop-attribute : goal.invariant-written::reveal_heading-loop-attribute
invariant-written::reveal_heading-loop-attribute l =
    HaveNames (heading_tree_view (drop l.attribute-index l.heading)) → HaveNames (heading_tree_view l.heading)
