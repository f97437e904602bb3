use Rattle.std.proofs.Common.{drop}
use Rattle.td_check.specs.code.Alike.{AreLikeTuples}
use Rattle.td_tree.specs.code.TreeViews.{named_view, trees_view}
use Rattle.td_check.proofs.alike.are_like_tuples.Given as goal

abbrev pub invariant-loop-element : goal.invariant-loop-element
invariant-loop-element l =
    AreLikeTuples (named_view l.first) (trees_view (drop l.element-index l.elements)) → AreLikeTuples (named_view l.first) (trees_view l.elements)
