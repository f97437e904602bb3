use Rattle.std.proofs.Common.{◌≡◌, drop}
use Rattle.td_check.specs.code.Alike.{AreLike}
use Rattle.td_tree.specs.code.TreeViews.{named_view}
use Rattle.td_check.proofs.alike.are_like.Given as goal

abbrev pub invariant-loop-part : goal.invariant-loop-part
invariant-loop-part l =
    (l.place ≡ l.part-index)
    × (AreLike (named_view (drop l.place l.first)) (named_view (drop l.place l.second)) → AreLike (named_view l.first) (named_view l.second))
