use Rattle.std.proofs.Common.{drop}
use Rattle.td_plan.specs.code.Closed.{AreClosed, PartsAreClosed}
use Rattle.td_tree.specs.code.TreeViews.{named_view, trees_view}
use Rattle.td_plan.proofs.making.closed.+closed.Given as goal

-- where the rest are, all are
abbrev pub invariant-are_constant-loop-expr : goal.invariant-are_constant-loop-expr
invariant-are_constant-loop-expr l = AreClosed (trees_view (drop l.expr-index l.exprs)) → AreClosed (trees_view l.exprs)

abbrev pub invariant-parts_are_constant-loop-part : goal.invariant-parts_are_constant-loop-part
invariant-parts_are_constant-loop-part l = PartsAreClosed (named_view (drop l.part-index l.parts)) → PartsAreClosed (named_view l.parts)
