use Rattle.std.proofs.Common.{◌≡◌, drop}
use Rattle.td_check.specs.laws.CannotFail.{all_unfailing, parts_unfailing}
use Rattle.td_check.proofs.cannot_fail.+unfailing.Given as goal
use Rattle.td_tree.specs.code.TreeViews.{named_view, trees_view}

abbrev pub invariant-all_unfailing-loop-expr : goal.invariant-all_unfailing-loop-expr
invariant-all_unfailing-loop-expr l =
    all_unfailing l.types (trees_view (drop l.expr-index l.exprs)) ≡ all_unfailing l.types (trees_view l.exprs)

abbrev pub invariant-parts_unfailing-loop-part : goal.invariant-parts_unfailing-loop-part
invariant-parts_unfailing-loop-part l =
    parts_unfailing l.types (named_view (drop l.part-index l.parts)) ≡ parts_unfailing l.types (named_view l.parts)
