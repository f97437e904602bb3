use Rattle.std.proofs.Common.{drop}
use Rattle.td_eval.specs.laws.TreeNumbers.{HaveNumbers, PartsHaveNumbers}
use Rattle.td_plan.proofs.rewriting.numbers.+numbers.Given as goal
use Rattle.td_tree.specs.code.TreeViews.{named_view, trees_view}

-- where the rest have such numbers, all have
abbrev pub invariant-have_numbers-loop-expr : goal.invariant-have_numbers-loop-expr
invariant-have_numbers-loop-expr l =
    HaveNumbers (trees_view (drop l.expr-index l.exprs)) → HaveNumbers (trees_view l.exprs)

abbrev pub invariant-parts_have_numbers-loop-part : goal.invariant-parts_have_numbers-loop-part
invariant-parts_have_numbers-loop-part l =
    PartsHaveNumbers (named_view (drop l.part-index l.parts)) → PartsHaveNumbers (named_view l.parts)
