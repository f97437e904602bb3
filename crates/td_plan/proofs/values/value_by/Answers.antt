use Rattle.std.proofs.Common.{subst}
use Rattle.std.specs.Prelude.{IfSome}
use Rattle.td_eval.specs.model.TreeValues.{value_of}
use Rattle.td_plan.specs.code.PlanViews.{plan_view}
use Rattle.td_plan.specs.code.PlansOf.{IsPlanIfTyped, scope_in}
use Rattle.td_tree.specs.code.TreeViews.{tree_view}
use Rattle.td_plan.proofs.values.value_by.Goals as goal

pub returns-in-Some : goal.returns-in-Some
returns-in-Some g c rules =
    let e = tree_view c.args.expr.now in
    let stands : IsPlanIfTyped (scope_in c.args.env.now) (plan_view c.in-Some.plan.now) e =
    subst (λ o. IfSome o (λ p. IsPlanIfTyped (scope_in c.args.env.now) (plan_view p.now) e)) c.in-Some.is c.requires in
    c.run_valued.ensures (scope_in c.args.env.now) (λ w s. value_of w s e) (stands rules.typed.0 rules.typed.1) rules.gives rules.tuples
