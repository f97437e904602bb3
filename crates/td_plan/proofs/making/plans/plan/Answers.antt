use Rattle.std.proofs.Common.{subst}
use Rattle.std.proofs.lemmas.Result.{IfOk-weaker}
use Rattle.td_plan.proofs.MadePlans.{planned_by}
use Rattle.td_plan.specs.code.PlannedParts.{IsPlanned}
use Rattle.td_plan.specs.code.PlansOf.{IsPlanOfTyped, scope_in}
use Rattle.td_tree.specs.code.TreeViews.{tree_view}
use Rattle.td_plan.proofs.making.plans.plan.Goals as goal

pub returns : goal.returns
returns g c =
    let d = tree_view c.args.expr.now in
    IfOk-weaker c.plan_by.result _ _ (λ p planned. planned c.reveal.ensures)
    (planned_by (λ p. IsPlanOfTyped (scope_in c.args.env.now) p d) c.step_of.result c.plan_by.result c.plan_by.ensures
    (subst (λ s. IsPlanned s c.step_of.result d) c.in_ok-planner.ensures.scope c.step_of.ensures))

pub step_of-requires : goal.step_of-requires
step_of-requires g c = c.in_ok-planner.ensures.planner
