use Rattle.std.proofs.Common.{subst, sym}
use Rattle.td_plan.specs.code.PlannedParts.{IsPlanned}
use Rattle.td_plan.specs.code.PlansOf.{IsPlanOfTyped}
use Rattle.td_plan.specs.code.StepViews.{step_view}
use Rattle.td_tree.specs.code.TreeViews.{tree_view}
use Rattle.td_plan.proofs.making.planning.Planning.boxed_there.Goals as goal

pub returns : goal.returns
returns g c =
    let scope = c.args.planner.now.scope in
    let e = tree_view c.args.expr.now in
    let planned = c.requires.below.plans _ _ _ c.inner.ensures in
    subst (λ x. IsPlanOfTyped scope (step_view x) e) (sym c.in_ok-new.ensures.ok) (subst (λ o. IsPlanned scope o e) c.in_ok-step.was planned)
