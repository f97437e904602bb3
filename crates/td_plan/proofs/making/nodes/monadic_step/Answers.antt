use Rattle.std.proofs.Common.{◌≡◌, subst, sym}
use Rattle.std.specs.Prelude.{IfOk}
use Rattle.td_plan.specs.code.OperatorTrees.{monadic_tree}
use Rattle.td_plan.specs.code.PlannedParts.{IsBoxPlanned}
use Rattle.td_plan.specs.code.Plans as plans
use Rattle.td_plan.specs.code.PlansOf.{IsPlanOfTyped}
use Rattle.td_plan.specs.code.StepViews.{monadic_view, step_view}
use Rattle.td_plan.proofs.PlannedNodes.{monadic_planned}
use Rattle.td_plan.proofs.making.nodes.monadic_step.Goals as goal

pub returns : goal.returns
returns c = λ scope o d is i.
    let p = step_view c.in_ok-operand.operand.value in
    subst (λ op. IsPlanOfTyped scope (plans.monadic op p) (monadic_tree o d)) (sym (subst (λ r. IfOk r (λ x. monadic_view x ≡ o)) c.in_ok-op.was is))
    (monadic_planned scope o p d (subst (λ r. IsBoxPlanned scope r d) c.in_ok-operand.was i))
