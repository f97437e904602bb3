use Rattle.std.proofs.Common.{subst}
use Rattle.td_plan.specs.code.PlannedParts.{IsBoxPlanned}
use Rattle.td_plan.specs.code.StepViews.{dyadic_view, step_view}
use Rattle.td_plan.proofs.PlannedNodes.{dyadic_planned}
use Rattle.td_plan.proofs.making.nodes.dyadic_step.Goals as goal

pub returns : goal.returns
returns c = λ scope d e i j.
    dyadic_planned scope (dyadic_view c.args.op) (step_view c.in_ok-left.left.value) (step_view c.in_ok-right.field-0.value) d e
    (subst (λ o. IsBoxPlanned scope o d) c.in_ok-left.was i) (subst (λ o. IsBoxPlanned scope o e) c.in_ok-right.was j)
