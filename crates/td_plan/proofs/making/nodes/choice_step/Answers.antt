use Rattle.std.proofs.Common.{subst}
use Rattle.td_plan.specs.code.PlannedParts.{IsBoxPlanned}
use Rattle.td_plan.specs.code.StepViews.{step_view}
use Rattle.td_plan.proofs.PlannedNodes.{choice_planned}
use Rattle.td_plan.proofs.making.nodes.choice_step.Goals as goal

pub returns : goal.returns
returns c = λ scope b d e i j k.
    choice_planned scope (step_view c.in_ok-condition.condition.value) (step_view c.in_ok-consequent.consequent.value)
    (step_view c.in_ok-alternative.field-0.value) b d e (subst (λ o. IsBoxPlanned scope o b) c.in_ok-condition.was i)
    (subst (λ o. IsBoxPlanned scope o d) c.in_ok-consequent.was j) (subst (λ o. IsBoxPlanned scope o e) c.in_ok-alternative.was k)
