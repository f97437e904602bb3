use Rattle.std.proofs.Common.{◌∙◌, ap}
use Rattle.td_algebra.specs.model.Operators.{difference, intersection}
use Rattle.td_check.specs.model.OperatorTypes.{same_heading}
use Rattle.td_eval.proofs.code_lemmas.TypedValues.{same_is}
use Rattle.td_plan.proofs.PartnerValues.{included_members, made_where}
use Rattle.td_plan.specs.declared.plan.step.Dyadic.TheVariants as dyadics
use Rattle.td_plan.specs.code.Plans.{dyadic_value}
use Rattle.td_plan.specs.code.StepViews.{dyadic_view}
use Rattle.td_value.specs.model.Values.{relation_value}
use Rattle.td_plan.proofs.running.partners.asked_of_members.Goals as goal

pub returns-in-LessOrEqual : goal.returns-in-LessOrEqual
returns-in-LessOrEqual c = λ r s e.
    ap (λ op. dyadic_value (dyadic_view op) (relation_value r) (relation_value s)) (c.in-Comparison.is ∙ ap dyadics.Comparison c.in-LessOrEqual.is) ∙ included_members r s e

pub returns-in-Intersect : goal.returns-in-Intersect
returns-in-Intersect c = λ r s e.
    ap (λ op. dyadic_value (dyadic_view op) (relation_value r) (relation_value s)) (c.in-Operator.is ∙ ap dyadics.Operator c.in-Intersect.is)
    ∙ made_where (λ r s. same_heading r.heading s.heading) intersection r s (same_is r.heading s.heading e)

pub returns-in-Minus : goal.returns-in-Minus
returns-in-Minus c = λ r s e.
    ap (λ op. dyadic_value (dyadic_view op) (relation_value r) (relation_value s)) (c.in-Operator.is ∙ ap dyadics.Operator c.in-Minus.is)
    ∙ made_where (λ r s. same_heading r.heading s.heading) difference r s (same_is r.heading s.heading e)
