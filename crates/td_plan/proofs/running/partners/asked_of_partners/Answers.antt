use Rattle.std.proofs.Common.{◌∙◌, ap}
use Rattle.td_algebra.specs.model.Operators.{semidifference, semijoin}
use Rattle.td_plan.proofs.PartnerValues.{made_where}
use Rattle.td_plan.specs.declared.plan.step.Dyadic.TheVariants as dyadics
use Rattle.td_plan.specs.code.Plans.{dyadic_value}
use Rattle.td_plan.specs.code.StepViews.{dyadic_view}
use Rattle.td_types.specs.model.Headings.{agree}
use Rattle.td_value.specs.model.Values.{relation_value}
use Rattle.td_plan.proofs.running.partners.asked_of_partners.Goals as goal

pub returns-in-Matching : goal.returns-in-Matching
returns-in-Matching c = λ r s e.
    ap (λ op. dyadic_value (dyadic_view op) (relation_value r) (relation_value s)) (c.in-Operator.is ∙ ap dyadics.Operator c.in-Matching.is)
    ∙ made_where (λ r s. agree r.heading s.heading) semijoin r s e

pub returns-in-NotMatching : goal.returns-in-NotMatching
returns-in-NotMatching c = λ r s e.
    ap (λ op. dyadic_value (dyadic_view op) (relation_value r) (relation_value s)) (c.in-Operator.is ∙ ap dyadics.Operator c.in-NotMatching.is)
    ∙ made_where (λ r s. agree r.heading s.heading) semidifference r s e
