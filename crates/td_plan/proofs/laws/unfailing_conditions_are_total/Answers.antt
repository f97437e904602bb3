use Rattle.td_plan.proofs.TotalConditions.{unfailing_conditions_are_total}
use Rattle.td_plan.proofs.laws.unfailing_conditions_are_total.Goals as goal

pub returns : goal.returns
returns c = unfailing_conditions_are_total
