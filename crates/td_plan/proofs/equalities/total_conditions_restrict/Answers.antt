use Rattle.td_plan.proofs.EqualValues.{total_restricts}
use Rattle.td_plan.proofs.equalities.total_conditions_restrict.Goals as goal

pub returns : goal.returns
returns c = total_restricts
