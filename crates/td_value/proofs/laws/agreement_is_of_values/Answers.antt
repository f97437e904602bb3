use Rattle.td_value.proofs.Agreement.{agreement_of_values}
use Rattle.td_value.proofs.laws.agreement_is_of_values.Goals as goal

pub returns : goal.returns
returns c = agreement_of_values
