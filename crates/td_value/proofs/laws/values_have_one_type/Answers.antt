use Rattle.td_value.proofs.KnownValues.{one_type}
use Rattle.td_value.proofs.laws.values_have_one_type.Goals as goal

pub returns : goal.returns
returns c = one_type
