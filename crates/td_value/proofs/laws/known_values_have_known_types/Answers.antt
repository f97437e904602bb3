use Rattle.td_value.proofs.KnownValues.{has_known_type}
use Rattle.td_value.proofs.laws.known_values_have_known_types.Goals as goal

pub returns : goal.returns
returns c = has_known_type
