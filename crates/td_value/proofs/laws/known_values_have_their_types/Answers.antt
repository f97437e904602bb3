use Rattle.td_value.proofs.KnownValues.{has_its_type}
use Rattle.td_value.proofs.laws.known_values_have_their_types.Goals as goal

pub returns : goal.returns
returns c = has_its_type
