use Rattle.td_value.proofs.KnownValues.{by_components}
use Rattle.td_value.proofs.laws.user_values_are_of_their_types.Goals as goal

pub returns : goal.returns
returns c = by_components
