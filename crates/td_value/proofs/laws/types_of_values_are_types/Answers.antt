use Rattle.td_value.proofs.Typed.{typed}
use Rattle.td_value.proofs.laws.types_of_values_are_types.Goals as goal

pub returns : goal.returns
returns c = typed
