use Rattle.td_value.proofs.Agreement.{tuples_of_values}
use Rattle.td_value.proofs.laws.tuples_are_their_values.Goals as goal

pub returns : goal.returns
returns c = tuples_of_values
