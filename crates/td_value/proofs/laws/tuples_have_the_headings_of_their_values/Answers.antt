use Rattle.td_value.proofs.KnownValues.{by_values}
use Rattle.td_value.proofs.laws.tuples_have_the_headings_of_their_values.Goals as goal

pub returns : goal.returns
returns c = by_values
