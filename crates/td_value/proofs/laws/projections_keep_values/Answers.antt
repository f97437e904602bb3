use Rattle.td_value.proofs.Agreement.{value_of_projection}
use Rattle.td_value.proofs.laws.projections_keep_values.Goals as goal

pub returns : goal.returns
returns c = value_of_projection
