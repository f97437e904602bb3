use Rattle.td_catalog.proofs.TypedChanges.{constraints_keep}
use Rattle.td_catalog.proofs.laws.constraints_keep_typed.Goals as goal

pub returns : goal.returns
returns c = constraints_keep
