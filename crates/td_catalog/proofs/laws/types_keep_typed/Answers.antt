use Rattle.td_catalog.proofs.TypedChanges.{types_keep}
use Rattle.td_catalog.proofs.laws.types_keep_typed.Goals as goal

pub returns : goal.returns
returns c = types_keep
