use Rattle.td_catalog.proofs.TypedChanges.{base_relvars_keep}
use Rattle.td_catalog.proofs.laws.base_relvars_keep_typed.Goals as goal

pub returns : goal.returns
returns c = base_relvars_keep
