use Rattle.td_catalog.proofs.TypedChanges.{virtual_relvars_keep}
use Rattle.td_catalog.proofs.laws.virtual_relvars_keep_typed.Goals as goal

pub returns : goal.returns
returns c = virtual_relvars_keep
