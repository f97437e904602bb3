use Rattle.td_catalog.proofs.EntriesLess.{drops_keep}
use Rattle.td_catalog.proofs.laws.drops_keep_typed.Goals as goal

pub returns : goal.returns
returns c = drops_keep
