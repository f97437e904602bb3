use Rattle.td_catalog.proofs.TypedChanges.{typed_empty}
use Rattle.td_catalog.proofs.laws.empty_database_is_typed.Goals as goal

pub returns : goal.returns
returns c = typed_empty
