use Rattle.td_catalog.proofs.TypedChanges.{typed_with_body}
use Rattle.td_catalog.proofs.laws.bodies_keep_typed.Goals as goal

pub returns : goal.returns
returns c = typed_with_body
