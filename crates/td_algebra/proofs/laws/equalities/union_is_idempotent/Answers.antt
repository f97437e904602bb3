use Rattle.td_algebra.proofs.SetEqualities.{union_itself}
use Rattle.td_algebra.proofs.laws.equalities.union_is_idempotent.Goals as goal

pub returns : goal.returns
returns c = union_itself
