use Rattle.td_algebra.proofs.SetEqualities.{union_turned}
use Rattle.td_algebra.proofs.laws.equalities.union_is_commutative.Goals as goal

pub returns : goal.returns
returns c = union_turned
