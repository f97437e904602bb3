use Rattle.td_algebra.proofs.SetEqualities.{intersection_turned}
use Rattle.td_algebra.proofs.laws.equalities.intersection_is_commutative.Goals as goal

pub returns : goal.returns
returns c = intersection_turned
