use Rattle.td_algebra.proofs.JoinEqualities.{join_commutes}
use Rattle.td_algebra.proofs.laws.join_equalities.join_is_commutative.Goals as goal

pub returns : goal.returns
returns c = join_commutes
