use Rattle.td_algebra.proofs.JoinEqualities.{join_associates}
use Rattle.td_algebra.proofs.laws.join_equalities.join_is_associative.Goals as goal

pub returns : goal.returns
returns c = join_associates
