use Rattle.td_algebra.proofs.JoinEqualities.{join_restricted}
use Rattle.td_algebra.proofs.laws.join_equalities.restriction_of_join.Goals as goal

pub returns : goal.returns
returns c = join_restricted
