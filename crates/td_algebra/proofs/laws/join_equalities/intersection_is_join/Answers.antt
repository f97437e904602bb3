use Rattle.td_algebra.proofs.JoinEqualities.{intersection_joins}
use Rattle.td_algebra.proofs.laws.join_equalities.intersection_is_join.Goals as goal

pub returns : goal.returns
returns c = intersection_joins
