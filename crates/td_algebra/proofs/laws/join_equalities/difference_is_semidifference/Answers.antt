use Rattle.td_algebra.proofs.JoinEqualities.{difference_lacks}
use Rattle.td_algebra.proofs.laws.join_equalities.difference_is_semidifference.Goals as goal

pub returns : goal.returns
returns c = difference_lacks
