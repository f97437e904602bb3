use Rattle.td_algebra.proofs.JoinEqualities.{semijoin_projects}
use Rattle.td_algebra.proofs.laws.join_equalities.semijoin_is_projected_join.Goals as goal

pub returns : goal.returns
returns c = semijoin_projects
