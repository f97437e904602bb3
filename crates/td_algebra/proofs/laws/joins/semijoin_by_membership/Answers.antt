use Rattle.td_algebra.proofs.JoinMembers.{semijoin_members}
use Rattle.td_algebra.proofs.laws.joins.semijoin_by_membership.Goals as goal

pub returns : goal.returns
returns c = semijoin_members
