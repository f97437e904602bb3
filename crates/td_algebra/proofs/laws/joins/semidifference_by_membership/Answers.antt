use Rattle.td_algebra.proofs.JoinMembers.{semidifference_members}
use Rattle.td_algebra.proofs.laws.joins.semidifference_by_membership.Goals as goal

pub returns : goal.returns
returns c = semidifference_members
