use Rattle.td_algebra.proofs.JoinMembers.{join_members}
use Rattle.td_algebra.proofs.laws.joins.join_by_membership.Goals as goal

pub returns : goal.returns
returns c = join_members
