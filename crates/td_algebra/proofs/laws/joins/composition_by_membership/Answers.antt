use Rattle.td_algebra.proofs.JoinMembers.{composition_members}
use Rattle.td_algebra.proofs.laws.joins.composition_by_membership.Goals as goal

pub returns : goal.returns
returns c = composition_members
