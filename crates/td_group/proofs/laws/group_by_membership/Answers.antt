use Rattle.td_group.proofs.GroupMembers.{group_by_membership}
use Rattle.td_group.proofs.laws.group_by_membership.Goals as goal

pub returns : goal.returns
returns c = group_by_membership
