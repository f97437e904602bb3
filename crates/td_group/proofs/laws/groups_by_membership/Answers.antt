use Rattle.td_group.proofs.NestedMembers.{groups_by_membership}
use Rattle.td_group.proofs.laws.groups_by_membership.Goals as goal

pub returns : goal.returns
returns c = groups_by_membership
