use Rattle.td_group.proofs.NestedMembers.{unnest_by_membership}
use Rattle.td_group.proofs.laws.unnest_by_membership.Goals as goal

pub returns : goal.returns
returns c = unnest_by_membership
