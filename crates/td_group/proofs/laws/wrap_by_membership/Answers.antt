use Rattle.td_group.proofs.NestedMembers.{wrap_by_membership}
use Rattle.td_group.proofs.laws.wrap_by_membership.Goals as goal

pub returns : goal.returns
returns c = wrap_by_membership
