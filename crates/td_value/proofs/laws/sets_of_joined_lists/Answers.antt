use Rattle.td_value.proofs.Members.{joined_members}
use Rattle.td_value.proofs.laws.sets_of_joined_lists.Goals as goal

pub returns : goal.returns
returns c = joined_members
