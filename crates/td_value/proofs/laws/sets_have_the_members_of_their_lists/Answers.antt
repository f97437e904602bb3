use Rattle.td_value.proofs.Members.{set_members}
use Rattle.td_value.proofs.laws.sets_have_the_members_of_their_lists.Goals as goal

pub returns : goal.returns
returns c = set_members
