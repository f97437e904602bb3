use Rattle.td_value.proofs.Members.{by_members}
use Rattle.td_value.proofs.laws.relations_are_their_members.Goals as goal

pub returns : goal.returns
returns c = by_members
