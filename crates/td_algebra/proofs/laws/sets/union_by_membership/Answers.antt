use Rattle.td_value.proofs.Members.{joined_members}
use Rattle.td_algebra.proofs.laws.sets.union_by_membership.Goals as goal

pub returns : goal.returns
returns c = λ r s t. joined_members r.body s.body t
