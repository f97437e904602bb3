use Rattle.td_algebra.proofs.Members.{divided, divides}
use Rattle.td_algebra.proofs.laws.sets.disjoint_by_membership.Goals as goal

pub returns : goal.returns
returns c = λ r s. (divided r.body s.body, divides r.body s.body)
