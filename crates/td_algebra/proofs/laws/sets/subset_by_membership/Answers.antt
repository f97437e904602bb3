use Rattle.td_algebra.proofs.Members.{included, includes}
use Rattle.td_algebra.proofs.laws.sets.subset_by_membership.Goals as goal

pub returns : goal.returns
returns c = λ r s. (included r.body s.body, includes r.body s.body)
