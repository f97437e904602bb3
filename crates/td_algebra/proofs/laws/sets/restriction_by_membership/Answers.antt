use Rattle.td_algebra.proofs.Lists.{contains_filter}
use Rattle.td_algebra.proofs.laws.sets.restriction_by_membership.Goals as goal

pub returns : goal.returns
returns c = λ p r t. contains_filter p r.body t
