use Rattle.td_algebra.proofs.SetEqualities.{restriction_of_union}
use Rattle.td_algebra.proofs.laws.equalities.restriction_of_a_union.Goals as goal

pub returns : goal.returns
returns c = restriction_of_union
