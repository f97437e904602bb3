use Rattle.td_algebra.proofs.SetEqualities.{restriction_of_intersection}
use Rattle.td_algebra.proofs.laws.equalities.restriction_of_an_intersection.Goals as goal

pub returns : goal.returns
returns c = restriction_of_intersection
