use Rattle.td_algebra.proofs.SetEqualities.{restriction_of_difference}
use Rattle.td_algebra.proofs.laws.equalities.restriction_of_a_difference.Goals as goal

pub returns : goal.returns
returns c = restriction_of_difference
