use Rattle.td_algebra.proofs.SetEqualities.{intersection_grouped}
use Rattle.td_algebra.proofs.laws.equalities.intersection_is_associative.Goals as goal

pub returns : goal.returns
returns c = intersection_grouped
