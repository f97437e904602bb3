use Rattle.td_algebra.proofs.SetEqualities.{union_grouped}
use Rattle.td_algebra.proofs.laws.equalities.union_is_associative.Goals as goal

pub returns : goal.returns
returns c = union_grouped
