use Rattle.td_algebra.proofs.SetEqualities.{intersection_itself}
use Rattle.td_algebra.proofs.laws.equalities.intersection_is_idempotent.Goals as goal

pub returns : goal.returns
returns c = intersection_itself
