use Rattle.td_algebra.proofs.JoinEqualities.{product_is_join}
use Rattle.td_algebra.proofs.laws.join_equalities.product_is_join.Goals as goal

pub returns : goal.returns
returns c = product_is_join
