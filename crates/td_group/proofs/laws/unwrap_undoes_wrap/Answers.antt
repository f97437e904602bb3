use Rattle.td_group.proofs.RoundTrips.{unwrap_undoes_wrap}
use Rattle.td_group.proofs.laws.unwrap_undoes_wrap.Goals as goal

pub returns : goal.returns
returns c = unwrap_undoes_wrap
