use Rattle.td_body.proofs.Differences.{replaced}
use Rattle.td_body.proofs.laws.whole_is_replaced.Goals as goal

pub returns : goal.returns
returns c = replaced
