use Rattle.td_group.proofs.ClosureLaws.{closure_is_least}
use Rattle.td_group.proofs.laws.closure_is_least.Goals as goal

pub returns : goal.returns
returns c = closure_is_least
