use Rattle.td_group.proofs.ClosureLaws.{closure_by_chains}
use Rattle.td_group.proofs.laws.closure_by_chains.Goals as goal

pub returns : goal.returns
returns c = closure_by_chains
