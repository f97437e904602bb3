use Rattle.td_check.proofs.StaticLaws.{drops_change_nothing}
use Rattle.td_check.proofs.laws.drops_change_nothing.Goals as goal

pub returns : goal.returns
returns c = drops_change_nothing
