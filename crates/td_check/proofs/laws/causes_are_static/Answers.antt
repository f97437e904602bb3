use Rattle.td_check.proofs.StaticCauses.{causes_are_static}
use Rattle.td_check.proofs.laws.causes_are_static.Goals as goal

pub returns : goal.returns
returns c = causes_are_static
