use Rattle.td_plan.proofs.VirtualRelvars.{virtual_relvars_are_their_expressions}
use Rattle.td_plan.proofs.laws.virtual_relvars_are_their_expressions.Goals as goal

pub returns : goal.returns
returns c = virtual_relvars_are_their_expressions
