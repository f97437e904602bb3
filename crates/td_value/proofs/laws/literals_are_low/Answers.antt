use Rattle.td_value.proofs.LiteralHeights.{low}
use Rattle.td_value.proofs.laws.literals_are_low.Goals as goal

pub returns : goal.returns
returns c = low
