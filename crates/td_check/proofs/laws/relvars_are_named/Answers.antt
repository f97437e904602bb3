use Rattle.td_check.proofs.WrittenNames.{relvars_are_named}
use Rattle.td_check.proofs.laws.relvars_are_named.Goals as goal

pub returns : goal.returns
returns c = relvars_are_named
