use Rattle.td_check.proofs.StaticLaws.{mentions_are_known}
use Rattle.td_check.proofs.laws.mentions_are_known.Goals as goal

pub returns : goal.returns
returns c = mentions_are_known
