use Rattle.td_types.proofs.HeadingLaws.{renaming_keeps_types}
use Rattle.td_types.proofs.laws.renaming_keeps_types.Goals as goal

pub returns : goal.returns
returns c = renaming_keeps_types
