use Rattle.td_check.proofs.StaticLaws.{more_changes_nothing}
use Rattle.td_check.proofs.laws.more_changes_nothing.Goals as goal

pub returns : goal.returns
returns c = more_changes_nothing
