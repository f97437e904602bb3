use Rattle.td_check.proofs.NameSets.{names_are_a_set}
use Rattle.td_check.proofs.laws.names_are_a_set.Goals as goal

pub returns : goal.returns
returns c = names_are_a_set
