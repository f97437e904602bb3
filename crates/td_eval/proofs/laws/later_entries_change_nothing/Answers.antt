use Rattle.td_eval.proofs.law_lemmas.LaterEntries.{later_entries_change_nothing}
use Rattle.td_eval.proofs.laws.later_entries_change_nothing.Goals as goal

pub returns : goal.returns
returns c = later_entries_change_nothing
