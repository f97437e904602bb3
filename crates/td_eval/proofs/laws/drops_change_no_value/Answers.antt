use Rattle.td_eval.proofs.law_lemmas.DroppedEntries.{drops_change_no_value}
use Rattle.td_eval.proofs.laws.drops_change_no_value.Goals as goal

pub returns : goal.returns
returns c = drops_change_no_value
