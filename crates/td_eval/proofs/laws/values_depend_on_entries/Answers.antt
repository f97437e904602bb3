use Rattle.td_eval.proofs.law_lemmas.MentionedEntries.{values_depend_on_entries}
use Rattle.td_eval.proofs.laws.values_depend_on_entries.Goals as goal

pub returns : goal.returns
returns c = values_depend_on_entries
