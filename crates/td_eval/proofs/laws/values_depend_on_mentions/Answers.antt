use Rattle.td_eval.proofs.law_lemmas.MentionedValues.{values_depend_on_mentions}
use Rattle.td_eval.proofs.laws.values_depend_on_mentions.Goals as goal

pub returns : goal.returns
returns c = values_depend_on_mentions
