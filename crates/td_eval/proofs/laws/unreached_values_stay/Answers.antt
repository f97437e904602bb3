use Rattle.td_eval.proofs.law_lemmas.UnreachedValues.{unreached_values_stay}
use Rattle.td_eval.proofs.laws.unreached_values_stay.Goals as goal

pub returns : goal.returns
returns c = unreached_values_stay
