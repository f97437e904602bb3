use Rattle.td_engine.proofs.law_lemmas.StayingConditions.{conditions_stay_in_tuples}
use Rattle.td_engine.proofs.laws.conditions_stay_in_tuples.Goals as goal

pub returns : goal.returns
returns c = conditions_stay_in_tuples
