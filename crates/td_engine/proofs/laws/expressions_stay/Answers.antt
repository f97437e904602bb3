use Rattle.td_engine.proofs.law_lemmas.StayingConditions.{expressions_stay}
use Rattle.td_engine.proofs.laws.expressions_stay.Goals as goal

pub returns : goal.returns
returns c = expressions_stay
