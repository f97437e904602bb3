use Rattle.td_engine.proofs.law_lemmas.Emptiness.{emptiness_is_of_additions}
use Rattle.td_engine.proofs.laws.emptiness_is_of_additions.Goals as goal

pub returns : goal.returns
returns c = emptiness_is_of_additions
