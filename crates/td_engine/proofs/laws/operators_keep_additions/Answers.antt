use Rattle.td_engine.proofs.law_lemmas.AddedOperators.{operators_keep_additions}
use Rattle.td_engine.proofs.laws.operators_keep_additions.Goals as goal

pub returns : goal.returns
returns c = operators_keep_additions
