use Rattle.td_engine.proofs.code_lemmas.AddedTuples.{constraints_are_tested_by_additions}
use Rattle.td_engine.proofs.laws.constraints_are_tested_by_additions.Goals as goal

pub returns : goal.returns
returns c = constraints_are_tested_by_additions
