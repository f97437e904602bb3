use Rattle.td_eval.proofs.law_lemmas.LaterTypes.{cut_types_keep_constraints}
use Rattle.td_eval.proofs.laws.cut_types_keep_constraints.Goals as goal

pub returns : goal.returns
returns c = cut_types_keep_constraints
