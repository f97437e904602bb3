use Rattle.td_eval.proofs.law_lemmas.MetWorlds.{values_meet_constraints}
use Rattle.td_eval.proofs.laws.values_meet_constraints.Goals as goal

pub returns : goal.returns
returns c = values_meet_constraints
