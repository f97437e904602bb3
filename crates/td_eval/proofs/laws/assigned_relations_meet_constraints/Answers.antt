use Rattle.td_eval.proofs.law_lemmas.MetAssignments.{assigned_relations_meet_constraints}
use Rattle.td_eval.proofs.laws.assigned_relations_meet_constraints.Goals as goal

pub returns : goal.returns
returns c = assigned_relations_meet_constraints
