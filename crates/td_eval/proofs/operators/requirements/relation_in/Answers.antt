use Rattle.td_eval.proofs.code_lemmas.OpValues.{relation_unpacked}
use Rattle.td_tree.specs.model.Outcomes.{Valued}
use Rattle.td_eval.proofs.operators.requirements.relation_in.Goals as goal

pub returns-in-Rel : goal.returns-in-Rel
returns-in-Rel c = rw (← c.v.view_is, c.in-Rel.is, c.deref.ensures) (relation_unpacked c.in-Rel.r.value (λ r. Valued r))
