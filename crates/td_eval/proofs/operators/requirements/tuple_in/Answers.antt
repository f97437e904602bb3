use Rattle.td_eval.proofs.code_lemmas.OpValues.{tuple_unpacked}
use Rattle.td_tree.specs.model.Outcomes.{Valued}
use Rattle.td_eval.proofs.operators.requirements.tuple_in.Goals as goal

pub returns-in-Tup : goal.returns-in-Tup
returns-in-Tup c = rw (← c.v.view_is, c.in-Tup.is, c.deref.ensures) (tuple_unpacked c.in-Tup.t.value (λ t. Valued t))
