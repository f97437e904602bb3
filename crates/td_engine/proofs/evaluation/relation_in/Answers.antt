use Rattle.td_engine.specs.model.Assignments.{of_heading}
use Rattle.td_eval.proofs.code_lemmas.OpValues.{relation_unpacked}
use Rattle.td_engine.proofs.evaluation.relation_in.Goals as goal

pub returns-in_ok-try_clone-in-Rel-clause-answer : goal.returns-in_ok-try_clone-in-Rel-clause-answer
returns-in_ok-try_clone-in-Rel-clause-answer c = λ r same.
    rw (← c.value.view_is, c.in-Rel.is, relation_unpacked c.in-Rel.relation.value (of_heading r), ← c.deref.ensures, ← c.in_ok-try_clone-in-Rel.ensures) (c.of_heading.ensures.answer r same)
