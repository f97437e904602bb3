use Rattle.std.proofs.Common.{Result, subst}
use Rattle.td_eval.specs.model.OperatorValues.{of_relation}
use Rattle.td_plan.proofs.MadePlans.{relation_given}
use Rattle.td_tree.specs.declared.fault.Fault.{Fault}
use Rattle.td_tree.specs.model.Outcomes.{Answers, with_value}
use Rattle.td_value.specs.model.Values.{Val}
use Rattle.td_plan.proofs.values.relation_of.Goals as goal

pub returns : goal.returns
returns c = λ o told.
    relation_given o c.in_ok-value.value c.in_ok-relation_in.field-0.now c.in_ok-try_clone.field-0
    (subst (λ (a : Result Val Fault). Answers (λ (v : Val). v) a (with_value o of_relation)) c.in_ok-value.was told)
    c.in_ok-relation_in.ensures c.in_ok-try_clone.ensures
