use Rattle.td_eval.proofs.code_lemmas.WalkedExtension.{answers_related}
use Rattle.td_eval.specs.model.OperatorValues.{nested_names, of_relation}
use Rattle.td_group.specs.model.Nesting.{grouped_relation, wrapped_relation}
use Rattle.td_tree.specs.model.Outcomes.{with_value}
use Rattle.td_tree.specs.code.TreeViews.{attributes_view}
use Rattle.td_value.specs.model.Values.{Val}
use Rattle.td_eval.proofs.operators.postfix.postfix_value.Goals as goal

pub returns-in_ok-relation_in-in-Group : goal.returns-in_ok-relation_in-in-Group
returns-in_ok-relation_in-in-Group c =
    rw c.in-Group.is
    (answers_related (λ (v : Val). v) c.args.operand.now c.in_ok-relation_in-in-Group.field-0.now
    (λ r. with_value (nested_names (attributes_view c.in-Group.attributes) c.in-Group.name r.heading) (λ names. of_relation (grouped_relation names c.in-Group.name r)))
    c.grouped_value.result c.in_ok-relation_in-in-Group.ensures c.grouped_value.ensures)

pub returns-in_ok-relation_in-in-Wrap : goal.returns-in_ok-relation_in-in-Wrap
returns-in_ok-relation_in-in-Wrap c =
    rw c.in-Wrap.is
    (answers_related (λ (v : Val). v) c.args.operand.now c.in_ok-relation_in-in-Wrap.field-0.now
    (λ r. with_value (nested_names (attributes_view c.in-Wrap.attributes) c.in-Wrap.name r.heading) (λ names. of_relation (wrapped_relation names c.in-Wrap.name r)))
    c.wrapped_value.result c.in_ok-relation_in-in-Wrap.ensures c.wrapped_value.ensures)
