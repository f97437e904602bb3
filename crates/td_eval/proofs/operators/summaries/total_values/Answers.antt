use Rattle.std.proofs.Common.{ap, subst, sym}
use Rattle.std.specs.Global.{Vec}
use Rattle.td_check.proofs.GatheredAnswers.{map_twice}
use Rattle.td_eval.proofs.code_lemmas.WalkedLists.{walked_values}
use Rattle.td_eval.specs.model.AggregateValues.{aggregate_of}
use Rattle.td_eval.specs.model.OperatorValues.{value_of_type}
use Rattle.td_tree.proofs.code_lemmas.Gatherings.{collected_next}
use Rattle.td_tree.specs.model.Outcomes.{Answers, gathered, with_value}
use Rattle.td_types.specs.code.Views.{type_view}
use Rattle.td_value.specs.model.Values.{Val}
use Rattle.td_eval.proofs.operators.summaries.total_values.Goals as goal

pub loop-group-preserved : goal.loop-group-preserved
loop-group-preserved c =
    collected_next (λ v. v) (λ (vs : Vec Val). with_value (aggregate_of c.args.asked vs.items) (value_of_type (type_view c.args.ty.now))) c.args.groups.now c.loop-group.group-index
    c.loop-group-test.true c.group-item.is c.loop-group.invariant
    (c.value_of_its_type-value.ensures (aggregate_of c.args.asked c.group-item.result.items)
    (subst (λ vs. Answers (λ (v : Val). v) c.aggregate_of.result (aggregate_of c.args.asked vs)) c.deref.ensures.value c.aggregate_of.ensures))
    c.in_ok-collect.ensures

pub returns : goal.returns
returns c =
    walked_values (λ (vs : Vec Val). with_value (aggregate_of c.args.asked vs.items) (value_of_type (type_view c.args.ty.now))) c.args.groups.now c.loop-group.group-index
    c.loop-group-test.false c.loop-group.causes c.loop-group.values c.finish.result c.finish.ensures c.loop-group.invariant _
    (ap gathered (sym (map_twice (λ vs. with_value (aggregate_of c.args.asked vs) (value_of_type (type_view c.args.ty.now))) (λ (vs : Vec Val). vs.items) c.args.groups.now)))
