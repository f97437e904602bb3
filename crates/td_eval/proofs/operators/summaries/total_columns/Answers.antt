use Rattle.std.proofs.Common.{ℕ, List, ap, map, subst}
use Rattle.std.specs.Global.{Vec}
use Rattle.std.specs.List.{zip}
use Rattle.td_algebra.specs.code.Columns.{columns_view}
use Rattle.td_algebra.specs.declared.extension.Column.{Column}
use Rattle.td_eval.proofs.code_lemmas.WalkedColumns.{beside_at, beside_past, beside_within}
use Rattle.td_eval.proofs.code_lemmas.WalkedLists.{walked}
use Rattle.td_eval.proofs.code_lemmas.WalkedTotals.{total_column, total_columns_are}
use Rattle.td_eval.specs.code.NewColumns.{column_view}
use Rattle.td_eval.specs.code.Totals.{total_values, total_view}
use Rattle.td_tree.proofs.code_lemmas.Gatherings.{collected_next}
use Rattle.td_tree.specs.model.Outcomes.{Answers, gathered}
use Rattle.td_types.specs.code.Views.{type_view}
use Rattle.td_value.specs.model.Values.{Val}
use Rattle.td_eval.proofs.operators.summaries.total_columns.Goals as goal

pub loop-place-preserved : goal.loop-place-preserved
loop-place-preserved c =
    let l = c.loop-place in
    let total = c.index-totals-place.result in
    let attribute = c.index-attributes-place.result in
    let values = subst (λ vss. Answers (λ (vs : Vec Val). vs.items) c.total_values-values.result (total_values (type_view attribute.1) (total.0, map (λ vs. vs.items) vss)))
    c.deref.ensures.value c.total_values-values.ensures in
    collected_next column_view total_column (zip c.args.attributes.now c.args.totals.now) l.place
    (beside_within c.args.attributes.now c.args.totals.now l.place c.requires c.loop-place-test.true)
    (beside_at c.args.attributes.now c.args.totals.now l.place attribute total c.requires c.loop-place-test.true c.index-attributes-place.is c.index-totals-place.is)
    l.invariant (c.named_column.ensures (total_values (type_view attribute.1) (total_view total)) values) c.in_ok-collect.ensures

pub returns : goal.returns
returns c =
    walked (λ (cs : Vec (List ℕ × Column)). columns_view cs.items) total_column (zip c.args.attributes.now c.args.totals.now) c.loop-place.place
    (beside_past c.args.attributes.now c.args.totals.now c.loop-place.place c.requires c.loop-place-test.false)
    c.loop-place.causes c.loop-place.columns c.finish.result c.finish.ensures c.loop-place.invariant _
    (ap gathered (total_columns_are c.args.attributes.now c.args.totals.now))
