use Rattle.std.proofs.Common.{◌∙◌, ap, length, map, reverse, subst, sym}
use Rattle.std.proofs.lemmas.List.{length-map}
use Rattle.td_check.specs.model.Scopes.{entered_with}
use Rattle.td_eval.proofs.code_lemmas.WalkedTotals.{as_many_attributes, as_many_items, as_many_totals}
use Rattle.td_eval.specs.model.AggregateValues.{summary_in}
use Rattle.td_eval.specs.model.OperatorValues.{extended_value}
use Rattle.td_eval.specs.code.LentWorlds.{seen_by}
use Rattle.td_eval.specs.code.Totals.{total_view}
use Rattle.td_eval.specs.model.TreeValues.{items_in_tuples}
use Rattle.td_eval.specs.model.Worlds.{with_tuples}
use Rattle.td_group.specs.model.Groups.{groups}
use Rattle.td_tree.specs.model.Outcomes.{Answers, Valued}
use Rattle.td_tree.specs.code.TreeViews.{summaries_view}
use Rattle.td_types.specs.code.Pairs.{pair_view}
use Rattle.td_types.specs.code.Views.{pairs_view}
use Rattle.td_value.specs.model.Values.{Val}
use Rattle.td_eval.proofs.operators.summaries.extended_per.Goals as goal

pub summary_by-requires-clause-lengths : goal.summary_by-requires-clause-lengths
summary_by-requires-clause-lengths g c =
    let scope = entered_with c.args.rel.now.heading (with_tuples (seen_by c.args.lent.now).scope (reverse c.args.tuples.now)) in
    let items = items_in_tuples (seen_by c.args.lent.now) (reverse c.args.tuples.now) (summaries_view c.args.items.now) in
    let attributes = pairs_view c.in_ok-attributes.attributes.items in
    ap length c.deref.ensures.value ∙ sym (length-map c.in_ok-attributes.attributes.items pair_view)
    ∙ as_many_attributes scope c.args.items.now attributes c.in_ok-attributes.ensures
    ∙ sym (as_many_items (seen_by c.args.lent.now) (reverse c.args.tuples.now) c.args.items.now)
    ∙ sym (as_many_totals (groups c.args.rel.now c.args.per.now) items (map total_view c.args.totals.now) c.requires.totals) ∙ length-map c.args.totals.now total_view

pub summary_by-requires-clause-totals : goal.summary_by-requires-clause-totals
summary_by-requires-clause-totals g c =
    (c.args.rel.now, items_in_tuples (seen_by c.args.lent.now) (reverse c.args.tuples.now) (summaries_view c.args.items.now), c.requires.totals)

pub returns : goal.returns
returns g c =
    let items = items_in_tuples (seen_by c.args.lent.now) (reverse c.args.tuples.now) (summaries_view c.args.items.now) in
    let fs = map (summary_in c.args.rel.now c.args.per.now) items in
    subst (λ o. Answers (λ (v : Val). v) c.summary_by.result (extended_value o fs c.args.per.now))
    (ap Valued (ap pairs_view c.deref.ensures.value) ∙ sym c.in_ok-attributes.ensures)
    (c.summary_by.ensures c.args.rel.now items c.requires.totals)
