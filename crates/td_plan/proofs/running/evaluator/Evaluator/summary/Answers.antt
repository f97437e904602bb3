use Rattle.std.proofs.Common.{◌≡◌, ◌≢◌, Err, arith, length, map, refl, rules, subst, sym}
use Rattle.std.proofs.lemmas.List.{length-map}
use Rattle.std.proofs.lemmas.Result.{err_from_is_err_and}
use Rattle.std.specs.Borrow.{Bor}
use Rattle.std.specs.Global.{Vec}
use Rattle.std.specs.List.{zip}
use Rattle.td_eval.proofs.code_lemmas.OpValues.{related as both_related}
use Rattle.td_eval.proofs.code_lemmas.WalkedTotals.{as_many_totals, totals_given, totals_refused}
use Rattle.td_eval.specs.model.AggregateValues.{summarized_value, summary_value}
use Rattle.td_eval.specs.code.Totals.{total_of, total_view}
use Rattle.td_group.specs.declared.aggregates.Agg.{Agg}
use Rattle.td_group.specs.model.Groups.{groups}
use Rattle.td_plan.proofs.MemoLaws.{kept_outside, ready_below}
use Rattle.td_plan.proofs.RunLaws.{where_equal, where_unequal}
use Rattle.td_plan.proofs.SummaryLaws.{as_many_items, relations_refused}
use Rattle.td_plan.specs.code.Hands.{slots_in, slots_of}
use Rattle.td_plan.specs.code.Memos.{AreSound}
use Rattle.td_plan.specs.code.Runs.{values_in}
use Rattle.td_tree.specs.declared.cause.Cause.TheVariants as causes
use Rattle.td_tree.specs.model.Outcomes.{Answers, Valued, gathered}
use Rattle.td_types.proofs.OutcomeLaws.{value_of_test}
use Rattle.td_types.specs.model.Headings.{is_part}
use Rattle.td_types.specs.code.Pairs.{pair_view}
use Rattle.td_types.specs.code.Views.{pairs_view}
use Rattle.td_value.specs.model.Values.{Relation, Val}
use Rattle.td_plan.proofs.running.evaluator.Evaluator.summary.Goals as goal

pub totals-requires-clause-ready : goal.totals-requires-clause-ready
totals-requires-clause-ready g c =
    let r = c.requires.ready in
    ready_below c.in_ok-inside.ensures.slot c.in_ok-inside.ensures.outer
    (record { parts = r.parts; sound = r.sound; memo = c.in_ok-inside.ensures.memo r.parts (g.A.InWorld.world c.args.self.now.around.now) r.memo })

pub returns-then-items-item_count : goal.returns-then-items-item_count
returns-then-items-item_count g c = λ ps sound m.
    let w = g.A.InWorld.world c.args.self.now.around.now in
    let s = slots_of c.args.hand.now in
    let of = c.args.items.now in
    let items = zip of.aggregates.now (values_in w s of.slot of.values.now) in
    let attributes = pairs_view of.attributes.now in
    let attribute_count = length-map of.attributes.now pair_view in
    let count = as_many_items w of.aggregates.now of.values.now s of.slot in
    let apart : length attributes ≢ length items = λ e. absurd (omega (arith, e, attribute_count, count, c.item_count.ensures.count)) in
    (rw (where_unequal attributes items (summary_value (λ h. Valued attributes) items c.args.operand.now c.args.per.now) apart) refl, m)

pub returns-in_err-rel : goal.returns-in_err-rel
returns-in_err-rel g c = λ ps sound m.
    let w = g.A.InWorld.world c.args.self.now.around.now in
    let s = slots_of c.args.hand.now in
    let of = c.args.items.now in
    let items = zip of.aggregates.now (values_in w s of.slot of.values.now) in
    let attributes = pairs_view of.attributes.now in
    let attribute_count = length-map of.attributes.now pair_view in
    let count = as_many_items w of.aggregates.now of.values.now s of.slot in
    let equal : length attributes ≡ length items = omega (arith, attribute_count, count, c.item_count.ensures.count) in
    let e = err_from_is_err_and c.from_residual.result c.from_residual.ensures.1 in (
      rw (e.1, e.2, where_equal attributes items (summary_value (λ h. Valued attributes) items c.args.operand.now c.args.per.now) equal)
          (relations_refused c.args.operand.now c.args.per.now (λ r p. summarized_value (Valued attributes) items r p) (λ (both : Bor Relation × Bor Relation). (both.0.now, both.1.now)) _ c.in_err-rel.ensures),
      m,
    )

pub returns-in_err-inside : goal.returns-in_err-inside
returns-in_err-inside g c = λ ps sound m. (search rules, c.entered.ensures.memo ps (g.A.InWorld.world c.args.self.now.around.now) m (slots_of c.args.hand.now) (λ j l. refl))

pub summary_by-requires : goal.summary_by-requires
summary_by-requires g c =
    let ready = c.requires.ready in
    let w = g.A.InWorld.world c.args.self.now.around.now in
    let s = slots_of c.args.hand.now in
    let of = c.args.items.now in
    let items = zip of.aggregates.now (values_in w s of.slot of.values.now) in
    let attributes = pairs_view of.attributes.now in
    let attribute_count = length-map of.attributes.now pair_view in
    let count = as_many_items w of.aggregates.now of.values.now s of.slot in
    let r = c.in_ok-rel.rel.now in
    let p = c.in_ok-rel.per.now in
    let gs = c.in_ok-groups.groups.items in
    let parted : groups r p ≡ gs = (value_of_test (is_part p.heading r.heading) (groups r p) gs causes.Heading c.in_ok-groups.ensures).1 in
    let found = map total_view c.deref-2.result.now in
    let d = kept_outside w of.slot c.in_ok-inside.inside.slot s (slots_in c.in_ok-inside.inside.outer.items) c.entered.new.memo c.totals.new.memo (λ ps. AreSound ps of.values.now)
    (λ k t. gathered (map (total_of c.deref.result.now) (zip of.aggregates.now (values_in w t k of.values.now))) ≡ Valued (map total_view c.in_ok-totals.totals.items))
    c.in_ok-inside.ensures.slot c.in_ok-inside.ensures.outer c.in_ok-totals.ensures ready.parts ready.sound (c.in_ok-inside.ensures.memo ready.parts w ready.memo) in
    let totals : gathered (map (total_of (groups r p)) items) ≡ Valued found =
    rw (parted, c.deref-2.ensures.value) (subst (λ gs. gathered (map (total_of gs) items) ≡ Valued (map total_view c.in_ok-totals.totals.items)) c.deref.ensures.value d.0) in
    let many = as_many_totals (groups r p) items found totals in
    let total_count = length-map c.deref-2.result.now total_view in
    record { lengths = omega (arith, attribute_count, count, c.item_count.ensures.count, many, total_count); totals = (r, items, totals) }

pub returns-in_err-totals : goal.returns-in_err-totals
returns-in_err-totals g c = λ ps sound m.
    let w = g.A.InWorld.world c.args.self.now.around.now in
    let s = slots_of c.args.hand.now in
    let of = c.args.items.now in
    let items = zip of.aggregates.now (values_in w s of.slot of.values.now) in
    let attributes = pairs_view of.attributes.now in
    let attribute_count = length-map of.attributes.now pair_view in
    let count = as_many_items w of.aggregates.now of.values.now s of.slot in
    let r = c.in_ok-rel.rel.now in
    let p = c.in_ok-rel.per.now in
    let gs = c.in_ok-groups.groups.items in
    let equal : length attributes ≡ length items = omega (arith, attribute_count, count, c.item_count.ensures.count) in
    let summary = λ (r : Relation) (p : Relation). summarized_value (Valued attributes) items r p in
    let e = err_from_is_err_and c.from_residual-in_err-totals.result c.from_residual-in_err-totals.ensures.1 in
    let view = λ (ts : Vec (Agg × Vec (Vec Val))). map total_view ts.items in
    let d = kept_outside w of.slot c.in_ok-inside.inside.slot s (slots_in c.in_ok-inside.inside.outer.items) c.entered.new.memo c.totals.new.memo (λ ps. AreSound ps of.values.now)
    (λ k t. Answers view (Err c.in_err-totals.field-0.0) (gathered (map (total_of c.deref.result.now) (zip of.aggregates.now (values_in w t k of.values.now)))))
    c.in_ok-inside.ensures.slot c.in_ok-inside.ensures.outer c.in_err-totals.ensures ps sound (c.in_ok-inside.ensures.memo ps w m) in
    let totals = subst (λ gs. Answers view (Err c.in_err-totals.field-0.0) (gathered (map (total_of gs) items))) c.deref.ensures.value d.0 in (
      rw (e.1, e.2, where_equal attributes items (summary_value (λ h. Valued attributes) items c.args.operand.now c.args.per.now) equal, both_related c.args.operand.now c.args.per.now r p summary c.in_ok-rel.ensures)
          (totals_refused (Valued attributes) items r p gs c.in_ok-groups.ensures view c.in_err-totals.field-0.0 totals),
      d.1,
    )

pub returns : goal.returns
returns g c = λ ps sound m.
    let w = g.A.InWorld.world c.args.self.now.around.now in
    let s = slots_of c.args.hand.now in
    let of = c.args.items.now in
    let items = zip of.aggregates.now (values_in w s of.slot of.values.now) in
    let attributes = pairs_view of.attributes.now in
    let attribute_count = length-map of.attributes.now pair_view in
    let count = as_many_items w of.aggregates.now of.values.now s of.slot in
    let r = c.in_ok-rel.rel.now in
    let p = c.in_ok-rel.per.now in
    let gs = c.in_ok-groups.groups.items in
    let equal : length attributes ≡ length items = omega (arith, attribute_count, count, c.item_count.ensures.count) in
    let summary = λ (r : Relation) (p : Relation). summarized_value (Valued attributes) items r p in
    let found = map total_view c.in_ok-totals.totals.items in
    let d = kept_outside w of.slot c.in_ok-inside.inside.slot s (slots_in c.in_ok-inside.inside.outer.items) c.entered.new.memo c.totals.new.memo (λ ps. AreSound ps of.values.now)
    (λ k t. gathered (map (total_of c.deref.result.now) (zip of.aggregates.now (values_in w t k of.values.now))) ≡ Valued found)
    c.in_ok-inside.ensures.slot c.in_ok-inside.ensures.outer c.in_ok-totals.ensures ps sound (c.in_ok-inside.ensures.memo ps w m) in
    let totals : gathered (map (total_of gs) items) ≡ Valued found = subst (λ gs. gathered (map (total_of gs) items) ≡ Valued found) c.deref.ensures.value d.0 in
    let parted : groups r p ≡ gs = (value_of_test (is_part p.heading r.heading) (groups r p) gs causes.Heading c.in_ok-groups.ensures).1 in (
      rw (where_equal attributes items (summary_value (λ h. Valued attributes) items c.args.operand.now c.args.per.now) equal, both_related c.args.operand.now c.args.per.now r p summary c.in_ok-rel.ensures)
          (totals_given (Valued attributes) items r p gs c.in_ok-groups.ensures found totals c.summary_by.result
          (c.summary_by.ensures r items (subst (λ gs. gathered (map (total_of gs) items) ≡ Valued (map total_view c.deref-2.result.now)) (sym parted) (rw c.deref-2.ensures.value totals)))),
      d.1,
    )
