use Rattle.std.proofs.Common.{◌≡◌, ◌∙◌, ap, map, subst, sym, List}
use Rattle.std.proofs.lemmas.List.{take_all}
use Rattle.std.specs.List.Sorted.{IsPermutation}
use Rattle.td_algebra.specs.code.Layouts.{numbered_sources}
use Rattle.std.proofs.lemmas.Result.{IfOk-weaker}
use Rattle.td_plan.proofs.Granted.{granted, quick_granted}
use Rattle.td_plan.proofs.QuickRows.{one_more}
use Rattle.td_plan.proofs.SlotLaws.{agree_below}
use Rattle.td_plan.specs.code.Hands.{slots_in, slots_inside}
use Rattle.td_plan.specs.code.Memberships.{tuple_in_slots, tuple_inside}
use Rattle.td_plan.specs.code.Memos.{IsMemo}
use Rattle.td_tree.specs.model.Outcomes.{Valued}
use Rattle.td_value.specs.model.Values.{Tuple, tuple_value}
use Rattle.td_value.specs.code.Views.{values_of}
use Rattle.td_plan.proofs.running.memberships.tuples_of.Goals as goal

pub loop-row-init : goal.loop-row-init
loop-row-init c =
    let new = granted c.new.result c.in_ok-laid.laid _ c.in_ok-laid.ensures.value c.new.ensures in
    (ap (λ p. p.0) new, λ ps w sound m. ap (λ (ts : List Tuple). map (λ t. Valued (tuple_value t)) ts) (sym (ap (λ p. p.1) new)))

pub put_tuple-requires-clause-places : goal.put_tuple-requires-clause-places
put_tuple-requires-clause-places c = subst (IsPermutation (numbered_sources 0 c.args.names.now)) (sym c.loop-row.invariant.0) c.requires.places

pub loop-row-preserved : goal.loop-row-preserved
loop-row-preserved c = (
  c.in_ok-put_tuple.ensures.layout ∙ c.loop-row.invariant.0,
  λ ps w sound m.
      let inside = c.args.batch.now.inside.now in
      let row = c.row-item.result in
      let put = c.in_ok-put_tuple.ensures.put in
      let here = c.hand_inside-hand.ensures in
      let memo = subst (λ s. IsMemo ps w s c.args.batch.now.memo.now) (sym here) (m (slots_inside inside row) (agree_below inside.slot (values_of row) (slots_in inside.outer.items))) in
      let value = subst (λ s. tuple_in_slots w s c.args.names.now c.args.parts.now ≡ Valued (tuple_value put.0)) here (put.2 ps w sound memo) in
      one_more tuple_value (tuple_inside w inside c.args.names.now c.args.parts.now) c.args.batch.now.rows.now c.loop-row.row-index row c.loop-row.laid.1 put.0 c.loop-row-test.true c.row-item.is
      (c.loop-row.invariant.1 ps w sound m) value
      ∙ ap (map (λ t. Valued (tuple_value t))) (sym put.1),
)

pub returns : goal.returns
returns c = λ ps w sound m.
    let f = tuple_inside w c.args.batch.now.inside.now c.args.names.now c.args.parts.now in
    quick_granted tuple_value f c.args.batch.now.rows.now c.finish.result c.ok-3.result c.ok-3.ensures.value (IfOk-weaker c.finish.result _ _ (λ made is.
    ap (map f) (sym (take_all c.loop-row.row-index c.args.batch.now.rows.now c.loop-row-test.false)) ∙ c.loop-row.invariant.1 ps w sound m ∙ ap (map (λ t. Valued (tuple_value t))) (sym is)) c.finish.ensures.made)
