use Rattle.std.proofs.Common.{◌∙◌, ◌≡◌, ap, arith, refl, subst, sym}
use Rattle.td_plan.proofs.Granted.{granted}
use Rattle.td_plan.proofs.Hoisting.{hoisted_value, memo_hoisted}
use Rattle.td_plan.proofs.SlotLaws.{agree_before}
use Rattle.td_plan.specs.code.Plans.{plan_where_bound, slots_before}
use Rattle.td_plan.specs.code.Hands.{slots_in}
use Rattle.td_plan.specs.code.Memos.{AgreeBelow, IsMemoBelow}
use Rattle.td_plan.specs.code.StepViews.{steps_view}
use Rattle.td_value.specs.code.Views.{values_of}
use Rattle.td_plan.proofs.running.quick_bound.quick_behind.Goals as goal

pub returns : goal.returns
returns c = λ ps w sound apart m.
    let inside = c.args.batch.now.inside.now in
    let s = slots_in inside.outer.items in
    let k = inside.slot in
    let slot = c.args.slot in
    let memo = c.args.batch.now.memo.now in
    let items = steps_view c.args.items.now in
    let past = c.if-inside-reach.false in
    let order = c.if-slot-inside.false in
    let here : slots_in c.in_ok-outer.outer.items ≡ slots_before slot s = granted c.again_before.result c.in_ok-outer.outer _ c.in_ok-outer.ensures.value c.again_before.ensures ∙ ap (λ rs. slots_before slot (slots_in rs)) c.deref.ensures.value in
    let below : IsMemoBelow ps w slot (slots_in c.in_ok-outer.outer.items) memo =
    λ u agree. m u (λ j l. agree_before slot s j (omega (arith, l, order)) ∙ ap (λ t. t j) (sym here) ∙ agree j (omega (arith, l, order))) in
    let a = c.in_ok-put_all_kept.ensures ps w sound below in
    let rows = slots_in c.put_all_kept.new.rows.items in
    let agree : AgreeBelow k s rows = λ j l. agree_before slot s j (omega (arith, l, order)) ∙ ap (λ t. t j) (sym here) ∙ a.1 j (omega (arith, l, order)) in (
      memo_hoisted ps w k k s rows memo refl agree m,
      λ p t. hoisted_value w inside (record { slot = k; outer = c.put_all_kept.new.rows }) slot c.args.reach items p (values_of t) past order apart
          (refl, agree, λ f. subst (λ z. plan_where_bound w z slot items f ≡ f rows) here (a.0 f)),
    )
