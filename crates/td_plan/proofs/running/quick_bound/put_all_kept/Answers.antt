use Rattle.std.proofs.Common.{◌≡◌, ◌∙◌, ◌+◌, ◌<◌, ◌≤◌, ap, arith, drop, length, refl, subst, suc}
use Rattle.td_plan.proofs.BoundRuns.{GoesOn, items_here, next_entered, none_left}
use Rattle.td_plan.proofs.SoundSteps.{sound_at}
use Rattle.td_plan.specs.code.Plans.{plan_where_bound}
use Rattle.td_plan.specs.code.Hands.{slots_in}
use Rattle.td_plan.specs.code.StepViews.{steps_view}
use Rattle.td_plan.proofs.running.quick_bound.put_all_kept.Goals as goal

pub loop-place-init : goal.loop-place-init
loop-place-init c = λ ps w sound m.
    let s = slots_in c.args.rows.now.items in
    let at : c.args.slot ≡ c.args.slot + 0 = omega arith in
    (λ inside. ap (λ n. plan_where_bound w s n (steps_view c.args.items.now) inside) at, λ j l. refl, m s (λ j l. refl))

pub loop-place-preserved : goal.loop-place-preserved
loop-place-preserved c = λ ps w sound m.
    let s = slots_in c.args.rows.now.items in
    let items = c.args.items.now in
    let i = c.loop-place.place in
    let item = c.index-items-place.result in
    let slot = c.args.slot in
    let memo = c.args.memo.now in
    let next = c.in_ok-next.next in
    let rest = steps_view (drop (i + 1) items) in
    let within = c.loop-place-test.true in
    let l : i < length items = omega (arith, within, c.loop-place.auto.place-end) in
    let told = c.in_ok-next.ensures in
    let at : slot + i ≡ next = omega (arith, told) in
    let low : slot ≤ next = omega (arith, told) in
    let so_far = subst (λ n. GoesOn ps w slot s (steps_view items) n (steps_view (drop i items)) c.loop-place.rows.items memo) at (c.loop-place.invariant ps w sound m) in
    let here = subst (λ r. GoesOn ps w slot s (steps_view items) next r c.loop-place.rows.items memo) (items_here items i item l c.index-items-place.is) so_far in
    let entered = c.in_ok-put_kept.ensures ps w (sound_at ps items i item l c.index-items-place.is sound)
    (λ u agree. m u (λ j k. here.1 j k ∙ agree j (omega (arith, k, low)))) in
    let after : suc next ≡ slot + (i + 1) = omega (arith, told) in
    subst (λ n. GoesOn ps w slot s (steps_view items) n rest c.put_kept.new.rows.items memo) after
    (next_entered ps w slot s (steps_view items) next item rest c.loop-place.rows.items memo low here c.put_kept.new.rows.items memo entered)

pub returns : goal.returns
returns c = λ ps w sound m.
    let items = c.args.items.now in
    let i = c.loop-place.place in
    let past = c.loop-place-test.false in
    let l : length items ≤ i = omega (arith, past, c.loop-place.auto.place-end) in
    let so_far = c.loop-place.invariant ps w sound m in
    (λ inside. so_far.0 inside ∙ ap (λ r. plan_where_bound w (slots_in c.loop-place.rows.items) (c.args.slot + i) r inside) (none_left items i l), so_far.1, so_far.2)
