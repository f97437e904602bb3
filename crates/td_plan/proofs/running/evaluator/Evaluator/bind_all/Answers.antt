use Rattle.std.proofs.Common.{◌≡◌, ◌∙◌, ◌+◌, ◌<◌, ◌≤◌, ap, arith, drop, length, subst, suc}
use Rattle.std.proofs.lemmas.Result.{err_from_is_err_and}
use Rattle.td_plan.proofs.BoundRuns.{GoesOn, items_here, next_entered, next_refused, none_left}
use Rattle.td_plan.proofs.SoundSteps.{sound_at}
use Rattle.td_plan.proofs.StepHeights.{height_part}
use Rattle.td_plan.proofs.ValuedBelow.{lower}
use Rattle.td_plan.specs.code.Plans.{plan_where_bound}
use Rattle.td_plan.specs.code.Hands.{slots_in}
use Rattle.td_plan.specs.code.StepViews.{steps_view}
use Rattle.td_plan.proofs.running.evaluator.Evaluator.bind_all.Goals as goal

pub bind-requires-clause-below : goal.bind-requires-clause-below
bind-requires-clause-below g c =
    let within = c.loop-place-test.true in
    let l : c.loop-place.place < length c.args.items.now = omega (arith, within, c.loop-place.auto.place-end) in
    lower (height_part c.args.items.now c.loop-place.place c.index-items-place.result l c.index-items-place.is) c.requires.below

pub bind-requires-clause-ready : goal.bind-requires-clause-ready
bind-requires-clause-ready g c =
    let within = c.loop-place-test.true in
    let l : c.loop-place.place < length c.args.items.now = omega (arith, within, c.loop-place.auto.place-end) in
    let r = c.requires.ready in
    let so_far = c.loop-place.invariant r.parts r.sound r.memo in
    record { parts = r.parts; sound = sound_at r.parts c.args.items.now c.loop-place.place c.index-items-place.result l c.index-items-place.is r.sound; memo = so_far.2 }

pub loop-place-preserved : goal.loop-place-preserved
loop-place-preserved g c = λ ps sound m.
    let w = g.A.InWorld.world c.args.self.now.around.now in
    let s = slots_in c.args.rows.now.items in
    let items = c.args.items.now in
    let i = c.loop-place.place in
    let item = c.index-items-place.result in
    let slot = c.args.slot in
    let rest = steps_view (drop (i + 1) items) in
    let within = c.loop-place-test.true in
    let l : i < length items = omega (arith, within, c.loop-place.auto.place-end) in
    let told = c.in-Some.ensures in
    let at : slot + i ≡ c.in-Some.next = omega (arith, told) in
    let low : slot ≤ c.in-Some.next = omega (arith, told) in
    let so_far =
    subst (λ n. GoesOn ps w slot s (steps_view items) n (steps_view (drop i items)) c.loop-place.rows.items c.loop-place.memo) at (c.loop-place.invariant ps sound m) in
    let here = subst (λ r. GoesOn ps w slot s (steps_view items) c.in-Some.next r c.loop-place.rows.items c.loop-place.memo) (items_here items i item l c.index-items-place.is) so_far in
    let entered = c.in_ok-bind.ensures ps (sound_at ps items i item l c.index-items-place.is sound) here.2 in
    let next : suc c.in-Some.next ≡ slot + (i + 1) = omega (arith, told) in
    subst (λ n. GoesOn ps w slot s (steps_view items) n rest c.bind.new.rows.items c.bind.new.memo) next
    (next_entered ps w slot s (steps_view items) c.in-Some.next item rest c.loop-place.rows.items c.loop-place.memo low here c.bind.new.rows.items c.bind.new.memo entered)

pub returns-in_err-bind : goal.returns-in_err-bind
returns-in_err-bind g c = λ ps sound m.
    let w = g.A.InWorld.world c.args.self.now.around.now in
    let s = slots_in c.args.rows.now.items in
    let items = c.args.items.now in
    let i = c.loop-place.place in
    let item = c.index-items-place.result in
    let slot = c.args.slot in
    let rest = steps_view (drop (i + 1) items) in
    let within = c.loop-place-test.true in
    let l : i < length items = omega (arith, within, c.loop-place.auto.place-end) in
    let told = c.in-Some.ensures in
    let at : slot + i ≡ c.in-Some.next = omega (arith, told) in
    let low : slot ≤ c.in-Some.next = omega (arith, told) in
    let so_far =
    subst (λ n. GoesOn ps w slot s (steps_view items) n (steps_view (drop i items)) c.loop-place.rows.items c.loop-place.memo) at (c.loop-place.invariant ps sound m) in
    let here = subst (λ r. GoesOn ps w slot s (steps_view items) c.in-Some.next r c.loop-place.rows.items c.loop-place.memo) (items_here items i item l c.index-items-place.is) so_far in
    let entered = c.in_err-bind.ensures ps (sound_at ps items i item l c.index-items-place.is sound) here.2 in
    let e = err_from_is_err_and c.from_residual.result c.from_residual.ensures.1 in
    rw (e.1, e.2)
    (next_refused ps w slot s (steps_view items) c.in-Some.next item rest c.loop-place.rows.items c.loop-place.memo low here _ c.bind.new.rows.items c.bind.new.memo entered)

pub returns-in_default : goal.returns-in_default
returns-in_default g c = λ ps sound m.
    let so_far = c.loop-place.invariant ps sound m in
    (λ inside. tt, (slots_in c.loop-place.rows.items, so_far.1, so_far.2))

pub returns : goal.returns
returns g c = λ ps sound m.
    let w = g.A.InWorld.world c.args.self.now.around.now in
    let items = c.args.items.now in
    let i = c.loop-place.place in
    let past = c.loop-place-test.false in
    let l : length items ≤ i = omega (arith, past, c.loop-place.auto.place-end) in
    let so_far = c.loop-place.invariant ps sound m in
    (λ inside. so_far.0 inside ∙ ap (λ r. plan_where_bound w (slots_in c.loop-place.rows.items) (c.args.slot + i) r inside) (none_left items i l), so_far.1, so_far.2)
