use Rattle.std.proofs.Common.{◌∙◌, ap, arith, refl}
use Rattle.td_plan.proofs.Hoisting.{hoisted_value}
use Rattle.td_plan.proofs.StepParts.{bound_apart, bound_made}
use Rattle.td_plan.proofs.ValuedBelow.{lower}
use Rattle.td_plan.specs.code.Plans.{plan_value, with_slot}
use Rattle.td_plan.specs.code.Hands.{slots_in}
use Rattle.td_plan.specs.code.StepViews.{step_view, steps_view}
use Rattle.td_value.specs.code.Views.{values_of}
use Rattle.td_plan.proofs.running.evaluator.Evaluator.hoisted_loop.Goals as goal

pub loop_behind-requires-clause-below : goal.loop_behind-requires-clause-below
loop_behind-requires-clause-below g c =
    let b = c.in-Bound in
    let made = bound_made c.args.step.now b.items c.deref.result.now c.deref.ensures.value b.slot b.reach b.value b.value.value b.is refl in
    let h = made.height in
    lower (omega (arith, h)) c.requires.below

pub loop_behind-requires-clause-ready : goal.loop_behind-requires-clause-ready
loop_behind-requires-clause-ready g c =
    let b = c.in-Bound in
    let made = bound_made c.args.step.now b.items c.deref.result.now c.deref.ensures.value b.slot b.reach b.value b.value.value b.is refl in
    let r = c.requires.ready in
    record { parts = r.parts; sound = (made.sound r.parts r.sound).0; memo = r.memo }

pub returns-in-Some-clause-height : goal.returns-in-Some-clause-height
returns-in-Some-clause-height g c =
    let b = c.in-Bound in
    let xs = c.deref.result.now in
    let d = c.deref-in-Bound.result.now in
    let made = bound_made c.args.step.now b.items xs c.deref.ensures.value b.slot b.reach b.value d b.is c.deref-in-Bound.ensures in
    let h = made.height in
    omega (arith, h)

pub returns-in-Some-clause-sound : goal.returns-in-Some-clause-sound
returns-in-Some-clause-sound g c = λ ps sound.
    let b = c.in-Bound in
    let xs = c.deref.result.now in
    let d = c.deref-in-Bound.result.now in
    let made = bound_made c.args.step.now b.items xs c.deref.ensures.value b.slot b.reach b.value d b.is c.deref-in-Bound.ensures in
    (made.sound ps sound).1

pub returns-in-Some-clause-kept : goal.returns-in-Some-clause-kept
returns-in-Some-clause-kept g c = λ ps sound m.
    let w = g.A.InWorld.world c.args.self.now.around.now in
    let inside = c.args.inside.now in
    let s = slots_in inside.outer.items in
    let inner = c.in-Some.inner in
    let b = c.in-Bound in
    let xs = c.deref.result.now in
    let d = c.deref-in-Bound.result.now in
    let made = bound_made c.args.step.now b.items xs c.deref.ensures.value b.slot b.reach b.value d b.is c.deref-in-Bound.ensures in
    let a = c.in-Some.ensures ps (made.sound ps sound).0 m in
    let apart = bound_apart c.args.step.now b.items xs c.deref.ensures.value b.slot b.reach b.value ps b.is sound in (
      record {
        slot = a.0.0;
        outer = a.0.1;
        same = λ t.
            ap (λ p. plan_value w (with_slot inside.slot (values_of t) s) p) made.view
            ∙ hoisted_value w inside inner b.slot b.reach (steps_view xs) (step_view d) (values_of t) c.if-inside-reach.false c.if-slot-inside.false apart a.0;
      },
      a.1,
    )

pub returns-in_default-loop_behind-clause-kept : goal.returns-in_default-loop_behind-clause-kept
returns-in_default-loop_behind-clause-kept g c = λ ps sound m.
    let b = c.in-Bound in
    let made = bound_made c.args.step.now b.items c.deref.result.now c.deref.ensures.value b.slot b.reach b.value b.value.value b.is refl in
    (tt, (c.loop_behind.ensures ps (made.sound ps sound).0 m).1)
