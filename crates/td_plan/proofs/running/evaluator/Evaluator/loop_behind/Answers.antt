use Rattle.std.proofs.Common.{◌∙◌, ◌≡◌, ap, arith, refl, subst, sym}
use Rattle.td_plan.proofs.SlotLaws.{agree_before}
use Rattle.td_plan.specs.code.Plans.{plan_where_bound, slots_before}
use Rattle.td_plan.specs.code.Hands.{slots_in}
use Rattle.td_plan.specs.code.Memos.{AgreeBelow, IsMemo}
use Rattle.td_plan.specs.code.StepViews.{steps_view}
use Rattle.td_plan.proofs.running.evaluator.Evaluator.loop_behind.Goals as goal

pub bind_all-bound-requires-clause-ready : goal.bind_all-bound-requires-clause-ready
bind_all-bound-requires-clause-ready g c =
    let w = g.A.InWorld.world c.args.self.now.around.now in
    let s = slots_in c.args.inside.now.outer.items in
    let slot = c.args.slot in
    let here : slots_in c.in-Ok.rows.items ≡ slots_before slot s = c.in-Ok.ensures ∙ ap (λ rs. slots_before slot (slots_in rs)) c.deref.ensures.value in
    let order = c.requires.order in
    let r = c.requires.ready in
    record {
      parts = r.parts;
      sound = r.sound;
      memo = subst (λ t. IsMemo r.parts w t c.args.memo.now) (sym here) (r.memo (slots_before slot s) (λ j l. agree_before slot s j (omega (arith, l, order))));
    }

pub returns-in-Ok-bound : goal.returns-in-Ok-bound
returns-in-Ok-bound g c = λ ps sound m.
    let w = g.A.InWorld.world c.args.self.now.around.now in
    let s = slots_in c.args.inside.now.outer.items in
    let k = c.args.inside.now.slot in
    let slot = c.args.slot in
    let here : slots_in c.in-Ok.rows.items ≡ slots_before slot s = c.in-Ok.ensures ∙ ap (λ rs. slots_before slot (slots_in rs)) c.deref.ensures.value in
    let order = c.requires.order in
    let memo = subst (λ t. IsMemo ps w t c.args.memo.now) (sym here) (m (slots_before slot s) (λ j l. agree_before slot s j (omega (arith, l, order)))) in
    let a = c.in-Ok-bound.ensures ps sound memo in
    let rows = slots_in c.bind_all-bound.new.rows.items in
    let agree : AgreeBelow k s rows = λ j l. agree_before slot s j (omega (arith, l, order)) ∙ ap (λ t. t j) (sym here) ∙ a.1 j (omega (arith, l, order)) in (
      (refl, agree, λ f. subst (λ z. plan_where_bound w z slot (steps_view c.args.items.now) f ≡ f rows) here (a.0 f)),
      c.forget.ensures ps w rows s (λ j l. sym (agree j l)) a.2,
    )

pub returns-in-Err : goal.returns-in-Err
returns-in-Err g c = λ ps sound m.
    let w = g.A.InWorld.world c.args.self.now.around.now in
    let s = slots_in c.args.inside.now.outer.items in
    let slot = c.args.slot in
    let here : slots_in c.in-Ok.rows.items ≡ slots_before slot s = c.in-Ok.ensures ∙ ap (λ rs. slots_before slot (slots_in rs)) c.deref.ensures.value in
    let order = c.requires.order in
    let memo = subst (λ t. IsMemo ps w t c.args.memo.now) (sym here) (m (slots_before slot s) (λ j l. agree_before slot s j (omega (arith, l, order)))) in
    let a = c.in-Err.ensures ps sound memo in (
      tt,
      c.forget.ensures ps w a.1.0 s
          (λ j l. sym (a.1.1 j (omega (arith, l, order))) ∙ ap (λ t. t j) here ∙ sym (agree_before slot s j (omega (arith, l, order)))) a.1.2,
    )
