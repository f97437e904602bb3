use Rattle.std.proofs.Common.{◌∙◌, ap, rules, subst, sym, refl}
use Rattle.td_plan.proofs.SlotLaws.{agree_before}
use Rattle.td_plan.specs.code.Plans.{plan_value, plan_where_bound, slots_before}
use Rattle.td_plan.specs.code.Hands.{slots_of}
use Rattle.td_plan.specs.code.Memos.{IsMemo}
use Rattle.td_plan.specs.code.StepViews.{step_view, steps_view}
use Rattle.td_tree.specs.model.Outcomes.{Answers}
use Rattle.td_plan.proofs.running.evaluator.Evaluator.bound.Goals as goal

pub returns-in_err-rows : goal.returns-in_err-rows
returns-in_err-rows g c = λ ps sound m.
    (search rules, c.rows_before.ensures.memo ps (g.A.InWorld.world c.args.self.now.around.now) m (slots_of c.args.hand.now) (λ j l. refl))

pub value_behind-answer-requires-clause-ready : goal.value_behind-answer-requires-clause-ready
value_behind-answer-requires-clause-ready g c =
    let w = g.A.InWorld.world c.args.self.now.around.now in
    let s = slots_of c.args.hand.now in
    let slot = c.args.slot in
    let r = c.requires.ready in
    record {
      parts = r.parts;
      sound = r.sound;
      memo = subst (λ t. IsMemo r.parts w t c.rows_before.new.memo) (sym c.in_ok-rows.ensures.rows)
          (c.in_ok-rows.ensures.memo r.parts w r.memo (slots_before slot s) (agree_before slot s));
    }

pub returns : goal.returns
returns g c = λ ps sound m.
    let w = g.A.InWorld.world c.args.self.now.around.now in
    let s = slots_of c.args.hand.now in
    let slot = c.args.slot in
    let here = c.in_ok-rows.ensures.rows in
    let memo = subst (λ t. IsMemo ps w t c.rows_before.new.memo) (sym here) (c.in_ok-rows.ensures.memo ps w m (slots_before slot s) (agree_before slot s)) in
    let a = c.value_behind-answer.ensures ps sound memo in (
      subst (λ t. Answers (λ v. v) c.value_behind-answer.result (plan_where_bound w t slot (steps_view c.args.items.now) (λ u. plan_value w u (step_view c.args.value.now)))) here a.0,
      c.forget.ensures ps w a.1.0 s (λ j l. sym (a.1.1 j l) ∙ ap (λ t. t j) here ∙ sym (agree_before slot s j l)) a.1.2 s (λ j l. refl),
    )
