use Rattle.std.proofs.Common.{◌∙◌, ap, subst, sym}
use Rattle.std.proofs.lemmas.Result.{err_from_is_err_and}
use Rattle.td_plan.specs.code.Plans.{plan_value}
use Rattle.td_plan.specs.code.Hands.{slots_in, slots_of}
use Rattle.td_plan.specs.code.Memos.{IsMemo}
use Rattle.td_plan.specs.code.Runs.{step_value}
use Rattle.td_plan.specs.code.StepViews.{step_view}
use Rattle.td_tree.specs.model.Outcomes.{Answers}
use Rattle.td_plan.proofs.running.evaluator.Evaluator.value_behind.Goals as goal

pub returns-in_err-bind_all : goal.returns-in_err-bind_all
returns-in_err-bind_all g c = λ ps sound m.
    let w = g.A.InWorld.world c.args.self.now.around.now in
    let a = c.in_err-bind_all.ensures ps sound.0 m in
    let e = err_from_is_err_and c.from_residual.result c.from_residual.ensures.1 in
    (rw (e.1, e.2) (a.0 (λ s. plan_value w s (step_view c.args.value.now))), a.1)

pub run-requires-clause-ready : goal.run-requires-clause-ready
run-requires-clause-ready g c =
    let w = g.A.InWorld.world c.args.self.now.around.now in
    let here = c.hand_of.ensures ∙ ap slots_in c.deref.ensures.value in
    let r = c.requires.ready in
    let a = c.in_ok-bind_all.ensures r.parts r.sound.0 r.memo in
    record { parts = r.parts; sound = r.sound.1; memo = subst (λ t. IsMemo r.parts w t c.bind_all.new.memo) (sym here) a.2 }

pub returns : goal.returns
returns g c = λ ps sound m.
    let w = g.A.InWorld.world c.args.self.now.around.now in
    let here = c.hand_of.ensures ∙ ap slots_in c.deref.ensures.value in
    let a = c.in_ok-bind_all.ensures ps sound.0 m in
    let b = c.run.ensures ps sound.1 (subst (λ t. IsMemo ps w t c.bind_all.new.memo) (sym here) a.2) in (
      subst (λ o. Answers (λ v. v) c.run.result o)
          (ap (λ t. step_value w t c.args.value.now) here ∙ sym (a.0 (λ s. plan_value w s (step_view c.args.value.now)))) b.0,
      (slots_of c.hand_of.result, λ j l. a.1 j l ∙ ap (λ t. t j) (sym here), b.1),
    )
