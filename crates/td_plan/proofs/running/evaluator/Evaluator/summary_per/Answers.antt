use Rattle.std.proofs.Common.{◌∙◌, subst, sym}
use Rattle.std.proofs.lemmas.Result.{err_from_is_err_and}
use Rattle.std.specs.List.{zip}
use Rattle.td_check.proofs.BothAnswers.{both_given, both_refused}
use Rattle.td_plan.specs.code.Hands.{slots_of}
use Rattle.td_plan.specs.code.Runs.{step_value, values_in}
use Rattle.td_plan.specs.code.Plans.{summary_of}
use Rattle.td_tree.specs.model.Outcomes.{Answers}
use Rattle.td_types.specs.code.Views.{pairs_view}
use Rattle.td_value.specs.model.Values.{Val}
use Rattle.td_plan.proofs.running.evaluator.Evaluator.summary_per.Goals as goal

pub returns-in_err-operand : goal.returns-in_err-operand
returns-in_err-operand g c = λ ps sound m.
    let w = g.A.InWorld.world c.args.self.now.around.now in
    let s = slots_of c.args.hand.now in
    let of = c.args.items.now in
    let items = zip of.aggregates.now (values_in w s of.slot of.values.now) in
    let a = c.run-operand.ensures ps sound.0 m in
    let b = c.run-per.ensures ps sound.1 a.1 in
    let e = err_from_is_err_and c.from_residual.result c.from_residual.ensures.1 in (
      rw (e.1, e.2)
          (both_refused (λ (v : Val). v) (λ (v : Val). v) (λ (v : Val). v) (summary_of (pairs_view of.attributes.now) items) c.run-operand.result c.run-per.result (step_value w s c.args.operand.now) (step_value w s c.args.per.now) _
          (sym c.both.ensures ∙ c.in_err-operand.was) a.0 b.0),
      b.1,
    )

pub returns : goal.returns
returns g c = λ ps sound m.
    let w = g.A.InWorld.world c.args.self.now.around.now in
    let s = slots_of c.args.hand.now in
    let of = c.args.items.now in
    let items = zip of.aggregates.now (values_in w s of.slot of.values.now) in
    let a = c.run-operand.ensures ps sound.0 m in
    let b = c.run-per.ensures ps sound.1 a.1 in
    let d = c.summary.ensures ps sound.2 b.1 in (
      subst (Answers (λ (v : Val). v) c.summary.result)
          (sym (both_given (λ (v : Val). v) (λ (v : Val). v) (summary_of (pairs_view of.attributes.now) items) c.run-operand.result c.run-per.result (step_value w s c.args.operand.now) (step_value w s c.args.per.now) (c.in_ok-operand.operand, c.in_ok-operand.per)
          (sym c.both.ensures ∙ c.in_ok-operand.was) a.0 b.0))
          d.0,
      d.1,
    )
