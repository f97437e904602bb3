use Rattle.std.proofs.Common.{if◌then◌else◌}
use Rattle.std.proofs.lemmas.Result.{err_from_is_err_and}
use Rattle.td_plan.proofs.RunLaws.{choice_refused}
use Rattle.td_plan.specs.code.Hands.{slots_of}
use Rattle.td_plan.specs.code.Runs.{step_value}
use Rattle.td_plan.proofs.running.evaluator.Evaluator.choice.Goals as goal

pub returns-in_err-truth_of : goal.returns-in_err-truth_of
returns-in_err-truth_of g c = λ ps sound m.
    let w = g.A.InWorld.world c.args.self.now.around.now in
    let s = slots_of c.args.hand.now in
    let a = c.run.ensures ps sound.0 m in
    let e = err_from_is_err_and c.from_residual.result c.from_residual.ensures.1 in (
      rw (e.1, e.2)
          (choice_refused (step_value w s c.args.condition.now) (λ b. if b then step_value w s c.args.consequent.now else step_value w s c.args.alternative.now) _
          (c.in_err-truth_of.ensures (step_value w s c.args.condition.now) a.0)),
      a.1,
    )
