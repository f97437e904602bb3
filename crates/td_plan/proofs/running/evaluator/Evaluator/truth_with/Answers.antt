use Rattle.std.proofs.Common.{ap}
use Rattle.td_eval.specs.model.OperatorValues.{truth_value}
use Rattle.td_plan.proofs.running.evaluator.Evaluator.truth_with.Goals as goal

pub returns-in-Some : goal.returns-in-Some
returns-in-Some g c = λ ps sound m. (ap truth_value (c.in-Some.ensures ps (g.A.InWorld.world c.args.self.now.around.now) sound m), m)

pub returns-in-None : goal.returns-in-None
returns-in-None g c = λ ps sound m.
    let a = c.run.ensures ps sound m in
    (c.truth_of.ensures _ a.0, a.1)
