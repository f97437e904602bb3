use Rattle.std.proofs.Common.{rules}
use Rattle.td_plan.proofs.running.evaluator.Evaluator.value_with.Goals as goal

pub returns-in-Some : goal.returns-in-Some
returns-in-Some g c = λ ps sound m. (rw (c.in-Some.ensures ps (g.A.InWorld.world c.args.self.now.around.now) sound m) (search rules), m)
