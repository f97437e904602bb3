use Rattle.std.proofs.lemmas.Result.{IfOk-weaker}
use Rattle.td_plan.proofs.NarrowedOperands.{plan_narrows}
use Rattle.td_plan.specs.code.StepViews.{step_view}
use Rattle.td_tree.specs.code.TreeViews.{tree_view}
use Rattle.td_plan.proofs.making.planning.Planning.narrowed_operand.Goals as goal

pub returns-in-None : goal.returns-in-None
returns-in-None g c =
    IfOk-weaker c.boxed_step.result _ _
    (λ p plan static. plan_narrows c.args.self.now.planner.now.scope (step_view p.value) (tree_view c.args.operand.now) (tree_view c.args.condition.now) c.args.heading.now plan static)
    c.boxed_step.ensures
