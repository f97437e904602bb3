use Rattle.td_plan.proofs.PlannedBound.{ArePlannedTo, AreTypedTo}
use Rattle.td_plan.specs.code.Planners.{IsPlanner}
use Rattle.td_plan.proofs.making.planning.Planning.bound_step.Given as goal

abbrev pub invariant-loop-item : goal.invariant-loop-item
invariant-loop-item g l =
    IsPlanner g.C.Definitions.database l.inner
    × ArePlannedTo l.self.planner.now.scope l.items l.item-index l.steps.items l.inner.scope
    × AreTypedTo l.self.planner.now.scope l.items l.item-index l.inner.scope
