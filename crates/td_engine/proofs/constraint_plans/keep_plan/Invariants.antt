use Rattle.std.proofs.Common.{◌+◌, ◌-◌, length}
use Rattle.td_engine.specs.code.ConstraintPlans.{AreKeptPlans}
use Rattle.td_engine.proofs.constraint_plans.keep_plan.Given as goal

abbrev pub invariant-loop-plans : goal.invariant-loop-plans
invariant-loop-plans g l = AreKeptPlans l.catalog.database l.initial.plans.items → AreKeptPlans l.catalog.database l.plans.items

abbrev pub decreases-loop-plans : goal.decreases-loop-plans
decreases-loop-plans g l = l.place + 1 - length l.plans.items
