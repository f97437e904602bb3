-- What the plans of the code stand for.
use Rattle.td_plan.specs.declared.plan.step.Step.{Step}
use Rattle.td_plan.specs.code.Plans.{PlanTree}
use Rattle.td_plan.specs.code.StepViews.{step_view}

-- a plan, as contracts see it
pub record PlanValue : Type 0 where
  pub step : Step

abbrev pub plan_view : PlanValue → PlanTree
plan_view plan = step_view plan.step
