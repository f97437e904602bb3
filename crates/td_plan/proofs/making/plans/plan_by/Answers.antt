use Rattle.std.proofs.Common.{◌≡◌, subst, sym}
use Rattle.std.specs.Prelude.{IsOkAnd}
use Rattle.td_plan.proofs.PlacedLaws.{placed_end}
use Rattle.td_plan.specs.code.StepViews.{step_view}
use Rattle.td_plan.proofs.making.plans.plan_by.Goals as goal

pub returns : goal.returns
returns c = subst (λ o. IsOkAnd o (λ s. step_view c.remember.new.step ≡ step_view s)) (sym c.in_ok-step.was) c.in_ok-remember.ensures.view

pub invariant_of-result : goal.invariant_of-result
invariant_of-result c = placed_end _ _ _ c.in_ok-remember.ensures.placed
