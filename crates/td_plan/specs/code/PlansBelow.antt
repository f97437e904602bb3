-- The expressions of fewer nodes than a number may be planned, and the plans are theirs.
use Rattle.std.specs.Borrow.{Bor}
use Rattle.std.specs.Prelude.{ℕ, ◌<◌, IfOk, Result}
use Rattle.std.specs.declared.alloc.AllocError.{AllocError}
use Rattle.td_catalog.specs.model.Database.{Database}
use Rattle.td_plan.specs.declared.making.planner.Planner.{Planner}
use Rattle.td_plan.specs.declared.making.planning.Planning.{Planning}
use Rattle.td_plan.specs.declared.plan.step.Step.{Step}
use Rattle.td_plan.specs.code.Planners.{IsPlanner}
use Rattle.td_plan.specs.code.PlansOf.{IsPlanOfTyped}
use Rattle.td_plan.specs.code.StepViews.{step_view}
use Rattle.td_plan.specs.code.TreeWeights.{expr_weight}
use Rattle.td_tree.specs.declared.expression.Expr.{Expr}
use Rattle.td_tree.specs.code.TreeViews.{tree_view}

pub record PlansBelow {C F : Type 0} (database : C → Database) (p : Planning C F) (weight : ℕ)
    (pre : F → Bor (Planner C) → Bor Expr → Type 0)
    (post : F → Bor (Planner C) → Bor Expr → Result Step AllocError → Type 0) : Type 0 where
  pub planner : IsPlanner database p.planner.now
  pub callable : (planner : Bor (Planner C)) (expr : Bor Expr) → IsPlanner database planner.now
      → expr_weight expr.now < weight → pre p.inner planner expr
  pub plans : (planner : Bor (Planner C)) (expr : Bor Expr) (answer : Result Step AllocError)
      → post p.inner planner expr answer
      → IfOk answer (λ p. IsPlanOfTyped planner.now.scope (step_view p) (tree_view expr.now))
