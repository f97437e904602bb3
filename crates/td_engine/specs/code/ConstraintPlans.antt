-- Plans of constraints that are kept, each at its constraint's place (this project's own).
use Rattle.std.specs.Borrow.{Bor}
use Rattle.std.specs.Prelude.{◌≡◌, ℕ, IfSome, List, Option, Some}
use Rattle.std.specs.List.{slice_get}
use Rattle.td_catalog.specs.model.Database.{Database, NamedConstraint, database_scope}
use Rattle.td_plan.specs.code.PlanViews.{PlanValue, plan_view}
use Rattle.td_plan.specs.code.PlansOf.{IsPlanIfTyped}
use Rattle.td_tree.specs.model.Trees.{Tree}

-- a plan of an expression where the database is known
pub record IsPlanIn (db : Database) (e : Tree) (plan : PlanValue) : Type 0 where
  pub stands : IsPlanIfTyped (database_scope db) (plan_view plan) e

-- the plan that is kept of an expression, if one is
abbrev pub IsKeptPlan : Database → Tree → Option (Bor PlanValue) → Type 0
IsKeptPlan db e plan = IfSome plan (λ p. IsPlanIn db e p.now)

-- each is a plan of the constraint at its place
pub record AreKeptPlans (db : Database) (plans : List (Option PlanValue)) : Type 0 where
  pub each :
      (place : ℕ) (plan : PlanValue) (c : NamedConstraint) → slice_get plans place ≡ Some (Some plan) → slice_get db.constraints place ≡ Some c
      → IsPlanIn db c.tree plan
