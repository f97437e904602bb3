-- What plans the expressions below a number of nodes plans those below a lower one.
use Rattle.std.proofs.Common.{ℕ, suc, ◌<◌, ◌≤◌, arith}
use Rattle.std.specs.Borrow.{Bor}
use Rattle.std.specs.Prelude.{Result}
use Rattle.std.specs.declared.alloc.AllocError.{AllocError}
use Rattle.td_catalog.specs.model.Database.{Database}
use Rattle.td_plan.specs.declared.making.planner.Planner.{Planner}
use Rattle.td_plan.specs.declared.making.planning.Planning.{Planning}
use Rattle.td_plan.specs.declared.plan.step.Step.{Step}
use Rattle.td_plan.specs.code.PlansBelow.{PlansBelow}
use Rattle.td_tree.specs.declared.expression.Expr.{Expr}

module _ {C F : Type 0} {database : C → Database} {p : Planning C F}
    {pre : F → Bor (Planner C) → Bor Expr → Type 0}
    {post : F → Bor (Planner C) → Bor Expr → Result Step AllocError → Type 0} where
  pub below : {weight low : ℕ} → low < weight → PlansBelow database p weight pre post → PlansBelow database p (suc low) pre post
  below l v = record { planner = v.planner; callable = λ planner expr is h. v.callable planner expr is (omega (arith, l, h)); plans = v.plans }

  pub lower : {weight low : ℕ} → low ≤ weight → PlansBelow database p (suc weight) pre post → PlansBelow database p (suc low) pre post
  lower l v = below (omega (arith, l)) v
