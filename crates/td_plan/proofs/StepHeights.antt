-- How deep steps nest.
use Rattle.std.proofs.Common.{◌≡◌, ℕ, zero, suc, List, [], ◌∷◌, ◌<◌, ◌≤◌, length, get_or, arith, ap}
use Rattle.td_plan.specs.declared.plan.step.Step.{Step}
use Rattle.td_plan.specs.code.StepHeights.{step_height, steps_height}

pub height_part : (xs : List Step) (i : ℕ) (x : Step) → i < length xs → x ≡ get_or xs i x → step_height x ≤ steps_height xs
height_part [] i x l e = absurd (omega arith)
height_part (y ∷ xs) zero x l e = let h = ap step_height e in omega (arith, h)
height_part (y ∷ xs) (suc i) x l e = let h = height_part xs i x (omega arith) e in omega (arith, h)
