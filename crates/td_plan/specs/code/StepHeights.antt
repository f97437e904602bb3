-- How deep steps nest.
use Rattle.std.specs.Prelude.{ℕ, suc, List, [], ◌∷◌, max}
use Rattle.td_plan.specs.declared.plan.step.Step.{Step, Row_of-Step, end_of-Step, more_of-Step}
use Rattle.td_plan.specs.declared.plan.step.Step.TheVariants as p

abbrev mutual
  pub step_height : Step → ℕ
  step_height (p.LookUp' name key _ part) = suc (step_height part)
  step_height (p.Monadic' op _ operand) = suc (step_height operand)
  step_height (p.Dyadic' _ left op _ right) = suc (max (step_height left) (step_height right))
  step_height (p.Select' selector _ parts) = suc (row_height parts)
  step_height (p.Restriction' _ operand slot _ condition origin) = suc (max (step_height operand) (step_height condition))
  step_height (p.Extend' _ operand attributes slot _ values) = suc (max (step_height operand) (row_height values))
  step_height (p.Aggregate' op _ operand slot _ value) = suc (max (step_height operand) (step_height value))
  step_height (p.SummarizePer' _ operand _ per attributes aggregates slot _ values) =
      suc (max (max (step_height operand) (step_height per)) (row_height values))
  step_height (p.SummarizeBy' _ operand by attributes aggregates slot _ values) = suc (max (step_height operand) (row_height values))
  step_height (p.If' _ condition _ consequent _ alternative) =
      suc (max (step_height condition) (max (step_height consequent) (step_height alternative)))
  step_height (p.Bound' slot reach _ items _ result) = suc (max (row_height items) (step_height result))
  step_height (p.Once' place reach _ part) = suc (step_height part)
  step_height _ = 0

  pub row_height : {m : _} → Row_of-Step m → ℕ
  row_height end_of-Step = 0
  row_height (more_of-Step first rest) = max (step_height first) (row_height rest)

abbrev pub steps_height : List Step → ℕ
steps_height [] = 0
steps_height (first ∷ rest) = max (step_height first) (steps_height rest)
