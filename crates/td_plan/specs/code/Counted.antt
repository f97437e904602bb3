-- The value of COUNT or IS_EMPTY, by the number of the tuples.
use Rattle.std.specs.Prelude.{ℕ, nat_eq, pos}
use Rattle.td_eval.specs.model.OperatorValues.{of_truth}
use Rattle.td_tree.specs.declared.operator.Measure.{Measure}
use Rattle.td_tree.specs.declared.operator.Measure.TheVariants as measures
use Rattle.td_tree.specs.model.Outcomes.{Outcome}
use Rattle.td_value.specs.model.Values.{Val, of_number}

-- the count of so many tuples, and whether there is none
abbrev pub number_measured : Measure → ℕ → Outcome Val
number_measured measures.Count n = of_number (pos n)
number_measured measures.IsEmpty n = of_truth (nat_eq n 0)
