use Rattle.std.proofs.Common.{◌≡◌, map, take}
use Rattle.std.specs.List.{zip}
use Rattle.td_eval.specs.model.OperatorValues.{operator_value}
use Rattle.td_plan.proofs.QuickRows.{of_two}
use Rattle.td_tree.specs.model.Outcomes.{Valued}
use Rattle.td_value.specs.model.Values.{integer}
use Rattle.td_plan.proofs.running.quick_numbers.numbers_of_both.Given as goal

abbrev pub invariant-loop-place : goal.invariant-loop-place
invariant-loop-place l = map (of_two integer (operator_value l.op)) (take l.place (zip l.left l.right)) ≡ map (λ x. Valued (integer x)) l.numbers.items
