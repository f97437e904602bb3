use Rattle.std.proofs.Common.{take}
use Rattle.std.specs.List.{slice_get}
use Rattle.td_plan.specs.code.Plans.{value_or}
use Rattle.td_plan.specs.code.Quick.{AreInRows}
use Rattle.td_value.specs.model.Values.{integer}
use Rattle.td_value.specs.code.Views.{values_of}
use Rattle.td_plan.proofs.running.quick_numbers.attribute_numbers.Given as goal

abbrev pub invariant-loop-row : goal.invariant-loop-row
invariant-loop-row l =
    AreInRows integer (λ t. value_or (slice_get (values_of t) l.place)) (take l.row-index l.rows) l.numbers.items
