use Rattle.std.proofs.Common.{take}
use Rattle.td_types.specs.model.Types.{attribute_names}
use Rattle.td_value.specs.model.Values.{IsTupleOf, Tuple}
use Rattle.td_algebra.specs.code.Lookups.{StandAt, values_on}
use Rattle.td_algebra.proofs.lookup.common_places.Given as goal

abbrev pub invariant-loop-place : goal.invariant-loop-place
invariant-loop-place l = (t : Tuple) → IsTupleOf l.heading t → StandAt l.places.items (values_on (attribute_names l.other) (take l.place t)) t
