use Rattle.std.proofs.Common.{◌≡◌, drop, length, map, take}
use Rattle.std.specs.List.{All, flat_map}
use Rattle.td_algebra.specs.code.Lookups.{partners_in}
use Rattle.td_value.specs.model.Values.{IsTupleOf, Tuple, relation_of, relation_value}
use Rattle.td_group.proofs.grouping.values_by_group.Given as goal

abbrev pub invariant-loop-tuple : goal.invariant-loop-tuple
invariant-loop-tuple l =
    (length l.left ≡ length (flat_map (partners_in l.lookup l.places) (drop l.tuple-index l.tuples)))
    × All (IsTupleOf l.like.heading) l.left
    × ((part : Tuple → Tuple) → l.parts ≡ map part (flat_map (partners_in l.lookup l.places) l.tuples)
    → (l.left ≡ map part (flat_map (partners_in l.lookup l.places) (drop l.tuple-index l.tuples)))
    × (l.values.items ≡ map (λ t. relation_value (relation_of l.like.heading (map part (partners_in l.lookup l.places t)))) (take l.tuple-index l.tuples)))
