use Rattle.std.proofs.Common.{◌≡◌, ◌∷◌, ◌++◌, [], map, take}
use Rattle.std.specs.List.Sorted.{IsPermutation}
use Rattle.td_value.specs.model.Values.{Tuple, tuple_value}
use Rattle.td_value.specs.code.Views.{values_of}
use Rattle.td_algebra.specs.code.Layouts.{Sources, placed_tuple}
use Rattle.td_group.proofs.wrapping.wrapped_rows.Given as goal

abbrev pub invariant-loop-index : goal.invariant-loop-index
invariant-loop-index l =
    (l.wrapped.0 ≡ l.layout)
    × ((sources : Sources) (part : Tuple → Tuple) → IsPermutation sources l.layout → l.parts ≡ map part l.rows
    → l.wrapped.1 ≡ map (λ t. placed_tuple sources (values_of t ++ tuple_value (part t) ∷ [])) (take l.index l.rows))
