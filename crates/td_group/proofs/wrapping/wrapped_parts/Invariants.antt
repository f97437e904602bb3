use Rattle.std.proofs.Common.{◌≡◌, map, take}
use Rattle.std.specs.List.Sorted.{IsPermutation}
use Rattle.td_value.specs.code.Views.{values_of}
use Rattle.td_algebra.specs.code.Layouts.{Sources, placed_tuple}
use Rattle.td_group.proofs.wrapping.wrapped_parts.Given as goal

abbrev pub invariant-loop-row : goal.invariant-loop-row
invariant-loop-row l =
    (l.parts.0 ≡ l.layout)
    × ((sources : Sources) → IsPermutation sources l.layout → l.parts.1 ≡ map (λ t. placed_tuple sources (values_of t)) (take l.row-index l.rows))
