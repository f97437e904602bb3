use Rattle.std.proofs.Common.{◌≡◌, ◌++◌, List, map, take}
use Rattle.std.specs.List.Sorted.{IsPermutation}
use Rattle.td_algebra.specs.code.Columns.{AreColumnsOf, columns_view}
use Rattle.td_value.specs.code.Views.{values_of}
use Rattle.td_algebra.specs.code.Layouts.{Sources, placed_tuple}
use Rattle.td_algebra.specs.model.Operators.{Addition}
use Rattle.td_algebra.proofs.extension.extended_rows.Given as goal

abbrev pub invariant-loop-row : goal.invariant-loop-row
invariant-loop-row l =
    (l.extended.0 ≡ l.layout)
    × ((sources : Sources) (additions : List Addition) → IsPermutation sources l.layout → AreColumnsOf (columns_view l.columns) l.rows additions
    → l.extended.1 ≡ map (λ t. placed_tuple sources (values_of t ++ map (λ (a : Addition). a.value t) additions)) (take l.row l.rows))
