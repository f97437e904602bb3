-- Rows of a block: lists of values, one row after the other.
use Rattle.std.specs.Prelude.{◌≡◌, ◌≤◌, ◌+◌, ℕ, zero, suc, List, [], ◌∷◌, ◌++◌, length, drop, take, refl, ⊤}
use Rattle.std.specs.Coded.{Coded, code_by, coded×, coded_list, coded_ℕ}
use Rattle.td_value.specs.model.Values.{Val, Tuple, IsTuple, pack_parts}
use Rattle.td_value.specs.code.Depths.{parts_depth, tuple_depth}
use Rattle.td_value.specs.code.ValueCode.{tuple_code}
use Rattle.td_value.specs.code.Views.{tuple_view}
use Rattle.td_value.specs.code.Zipped.{AreNames}

-- the row that begins at that place, with as many values as names
abbrev pub row_view : List (List ℕ) → ℕ → List Val → Tuple
row_view ns start vs = tuple_view ns (drop start vs)

-- the row lies in the block, is a tuple, and nothing in the block nests deeper than it does
pub record IsRow (ns : List (List ℕ)) (width start : ℕ) (vs : List Val) : Type 0 where
  pub width_is : width ≡ length ns
  pub inside : start + length ns ≤ length vs
  pub deepest : parts_depth (pack_parts vs) ≤ tuple_depth (row_view ns start vs)
  pub is_tuple : IsTuple (row_view ns start vs)

-- so many rows, one after the other
abbrev pub rows_of : List (List ℕ) → ℕ → List Val → List Tuple
rows_of ns zero vs = []
rows_of ns (suc k) vs = tuple_view ns vs ∷ rows_of ns k (drop (length ns) vs)

-- the values are those of so many rows
abbrev pub AreWhole : List (List ℕ) → ℕ → List Val → Type 0
AreWhole ns zero vs = length vs ≡ 0
AreWhole ns (suc k) vs = (length ns ≤ length vs) × AreWhole ns k (drop (length ns) vs)

-- each of the rows nests at least so deep
abbrev pub AreAsDeep : List (List ℕ) → ℕ → List Val → ℕ → Type 0
AreAsDeep ns zero vs d = ⊤
AreAsDeep ns (suc k) vs d = (d ≤ tuple_depth (tuple_view ns vs)) × AreAsDeep ns k (drop (length ns) vs) d

-- each of the rows nests just so deep
abbrev pub AreOfDepth : List (List ℕ) → ℕ → List Val → ℕ → Type 0
AreOfDepth ns zero vs d = ⊤
AreOfDepth ns (suc k) vs d = (parts_depth (pack_parts (take (length ns) vs)) ≡ d) × AreOfDepth ns k (drop (length ns) vs) d

-- tuples of the same names, as they are made
pub record Making : Type 0 where
  pub names : List (List ℕ)
  pub tuples : List Tuple

abbrev pub making : List (List ℕ) → List Tuple → Making
making ns ts = record { names = ns; tuples = ts }

-- with one tuple more, of those values
abbrev pub with_row : List Val → Making → Making
with_row vs m = making m.names (m.tuples ++ tuple_view m.names vs ∷ [])

-- they are names, and the values are those of so many rows
pub record AreRowsOf (ns : List (List ℕ)) (width count : ℕ) (vs : List Val) : Type 0 where
  pub width_is : width ≡ length ns
  pub whole : AreWhole ns count vs
  pub names : AreNames ns

-- the code by which a proof tells them apart
abbrev pub making_code : Coded Making
making_code = code_by (List (List ℕ) × List Tuple) (coded× (coded_list (coded_list coded_ℕ)) (coded_list tuple_code)) (λ m. (m.names, m.tuples)) (λ p. making p.0 p.1) (λ _. refl)
