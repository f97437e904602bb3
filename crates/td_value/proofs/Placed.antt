-- The rows of a block by their places.
use Rattle.std.proofs.Common.{◌≡◌, ◌≤◌, ◌<◌, ◌+◌, ◌*◌, ◌∙◌, ℕ, zero, suc, List, Some, length, arith, drop, refl, ap, sym}
use Rattle.std.specs.List.{slice_get}
use Rattle.std.proofs.Math.Nat.{suc-mul, zero-mul}
use Rattle.std.proofs.lemmas.List.{length-drop, drop-drop}
use Rattle.td_value.specs.model.Values.{Val}
use Rattle.td_value.specs.code.Blocks.{AreWhole, row_view, rows_of}

pub rows_length : (ns : List (List ℕ)) (k : ℕ) (vs : List Val) → length (rows_of ns k vs) ≡ k
rows_length ns zero vs = refl
rows_length ns (suc k) vs = ap suc (rows_length ns k (drop (length ns) vs))

-- the row at the place begins after as many rows
pub record Placed (ns : List (List ℕ)) (k place start : ℕ) (vs : List Val) : Type 0 where
  pub inside : start + length ns ≤ length vs
  pub row : slice_get (rows_of ns k vs) place ≡ Some (row_view ns start vs)

pub placed : (ns : List (List ℕ)) (k place start : ℕ) (vs : List Val) → start ≡ place * length ns → place < k → AreWhole ns k vs → Placed ns k place start vs
placed ns zero place start vs e p h = absurd (omega (arith, p))
placed ns (suc k) zero start vs e p h =
    let none : 0 ≡ start = sym (e ∙ zero-mul (length ns)) in
    record { inside = omega (arith, none, h.0); row = ap (λ s. Some (row_view ns s vs)) none }
placed ns (suc k) (suc place) start vs e p h =
    let rest = placed ns k place (place * length ns) (drop (length ns) vs) refl (omega (arith, p)) h.1 in
    let far : length ns + place * length ns ≡ start = omega (arith, e, suc-mul place (length ns)) in
    record {
      inside = omega (arith, rest.inside, far, length-drop (length ns) vs, h.0);
      row = rest.row ∙ ap (λ r. Some (row_view ns 0 r)) (drop-drop (place * length ns) (length ns) vs ∙ ap (λ s. drop s vs) far);
    }
