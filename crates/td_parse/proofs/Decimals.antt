-- Numbers too large to be spelled.
use Rattle.std.proofs.Common.{◌≡◌, ℕ, suc, ◌+◌, ◌-◌, ◌*◌, ◌^◌, ◌<◌, ◌≤◌, true, false, List, [], ◌∷◌, length, drop, get_or, Some, None, refl, sym, arith, subst, nat_le, if◌then◌else◌}
use Rattle.std.specs.Prelude.{fold}
use Rattle.std.proofs.Math.Seq.{drop-cons}
use Rattle.std.proofs.lemmas.Bool.{cases_lt}
use Rattle.std.proofs.Common.{inl, inr}
use Rattle.td_tree.specs.model.Numbers.{numeral_limit}

abbrev pub step : ℕ → ℕ → ℕ
step n digit = n * 10 + (digit - 48)

-- further digits make no number less
grows : (v : ℕ) (digits : List ℕ) → v ≤ fold step v digits
grows v [] = omega arith
grows v (d ∷ ds) = omega (arith, grows (step v d) ds)

-- where one more digit leaves 64 bits, the number is too large
pub large : (digits : List ℕ) (i v d : ℕ) → i < length digits → get_or digits i 0 ≡ d → 2 ^ 64 ≤ step v d → 2 ^ 64 ≤ fold step v (drop i digits)
large digits i v d inside is out =
    rw (drop-cons digits i 0) (subst (λ x. 2 ^ 64 ≤ fold step (step v x) (drop (suc i) digits)) (sym is) (omega (arith, grows (step v d) (drop (suc i) digits), out)))

not_at_most : (n : ℕ) → 2 ^ 64 ≤ n → nat_le n (numeral_limit true) ≡ false
not_at_most n h = grind arith

pub none_spelled : (n : ℕ) → 2 ^ 64 ≤ n → None ≡ (if nat_le n (numeral_limit true) then Some n else None)
none_spelled n h = rw (not_at_most n h) refl

pub not_below : (n m : ℕ) → (n < m → ⊥) → m ≤ n
not_below n m h = elim (cases_lt n m) [ inl less ↦ absurd (h less) | inr more ↦ more ]
