-- Cases by a test that decides.
use Rattle.std.proofs.Common.{◌≡◌, ◌∙◌, ℕ, Bool, true, false, refl, sym, nat_eq, true≢false}
use Rattle.std.specs.Bool.{Decides}
use Rattle.std.proofs.lemmas.Bool.{eqb-true, eqb-false}

pub split_nat : (a b : ℕ) {G : Type 0} → (a ≡ b → nat_eq a b ≡ true → G) → ((a ≡ b → ⊥) → nat_eq a b ≡ false → G) → G
split_nat a b {G} if_same if_other = by (nat_eq a b) refl
  where
    by : (t : Bool) → nat_eq a b ≡ t → G
    by true e = if_same (eqb-true a b e) e
    by false e = if_other (eqb-false a b e) e

module _ {K : Type 0} (eq : K → K → Bool) (decides : (x y : K) → Decides (eq x y) (x ≡ y)) where
  pub split : (a b : K) {G : Type 0} → (a ≡ b → eq a b ≡ true → G) → ((a ≡ b → ⊥) → eq a b ≡ false → G) → G
  split a b {G} if_same if_other = by (eq a b) refl
    where
      by : (t : Bool) → eq a b ≡ t → G
      by true e = if_same ((decides a b).0 e) e
      by false e = if_other (λ is. true≢false (sym ((decides a b).1 is) ∙ e)) e
