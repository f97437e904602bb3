-- Checks that are made one after another until one refuses.
use Rattle.std.proofs.Common.{◌≡◌, ◌∙◌, ◌∷◌, ◌+◌, ℕ, zero, suc, List, [], Option, Some, None, Err, ap, drop, arith, refl}
use Rattle.std.specs.List.{slice_get}
use Rattle.std.specs.Option.{option_or}
use Rattle.td_engine.specs.code.Carried.{Passes, refusal_view}
use Rattle.td_engine.specs.model.Checks.{first_refusal}
use Rattle.td_engine.specs.model.Refusals.{Refusal}
use Rattle.td_engine.specs.declared.refusal.Failure.{Failure}
use Rattle.td_engine.specs.declared.refusal.Failure.TheVariants as failures

module _ {A : Type 0} where
  -- what is left from a place on
  pub drop_next : (xs : List A) (i : ℕ) (x : A) → slice_get xs i ≡ Some x → drop i xs ≡ x ∷ drop (i + 1) xs
  drop_next xs i x e = by_place xs i e ∙ ap (λ n. x ∷ drop n xs) next
    where
      next : suc i ≡ i + 1
      next = omega arith

      by_place : (ys : List A) (j : ℕ) → slice_get ys j ≡ Some x → drop j ys ≡ x ∷ drop (suc j) ys
      by_place [] j f = absurd (cc)
      by_place (y ∷ ys) zero f = let same : y ≡ x = cc in ap (λ z. z ∷ ys) same
      by_place (y ∷ ys) (suc j) f = by_place ys j f

  -- where nothing stands at a place, nothing is left from it on
  pub none_left : (xs : List A) (i : ℕ) → slice_get xs i ≡ None → drop i xs ≡ []
  none_left [] zero e = refl
  none_left [] (suc i) e = refl
  none_left (x ∷ xs) zero e = absurd (cc)
  none_left (x ∷ xs) (suc i) e = none_left xs i e

  module _ (check : A → Option Refusal) (xs : List A) where
    -- the first that refuses is among those from a place on
    abbrev pub IsLeft : ℕ → Type 0
    IsLeft i = first_refusal check xs ≡ first_refusal check (drop i xs)

    pub passed_next : (i : ℕ) (x : A) → IsLeft i → slice_get xs i ≡ Some x → check x ≡ None → IsLeft (i + 1)
    passed_next i x h at is = h ∙ ap (first_refusal check) (drop_next xs i x at) ∙ ap (λ o. option_or o (first_refusal check (drop (i + 1) xs))) is

    pub refused_at : (i : ℕ) (x : A) (r : Refusal) → IsLeft i → slice_get xs i ≡ Some x → check x ≡ Some r → first_refusal check xs ≡ Some r
    refused_at i x r h at is = h ∙ ap (first_refusal check) (drop_next xs i x at) ∙ ap (λ o. option_or o (first_refusal check (drop (i + 1) xs))) is

    -- a check that refuses at a place, or finds no memory
    pub refusal_at : (i : ℕ) (x : A) (f : Failure) → IsLeft i → slice_get xs i ≡ Some x → Passes (Err f) (check x) → Passes (Err f) (first_refusal check xs)
    refusal_at i x (failures.Refused r) h at is = refused_at i x (refusal_view r) h at is
    refusal_at i x failures.Memory h at is = tt
