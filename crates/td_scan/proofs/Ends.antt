-- Lists up to an end.
use Rattle.std.proofs.Common.{◌≡◌, List, [], ◌∷◌, ◌++◌, refl, sym, ap, ◌∙◌, Bool, true, false, not, Option, Some, None, if◌then◌else◌, ⊎_elim}
use Rattle.std.specs.Prelude.{option_map}
use Rattle.td_tree.specs.model.Division.{up_to}
use Rattle.td_tree.proofs.law_lemmas.EndLaws.{up_to_cases}

module _ {X : Type 0} (e : X → Bool) where
  -- what is found at the front is found whatever follows
  pub found_more : (xs ys first : List X) → up_to e xs ≡ Some first → up_to e (xs ++ ys) ≡ Some first
  found_more [] ys first found = absurd cc
  found_more (x ∷ xs) ys first found = ⊎_elim
      (λ w. ap (λ b. if b then Some (x ∷ []) else option_map (λ qs. x ∷ qs) (up_to e (xs ++ ys))) w.yes ∙ ap Some (sym w.one))
      (λ l. ap (λ b. if b then Some (x ∷ []) else option_map (λ qs. x ∷ qs) (up_to e (xs ++ ys))) l.no ∙ ap (option_map (λ qs. x ∷ qs)) (found_more xs ys l.inner l.found) ∙ ap Some (sym l.more))
      (up_to_cases e x xs first found)

  -- where none is found there is none at its head, and none behind
  pub none_cases : (x : X) (xs : List X) → up_to e (x ∷ xs) ≡ None → (e x ≡ false) × (up_to e xs ≡ None)
  none_cases x xs =
      (elim (e x) as (λ b. e x ≡ b → (if b then Some (x ∷ []) else option_map (λ qs. x ∷ qs) (up_to e xs)) ≡ None → (e x ≡ false) × (up_to e xs ≡ None)) [
        | true ↦ λ is none. absurd cc
        | false ↦ λ is. (elim (up_to e xs) as (λ o. option_map (λ qs. x ∷ qs) o ≡ None → (e x ≡ false) × (o ≡ None)) [
          | None ↦ λ none. (is, refl)
          | Some qs ↦ λ none. absurd cc
        ])
      ]) refl

  pub none_here : (x : X) (xs : List X) → e x ≡ false → up_to e xs ≡ None → up_to e (x ∷ xs) ≡ None
  none_here x xs other none = ap (λ b. if b then Some (x ∷ []) else option_map (λ qs. x ∷ qs) (up_to e xs)) other ∙ ap (option_map (λ qs. x ∷ qs)) none

  pub none_both : (xs ys : List X) → up_to e xs ≡ None → up_to e ys ≡ None → up_to e (xs ++ ys) ≡ None
  none_both [] ys none more = more
  none_both (x ∷ xs) ys none more = let w = none_cases x xs none in none_here x (xs ++ ys) w.0 (none_both xs ys w.1 more)

  -- behind what has none
  pub past_none : (xs ys : List X) → up_to e xs ≡ None → up_to e (xs ++ ys) ≡ option_map (λ qs. xs ++ qs) (up_to e ys)
  past_none [] ys none = alone (up_to e ys)
    where
      alone : (o : Option (List X)) → o ≡ option_map (λ qs. qs) o
      alone None = refl
      alone (Some qs) = refl
  past_none (x ∷ xs) ys none =
      let w = none_cases x xs none in
      ap (λ b. if b then Some (x ∷ []) else option_map (λ qs. x ∷ qs) (up_to e (xs ++ ys))) w.0 ∙ ap (option_map (λ qs. x ∷ qs)) (past_none xs ys w.1) ∙ joined (up_to e ys)
    where
      joined : (o : Option (List X)) → option_map (λ qs. x ∷ qs) (option_map (λ qs. xs ++ qs) o) ≡ option_map (λ qs. x ∷ (xs ++ qs)) o
      joined None = refl
      joined (Some qs) = refl

-- ---- answers

pub false_of : (b : Bool) → not b ≡ true → b ≡ false
false_of false e = refl
false_of true e = absurd cc
