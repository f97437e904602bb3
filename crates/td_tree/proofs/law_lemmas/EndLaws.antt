-- What follows an end is divided anew.
use Rattle.std.proofs.Common.{◌≡◌, List, [], ◌∷◌, ◌++◌, refl, sym, ap, ◌∙◌, append_assoc, Option, Some, None, Bool, true, false, if◌then◌else◌, ◌⊎◌, inl, inr, ⊎_elim}
use Rattle.std.specs.Prelude.{option_map}
use Rattle.std.specs.List.{flat_map}
use Rattle.td_tree.specs.model.Division.{divide_from, divide, up_to}
use Rattle.td_tree.proofs.law_lemmas.DivisionLaws.{up_to-ends}

-- what is found up to an end is found in its own pieces alone
module _ {X S : Type 0} (opens : X → S) (goes_on : S → X → Option S) (ends : List X → Bool) where
  -- xs begins with the rest of these pieces
  pub record FoundIn (s : S) (p xs : List X) (front : List (List X)) : Type 0 where
    pub taken : List X
    pub left : List X
    pub is : xs ≡ taken ++ left
    pub again : up_to ends (divide_from opens goes_on s p taken) ≡ Some front
    pub whole : p ++ taken ≡ flat_map (λ q. q) front
    pub rest : divide_from opens goes_on s p xs ≡ front ++ divide opens goes_on left

pub record Ended {X : Type 0} (ends : X → Bool) (p : X) (front : List X) : Type 0 where
  pub yes : ends p ≡ true
  pub one : front ≡ p ∷ []

pub record Later {X : Type 0} (ends : X → Bool) (p : X) (ps front : List X) : Type 0 where
  pub no : ends p ≡ false
  pub inner : List X
  pub found : up_to ends ps ≡ Some inner
  pub more : front ≡ p ∷ inner

pub up_to_cases : {X : Type 0} (ends : X → Bool) (p : X) (ps front : List X) → up_to ends (p ∷ ps) ≡ Some front → Ended ends p front ⊎ Later ends p ps front
up_to_cases {X} ends p ps front =
    (elim (ends p) as (λ b. ends p ≡ b → (if b then Some (p ∷ []) else option_map (λ qs. p ∷ qs) (up_to ends ps)) ≡ Some front → Ended ends p front ⊎ Later ends p ps front) [
      | true ↦ λ e found. inl (record { yes = e; one = (let one : p ∷ [] ≡ front = cc in sym one) })
      | false ↦ λ e. (elim (up_to ends ps) as (λ o. up_to ends ps ≡ o → option_map (λ qs. p ∷ qs) o ≡ Some front → Ended ends p front ⊎ Later ends p ps front) [
        | None ↦ λ is found. absurd cc
        | Some inner ↦ λ is found. inr (record { no = e; inner = inner; found = is; more = (let more : p ∷ inner ≡ front = cc in sym more) })
      ]) refl
    ]) refl

module _ {X S : Type 0} (opens : X → S) (goes_on : S → X → Option S) (ends : List X → Bool) where
  -- what ends here ends whatever follows, and the rest begins anew
  here : (s : S) (p left : List X) (front : List (List X)) → divide_from opens goes_on s p left ≡ p ∷ divide opens goes_on left → Ended ends p front → FoundIn opens goes_on ends s p left front
  here s p left front is ended = record {
    taken = [];
    left = left;
    is = refl;
    again = up_to-ends ends p [] ended.yes ∙ ap Some (sym ended.one);
    whole = sym (ap (flat_map (λ q. q)) ended.one);
    rest = is ∙ ap (λ f. f ++ divide opens goes_on left) (sym ended.one);
  }

  later_piece : (s : S) (p xs : List X) (x : X) (front : List (List X)) → goes_on s x ≡ None → (l : Later ends p (divide_from opens goes_on (opens x) (x ∷ []) xs) front)
      → FoundIn opens goes_on ends (opens x) (x ∷ []) xs l.inner → FoundIn opens goes_on ends s p (x ∷ xs) front
  later_piece s p xs x front none l f = record {
    taken = x ∷ f.taken;
    left = f.left;
    is = ap (λ r. x ∷ r) f.is;
    again = ap (λ o. up_to ends (elim o as (λ _. List (List X)) [ Some t ↦ divide_from opens goes_on t (p ++ x ∷ []) f.taken | None ↦ p ∷ divide_from opens goes_on (opens x) (x ∷ []) f.taken ])) none
        ∙ ap (λ b. if b then Some (p ∷ []) else option_map (λ qs. p ∷ qs) (up_to ends (divide_from opens goes_on (opens x) (x ∷ []) f.taken))) l.no
        ∙ ap (option_map (λ qs. p ∷ qs)) f.again ∙ ap Some (sym l.more);
    whole = ap (λ r. p ++ r) f.whole ∙ sym (ap (flat_map (λ q. q)) l.more);
    rest = ap (λ o. elim o as (λ _. List (List X)) [ Some t ↦ divide_from opens goes_on t (p ++ x ∷ []) xs | None ↦ p ∷ divide_from opens goes_on (opens x) (x ∷ []) xs ]) none
        ∙ ap (λ r. p ∷ r) f.rest ∙ ap (λ r. r ++ divide opens goes_on f.left) (sym l.more);
  }

  longer : (s t : S) (p xs : List X) (x : X) (front : List (List X)) → goes_on s x ≡ Some t → FoundIn opens goes_on ends t (p ++ x ∷ []) xs front → FoundIn opens goes_on ends s p (x ∷ xs) front
  longer s t p xs x front some f = record {
    taken = x ∷ f.taken;
    left = f.left;
    is = ap (λ r. x ∷ r) f.is;
    again = ap (λ o. up_to ends (elim o as (λ _. List (List X)) [ Some t ↦ divide_from opens goes_on t (p ++ x ∷ []) f.taken | None ↦ p ∷ divide_from opens goes_on (opens x) (x ∷ []) f.taken ])) some ∙ f.again;
    whole = sym (append_assoc p (x ∷ []) f.taken) ∙ f.whole;
    rest = ap (λ o. elim o as (λ _. List (List X)) [ Some t ↦ divide_from opens goes_on t (p ++ x ∷ []) xs | None ↦ p ∷ divide_from opens goes_on (opens x) (x ∷ []) xs ]) some ∙ f.rest;
  }

  -- where an end is found, what follows it is divided anew
  pub found_in : (s : S) (p xs : List X) (front : List (List X)) → up_to ends (divide_from opens goes_on s p xs) ≡ Some front → FoundIn opens goes_on ends s p xs front
  found_in s p [] front = λ found. ⊎_elim (λ e. here s p [] front refl e) (λ l. absurd (let none : None ≡ Some l.inner = l.found in cc)) (up_to_cases ends p [] front found)
  found_in s p (x ∷ xs) front =
      (elim (goes_on s x) as (λ o. goes_on s x ≡ o
      → up_to ends (elim o as (λ _. List (List X)) [ Some t ↦ divide_from opens goes_on t (p ++ x ∷ []) xs | None ↦ p ∷ divide_from opens goes_on (opens x) (x ∷ []) xs ]) ≡ Some front → FoundIn opens goes_on ends s p (x ∷ xs) front) [
        | Some t ↦ λ some found. longer s t p xs x front some (found_in t (p ++ x ∷ []) xs front found)
        | None ↦ λ none found. ⊎_elim
            (λ e. here s p (x ∷ xs) front (ap (λ o. elim o as (λ _. List (List X)) [ Some t ↦ divide_from opens goes_on t (p ++ x ∷ []) xs | None ↦ p ∷ divide_from opens goes_on (opens x) (x ∷ []) xs ]) none) e)
            (λ l. later_piece s p xs x front none l (found_in (opens x) (x ∷ []) xs l.inner l.found))
            (up_to_cases ends p (divide_from opens goes_on (opens x) (x ∷ []) xs) front found)
      ]) refl
