-- Fixed attributes that are taken from a list, one after another.
use Rattle.std.proofs.Common.{◌≡◌, ◌∙◌, ◌⊎◌, inl, inr, ◌+◌, ◌++◌, ℕ, suc, zero, List, [], ◌∷◌, Some, add-one, ap, map, subst, sym, take}
use Rattle.std.proofs.lemmas.List.Elements.{Contains-append_cases}
use Rattle.std.proofs.lemmas.List.{map-append}
use Rattle.std.specs.List.{AllByRecursion, Contains, slice_get}
use Rattle.td_algebra.proofs.Lists.{contains_cases, contains_none}
use Rattle.td_eval.proofs.code_lemmas.KeepsGathered.{all_from_members, member_from_all}
use Rattle.td_types.specs.model.Types.{Heading, Type', attribute_names}

-- one more of the list
pub one_more_among : {X : Type 0} (xs ys zs : List X) (x : X) → ys ≡ xs ++ (x ∷ []) → ((y : X) → Contains xs y → Contains zs y) → Contains zs x
    → (y : X) → Contains ys y → Contains zs y
one_more_among xs ys zs x is all at y c = by_case (Contains-append_cases xs (x ∷ []) y (subst (λ us. Contains us y) is c))
  where
    last : (x ≡ y) ⊎ Contains [] y → Contains zs y
    last (inl e) = subst (Contains zs) e at
    last (inr d) = absurd (contains_none y d)

    by_case : Contains xs y ⊎ Contains (x ∷ []) y → Contains zs y
    by_case (inl d) = all y d
    by_case (inr d) = last (contains_cases x [] y d)

-- what holds of each of the list
pub all_among : {X : Type 0} (P : X → Type 0) (xs zs : List X) → ((y : X) → Contains xs y → Contains zs y) → AllByRecursion P zs → AllByRecursion P xs
all_among P xs zs within all = all_from_members P xs (λ y c. member_from_all P zs all y (within y c))

-- the names up to the next attribute
next_name : (h : Heading) (i : ℕ) (n : List ℕ) (t : Type') → slice_get h i ≡ Some (n, t) → attribute_names (take (suc i) h) ≡ attribute_names (take i h) ++ (n ∷ [])
next_name [] i n t e = absurd (cc)
next_name (a ∷ h) zero n t e = let is : a ≡ (n, t) = cc in ap (λ (b : List ℕ × Type'). b.0 ∷ []) is
next_name (a ∷ h) (suc i) n t e = ap (λ ns. a.0 ∷ ns) (next_name h i n t e)

-- one more name
pub one_more_named : {X : Type 0} (f : X → List ℕ) (xs ys : List X) (x : X) (h : Heading) (i : ℕ) (n : List ℕ) (t : Type') → ys ≡ xs ++ (x ∷ []) → f x ≡ n
    → slice_get h i ≡ Some (n, t) → map f xs ≡ attribute_names (take i h) → map f ys ≡ attribute_names (take (i + 1) h)
one_more_named f xs ys x h i n t pushed named at so_far =
    ap (map f) pushed ∙ map-append f xs (x ∷ [])
    ∙ (λ j. so_far j ++ (named j ∷ []))
    ∙ sym (next_name h i n t at)
    ∙ (λ j. attribute_names (take (sym (add-one i) j) h))
