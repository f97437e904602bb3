-- Lists and their first parts: what holds of each entry, and names that no earlier entry has.
use Rattle.std.proofs.Common.{◌≡◌, ◌∙◌, ◌∷◌, ◌++◌, ℕ, true, false, List, [], append_assoc, ap, map, refl, subst, sym}
use Rattle.std.specs.List.{AllByRecursion}
use Rattle.std.proofs.lemmas.List.{map-append}
use Rattle.td_eval.proofs.law_lemmas.DistinctNames.{are_apart}
use Rattle.td_types.proofs.HeadingLaws.{same_name-itself}
use Rattle.td_types.specs.model.Headings.{are_distinct, has_name}

module _ {A : Type 0} where
  -- the list begins with the front
  abbrev pub BeginsWith : List A → List A → Type 0
  BeginsWith all front = (more : List A) × (all ≡ front ++ more)

  -- what holds of each of two lists joined
  all_front : (P : A → Type 0) (xs more : List A) → AllByRecursion P (xs ++ more) → AllByRecursion P xs
  all_front P [] more h = tt
  all_front P (x ∷ xs) more h = (h.0, all_front P xs more h.1)

  pub all_behind : (P : A → Type 0) (xs more : List A) → AllByRecursion P (xs ++ more) → AllByRecursion P more
  all_behind P [] more h = h
  all_behind P (x ∷ xs) more h = all_behind P xs more h.1

  pub all_first : (P : A → Type 0) (all front : List A) → BeginsWith all front → AllByRecursion P all → AllByRecursion P front
  all_first P all front begins h = all_front P front begins.0 (subst (AllByRecursion P) begins.1 h)

  -- and of one entry
  pub all_at : (P : A → Type 0) (all front rest : List A) (x : A) → all ≡ front ++ (x ∷ rest) → AllByRecursion P all → P x
  all_at P all front rest x e h = (all_behind P front (x ∷ rest) (subst (AllByRecursion P) e h)).0

  -- a front with the entry that stands behind it
  pub one_more : (all front rest : List A) (x : A) → all ≡ front ++ (x ∷ rest) → BeginsWith all (front ++ (x ∷ []))
  one_more all front rest x e = (rest, e ∙ sym (append_assoc front (x ∷ []) rest))

-- what holds of what is made of each
pub all_unmapped : {A B : Type 0} (P : B → Type 0) (f : A → B) (xs : List A) → AllByRecursion P (map f xs) → AllByRecursion (λ x. P (f x)) xs
all_unmapped P f [] h = tt
all_unmapped P f (x ∷ xs) h = (h.0, all_unmapped P f xs h.1)

-- where names are distinct, an entry's is none of those before it
pub new_name : {A : Type 0} (name_of : A → List ℕ) (names : List (List ℕ)) (all front rest : List A) (x : A) → all ≡ front ++ (x ∷ rest)
    → are_distinct (names ++ map name_of all) ≡ true → has_name (name_of x) (names ++ map name_of front) ≡ false
new_name {A} name_of names all front rest x e d =
    are_apart (name_of x) (names ++ map name_of front) (map name_of (x ∷ rest)) distinct here
  where
    distinct : are_distinct ((names ++ map name_of front) ++ map name_of (x ∷ rest)) ≡ true
    distinct =
        ap are_distinct
        (append_assoc names (map name_of front) (map name_of (x ∷ rest))
        ∙ ap (λ ns. names ++ ns) (sym (map-append name_of front (x ∷ rest)) ∙ ap (map name_of) (sym e)))
        ∙ d

    here : has_name (name_of x) (map name_of (x ∷ rest)) ≡ true
    here = rw (same_name-itself (name_of x)) refl
