-- Lists of names of which none comes twice.
use Rattle.std.proofs.Common.{◌≡◌, ◌∙◌, ◌∷◌, ◌++◌, ℕ, Bool, true, false, List, [], ap, not, refl, sym, true≢false}
use Rattle.std.specs.Cmp.Lexicographic.{same_text}
use Rattle.std.specs.Prelude.{◌||◌}
use Rattle.td_types.specs.model.Headings.{are_distinct, has_name}
use Rattle.td_types.specs.model.Types.{same_name}
use Rattle.td_catalog.proofs.Lists.{both, neither, not_true}

pub has_name-append : (n : List ℕ) (xs ys : List (List ℕ)) → has_name n (xs ++ ys) ≡ (has_name n xs || has_name n ys)
has_name-append n [] ys = refl
has_name-append n (x ∷ xs) ys = by_test (same_name x n) (has_name-append n xs ys)
  where
    by_test : (b : Bool) → has_name n (xs ++ ys) ≡ (has_name n xs || has_name n ys)
        → (b || has_name n (xs ++ ys)) ≡ ((b || has_name n xs) || has_name n ys)
    by_test true rest = refl
    by_test false rest = rest

pub has_first : (n : List ℕ) (xs ys : List (List ℕ)) → has_name n xs ≡ true → has_name n (xs ++ ys) ≡ true
has_first n xs ys h = has_name-append n xs ys ∙ rw h refl

pub has_rest : (n : List ℕ) (xs ys : List (List ℕ)) → has_name n ys ≡ true → has_name n (xs ++ ys) ≡ true
has_rest n xs ys h = has_name-append n xs ys ∙ by_test (has_name n xs)
  where
    by_test : (b : Bool) → (b || has_name n ys) ≡ true
    by_test true = refl
    by_test false = h

-- the first of distinct names is none of the others, which are distinct
pub first_apart : (n : List ℕ) (ns : List (List ℕ)) → are_distinct (n ∷ ns) ≡ true → (has_name n ns ≡ false) × (are_distinct ns ≡ true)
first_apart n ns h = let parts = both (not (has_name n ns)) (are_distinct ns) h in (not_true (has_name n ns) parts.0, parts.1)

-- a name of the second of two lists of distinct names is none of the first
pub are_apart : (n : List ℕ) (xs ys : List (List ℕ)) → are_distinct (xs ++ ys) ≡ true → has_name n ys ≡ true → has_name n xs ≡ false
are_apart n [] ys d h = refl
are_apart n (x ∷ xs) ys d h = by_test (same_name x n) refl (are_apart n xs ys parts.1 h)
  where
    parts : (has_name x (xs ++ ys) ≡ false) × (are_distinct (xs ++ ys) ≡ true)
    parts = first_apart x (xs ++ ys) d

    by_test : (b : Bool) → same_name x n ≡ b → has_name n xs ≡ false → (b || has_name n xs) ≡ false
    by_test true is rest =
        let there : has_name x (xs ++ ys) ≡ true = ap (λ m. has_name m (xs ++ ys)) (same_text x n (sym is)) ∙ has_rest n xs ys h in
        absurd (true≢false (sym there ∙ parts.0))
    by_test false is rest = rest

pub distinct_first : (xs ys : List (List ℕ)) → are_distinct (xs ++ ys) ≡ true → are_distinct xs ≡ true
distinct_first [] ys h = refl
distinct_first (x ∷ xs) ys h =
    let parts = first_apart x (xs ++ ys) h in
    let new : has_name x xs ≡ false = (neither (has_name x xs) (has_name x ys) (sym (has_name-append x xs ys) ∙ parts.0)).0 in
    rw (new, distinct_first xs ys parts.1) refl

pub distinct_rest : (xs ys : List (List ℕ)) → are_distinct (xs ++ ys) ≡ true → are_distinct ys ≡ true
distinct_rest [] ys h = h
distinct_rest (x ∷ xs) ys h = distinct_rest xs ys (first_apart x (xs ++ ys) h).1
