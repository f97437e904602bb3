-- Lists with one more element, and with one less.
use Rattle.std.proofs.Common.{◌≡◌, ◌∷◌, ◌++◌, ◌∙◌, ℕ, Bool, true, false, List, [], ◌⊎◌, inl, inr, ap, refl, subst, sym}
use Rattle.std.specs.Prelude.{◌&&◌, ◌||◌, if◌then◌else◌, not}
use Rattle.std.specs.List.{AllByRecursion}
use Rattle.std.specs.Set.{remove_key}
use Rattle.td_catalog.specs.model.TypedDatabases.{EachAfter}
use Rattle.td_types.specs.model.Headings.{are_distinct, has_name}
use Rattle.td_types.specs.model.Types.{same_name}
use Rattle.td_types.proofs.HeadingLaws.{same_name-flips}

module _ {A : Type 0} where
  abbrev Split : List A → A → List A → A → List A → Type 0
  Split xs x earlier y later = ((earlier ≡ xs) × (y ≡ x)) ⊎ ((rest : List A) × (xs ≡ earlier ++ (y ∷ rest)))

  first_is : (x y : A) (xs ys : List A) → x ∷ xs ≡ y ∷ ys → x ≡ y
  first_is x y xs ys e = cc

  rest_is : (x y : A) (xs ys : List A) → x ∷ xs ≡ y ∷ ys → xs ≡ ys
  rest_is x y xs ys e = cc

  -- what stands in a list with one more at its end
  split_push : (xs : List A) (x : A) (earlier : List A) (y : A) (later : List A) → xs ++ (x ∷ []) ≡ earlier ++ (y ∷ later)
      → Split xs x earlier y later
  split_push [] x [] y later e = inl (refl, sym (first_is x y [] later e))
  split_push [] x (z ∷ []) y later e = absurd (cc)
  split_push [] x (z ∷ w ∷ earlier) y later e = absurd (cc)
  split_push (c ∷ xs) x [] y later e = inr (xs, ap (λ z. z ∷ xs) (first_is c y (xs ++ (x ∷ [])) later e))
  split_push (c ∷ xs) x (z ∷ earlier) y later e =
      by_split (split_push xs x earlier y later (rest_is c z (xs ++ (x ∷ [])) (earlier ++ (y ∷ later)) e))
    where
      same : c ≡ z
      same = first_is c z (xs ++ (x ∷ [])) (earlier ++ (y ∷ later)) e

      by_split : Split xs x earlier y later → Split (c ∷ xs) x (z ∷ earlier) y later
      by_split (inl s) = inl (rw (s.0, same) refl, s.1)
      by_split (inr s) = inr (s.0, rw (← same, ← s.1) refl)

  pub each_after_none : (P : List A → A → Type 0) → EachAfter P []
  each_after_none P [] later x e = absurd (cc)
  each_after_none P (y ∷ earlier) later x e = absurd (cc)

  pub each_after_push : (P : List A → A → Type 0) (xs : List A) (x : A) → EachAfter P xs → P xs x → EachAfter P (xs ++ (x ∷ []))
  each_after_push P xs x h p earlier later y is = by_split (split_push xs x earlier y later is)
    where
      by_split : Split xs x earlier y later → P earlier y
      by_split (inl s) = subst (λ ys. P ys y) (sym s.0) (subst (P xs) (sym s.1) p)
      by_split (inr s) = h earlier s.0 y s.1

  pub all_push : (P : A → Type 0) (xs : List A) (x : A) → AllByRecursion P xs → P x → AllByRecursion P (xs ++ (x ∷ []))
  all_push P [] x h p = (p, tt)
  all_push P (y ∷ xs) x h p = (h.0, all_push P xs x h.1 p)

  pub all_between : (P : A → Type 0) (xs ys : List A) (x : A) → AllByRecursion P (xs ++ ys) → P x → AllByRecursion P ((xs ++ (x ∷ [])) ++ ys)
  all_between P [] ys x h p = (p, h)
  all_between P (y ∷ xs) ys x h p = (h.0, all_between P xs ys x h.1 p)

  pub each_kept : (P Q : List A → A → Type 0) (xs : List A)
      → ((earlier later : List A) (x : A) → xs ≡ earlier ++ (x ∷ later) → P earlier x → Q earlier x) → EachAfter P xs → EachAfter Q xs
  each_kept P Q xs f h earlier later x is = f earlier later x is (h earlier later x is)

  -- each by itself
  pub each_all : (P : A → Type 0) (xs : List A) → EachAfter (λ _. P) xs → AllByRecursion P xs
  each_all P [] h = tt
  each_all P (x ∷ xs) h = (h [] xs x refl, each_all P xs (λ earlier later y is. h (x ∷ earlier) later y (ap (λ ys. x ∷ ys) is)))

  -- ---- one less

  module _ (test : A → Bool) where
    -- one stands in the list behind others, and these are with one less what stands before it there
    abbrev IsSplit : List A → List A → A → Type 0
    IsSplit xs others y = (before : List A) × (after : List A) × (xs ≡ before ++ (y ∷ after)) × (others ≡ remove_key test before)

    pub split_removed : (xs earlier : List A) (y : A) (later : List A) → remove_key test xs ≡ earlier ++ (y ∷ later) → IsSplit xs earlier y
    split_removed [] [] y later e = absurd (cc)
    split_removed [] (z ∷ earlier) y later e = absurd (cc)
    split_removed (x ∷ xs) earlier y later e = by_test (test x) refl (λ front. split_removed xs front y later)
      where
        by_place : (front : List A) → test x ≡ false → x ∷ remove_key test xs ≡ front ++ (y ∷ later)
            → ((others : List A) → remove_key test xs ≡ others ++ (y ∷ later) → IsSplit xs others y)
            → IsSplit (x ∷ xs) front y
        by_place [] is f rest = ([], xs, ap (λ z. z ∷ xs) (first_is x y (remove_key test xs) later f), refl)
        by_place (z ∷ front) is f rest =
            let same = first_is x z (remove_key test xs) (front ++ (y ∷ later)) f in
            let split = rest front (rest_is x z (remove_key test xs) (front ++ (y ∷ later)) f) in
            (x ∷ split.0, split.1, ap (λ ys. x ∷ ys) split.2, ap (λ c. c ∷ front) (sym same) ∙ ap (λ ys. x ∷ ys) split.3 ∙ rw is refl)

        by_test : (b : Bool) → test x ≡ b → ((others : List A) → remove_key test xs ≡ others ++ (y ∷ later) → IsSplit xs others y) → IsSplit (x ∷ xs) earlier y
        by_test true is rest = (x ∷ earlier, later, ap (λ ys. x ∷ ys) (rw is at e), rw is refl)
        by_test false is rest = by_place earlier is (rw is at e) rest

    pub each_removed : (P Q : List A → A → Type 0) (xs : List A)
        → ((before after : List A) (x : A) → xs ≡ before ++ (x ∷ after) → P before x → Q (remove_key test before) x) → EachAfter P xs → EachAfter Q (remove_key test xs)
    each_removed P Q xs f h earlier later x is =
        let s = split_removed xs earlier x later is in
        subst (λ ys. Q ys x) (sym s.3) (f s.0 s.1 x s.2 (h s.0 s.1 x s.2))

    pub all_removed : (P : A → Type 0) (xs : List A) → AllByRecursion P xs → AllByRecursion P (remove_key test xs)
    all_removed P [] h = tt
    all_removed P (x ∷ xs) h = by_test (test x) (all_removed P xs h.1)
      where
        by_test : (b : Bool) → AllByRecursion P (remove_key test xs) → AllByRecursion P (if b then xs else x ∷ remove_key test xs)
        by_test true rest = h.1
        by_test false rest = (h.0, rest)

  pub all_kept : (P Q : A → Type 0) → ((x : A) → P x → Q x) → (xs : List A) → AllByRecursion P xs → AllByRecursion Q xs
  all_kept P Q f [] h = tt
  all_kept P Q f (x ∷ xs) h = (f x h.0, all_kept P Q f xs h.1)

  pub all_kept_in : (R P Q : A → Type 0) → ((x : A) → R x → P x → Q x) → (xs : List A) → AllByRecursion R xs → AllByRecursion P xs → AllByRecursion Q xs
  all_kept_in R P Q f [] r h = tt
  all_kept_in R P Q f (x ∷ xs) r h = (f x r.0 h.0, all_kept_in R P Q f xs r.1 h.1)

-- ---- names

pub both : (a b : Bool) → (a && b) ≡ true → (a ≡ true) × (b ≡ true)
both true true e = (refl, refl)
both true false e = absurd (cc)
both false b e = absurd (cc)

pub neither : (a b : Bool) → (a || b) ≡ false → (a ≡ false) × (b ≡ false)
neither false false e = (refl, refl)
neither false true e = absurd (cc)
neither true b e = absurd (cc)

has_between : (n m : List ℕ) (xs ys : List (List ℕ)) → has_name n (xs ++ ys) ≡ false → same_name m n ≡ false → has_name n ((xs ++ (m ∷ [])) ++ ys) ≡ false
has_between n m [] ys h k = rw (k, h) refl
has_between n m (x ∷ xs) ys h k =
    let apart = neither (same_name x n) (has_name n (xs ++ ys)) h in
    rw (apart.0, has_between n m xs ys apart.1 k) refl

pub not_true : (b : Bool) → not b ≡ true → b ≡ false
not_true true e = absurd (cc)
not_true false e = refl

-- one more name that is new
pub distinct_between : (n : List ℕ) (xs ys : List (List ℕ)) → are_distinct (xs ++ ys) ≡ true → has_name n (xs ++ ys) ≡ false
    → are_distinct ((xs ++ (n ∷ [])) ++ ys) ≡ true
distinct_between n [] ys h k = rw (k, h) refl
distinct_between n (x ∷ xs) ys h k =
    let parts = both (not (has_name x (xs ++ ys))) (are_distinct (xs ++ ys)) h in
    let apart = neither (same_name x n) (has_name n (xs ++ ys)) k in
    rw (has_between x n xs ys (not_true (has_name x (xs ++ ys)) parts.0) (sym (same_name-flips x n) ∙ apart.0), distinct_between n xs ys parts.1 apart.1) refl

-- one name less
pub has_removed : (test : List ℕ → Bool) (n : List ℕ) (ns : List (List ℕ)) → has_name n ns ≡ false → has_name n (remove_key test ns) ≡ false
has_removed test n [] h = refl
has_removed test n (m ∷ ns) h = by_test (test m) (has_removed test n ns)
  where
    by_test : (b : Bool) → (has_name n ns ≡ false → has_name n (remove_key test ns) ≡ false) → has_name n (if b then ns else m ∷ remove_key test ns) ≡ false
    by_test true rest = (neither (same_name m n) (has_name n ns) h).1
    by_test false rest =
        let p = neither (same_name m n) (has_name n ns) h in
        rw (p.0, rest p.1) refl

pub distinct_removed : (test : List ℕ → Bool) (ns : List (List ℕ)) → are_distinct ns ≡ true → are_distinct (remove_key test ns) ≡ true
distinct_removed test [] h = refl
distinct_removed test (n ∷ ns) h = by_test (test n) (distinct_removed test ns)
  where
    by_test : (b : Bool) → (are_distinct ns ≡ true → are_distinct (remove_key test ns) ≡ true) → are_distinct (if b then ns else n ∷ remove_key test ns) ≡ true
    by_test true rest = (both (not (has_name n ns)) (are_distinct ns) h).1
    by_test false rest =
        let p = both (not (has_name n ns)) (are_distinct ns) h in
        rw (has_removed test n ns (not_true (has_name n ns) p.0), rest p.1) refl

-- a name that is not among names is not among the first of them
pub has_front : (n : List ℕ) (xs front more : List (List ℕ)) → has_name n (xs ++ (front ++ more)) ≡ false → has_name n (xs ++ front) ≡ false
has_front n [] front more h = in_front front h
  where
    in_front : (ns : List (List ℕ)) → has_name n (ns ++ more) ≡ false → has_name n ns ≡ false
    in_front [] g = refl
    in_front (m ∷ ns) g =
        let p = neither (same_name m n) (has_name n (ns ++ more)) g in
        rw (p.0, in_front ns p.1) refl
has_front n (x ∷ xs) front more h =
    let p = neither (same_name x n) (has_name n (xs ++ (front ++ more))) h in
    rw (p.0, has_front n xs front more p.1) refl

pub distinct_front : (ns more : List (List ℕ)) → are_distinct (ns ++ more) ≡ true → are_distinct ns ≡ true
distinct_front [] more h = refl
distinct_front (n ∷ ns) more h =
    let p = both (not (has_name n (ns ++ more))) (are_distinct (ns ++ more)) h in
    rw (has_front n [] ns more (not_true (has_name n (ns ++ more)) p.0), distinct_front ns more p.1) refl

pub distinct_behind : (ns more : List (List ℕ)) → are_distinct (ns ++ more) ≡ true → are_distinct more ≡ true
distinct_behind [] more h = h
distinct_behind (n ∷ ns) more h = distinct_behind ns more (both (not (has_name n (ns ++ more))) (are_distinct (ns ++ more)) h).1
