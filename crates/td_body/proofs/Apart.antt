-- Lists in which no two items tie: each order of them is one or none is, and a sorted one ascends strictly.
use Rattle.std.proofs.Common.{◌≡◌, ◌∙◌, ◌∷◌, ◌+◌, ◌<◌, ◌≤◌, ℕ, suc, zero, Bool, true, false, cond, List, [], add-one, ap, arith, get_or, length, refl, sym, subst, true≢false}
use Rattle.std.specs.Prelude.{not, ◌&&◌}
use Rattle.std.specs.declared.cmp.Ordering.{Ordering}
use Rattle.std.specs.declared.cmp.Ordering.TheVariants.{Less, Equal, Greater}
use Rattle.std.specs.Cmp.{IsTotalOrder}
use Rattle.std.specs.List.{AllByRecursion, count_by, list_any}
use Rattle.std.specs.List.Sorted.{IsPermutation, IsSortedBy}
use Rattle.std.specs.Ordering.{is_eq, is_lt, ordering_reverse}
use Rattle.std.proofs.lemmas.Cmp.{tied_itself}
use Rattle.std.proofs.lemmas.List.Sorted.{sum_by-IsPermutation}
use Rattle.std.proofs.lemmas.List.Sums.{sum_by-cons}

is_less : (o : Ordering) → true ≡ is_lt o → o ≡ Less
is_less Less h = refl
is_less Equal h = cc
is_less Greater h = cc

is_tie : (o : Ordering) → is_eq o ≡ true → o ≡ Equal
is_tie Less h = cc
is_tie Equal h = refl
is_tie Greater h = cc

-- neither is less than the other
between : (o : Ordering) → false ≡ is_lt o → is_lt (ordering_reverse o) ≡ false → is_eq o ≡ true
between Less h k = cc
between Equal h k = refl
between Greater h k = cc

first_of : (b c : Bool) → (not b && c) ≡ true → b ≡ false
first_of true c e = absurd (true≢false (sym e))
first_of false c e = refl

second_of : (b c : Bool) → (not b && c) ≡ true → c ≡ true
second_of true c e = absurd (true≢false (sym e))
second_of false c e = e

never : (b : Bool) → (b && false) ≡ false
never true = refl
never false = refl

module _ {X K : Type 0} (R : K → K → Ordering) (o : IsTotalOrder R) (f : X → K) where
  abbrev pub ties : X → X → Bool
  ties x y = is_eq (R (f x) (f y))

  -- whether no two tie
  abbrev pub apart : List X → Bool
  apart [] = true
  apart (x ∷ xs) = not (list_any (ties x) xs) && apart xs

  below_all : (x y : X) (ys : List X) → R (f x) (f y) ≡ Less → AllByRecursion (λ z. R (f y) (f z) ≡ Less) ys → AllByRecursion (λ z. R (f x) (f z) ≡ Less) ys
  below_all x y [] e h = tt
  below_all x y (z ∷ ys) e h = (o.trans (f x) (f y) (f z) e h.0, below_all x y ys e h.1)

  none_ties : (x : X) (xs : List X) → AllByRecursion (λ y. R (f x) (f y) ≡ Less) xs → list_any (ties x) xs ≡ false
  none_ties x [] h = refl
  none_ties x (y ∷ xs) h = rw h.0 (none_ties x xs h.1)

  Rises : List X → Type 0
  Rises xs = (k : ℕ) (d : X) → k + 1 < length xs → true ≡ is_lt (R (f (get_or xs k d)) (f (get_or xs (k + 1) d)))

  later : (x : X) (xs : List X) → Rises (x ∷ xs) → Rises xs
  unfolding Rises
  later x xs h k d l = rw (add-one k) (rw (add-one (suc k)) at (h (suc k) d (omega arith)))

  first_below : (x : X) (xs : List X) → Rises (x ∷ xs) → AllByRecursion (λ y. R (f x) (f y) ≡ Less) xs
  unfolding Rises
  first_below x [] h = tt
  first_below x (y ∷ ys) h =
      let e : R (f x) (f y) ≡ Less = is_less _ (h 0 x (omega arith)) in
      (e, below_all x y ys e (first_below y ys (later x (y ∷ ys) h)))

  -- a list in which each is less than the next has no two that tie
  pub apart_rising : (xs : List X) → ((k : ℕ) (d : X) → k + 1 < length xs → true ≡ is_lt (R (f (get_or xs k d)) (f (get_or xs (k + 1) d)))) → apart xs ≡ true
  unfolding Rises
  apart_rising [] h = refl
  apart_rising (x ∷ xs) h = rw (none_ties x xs (first_below x xs h)) (apart_rising xs (later x xs h))

  -- a sorted list in which one is not less than the next has two that tie
  pub apart_falling : (xs : List X) (k : ℕ) → k + 1 < length xs → ((d : X) → false ≡ is_lt (R (f (get_or xs k d)) (f (get_or xs (k + 1) d))))
      → IsSortedBy (λ x y. is_lt (R (f x) (f y))) xs → apart xs ≡ false
  apart_falling [] k l h up = absurd (omega arith)
  apart_falling (x ∷ []) k l h up = absurd (omega arith)
  apart_falling (x ∷ y ∷ ys) zero l h up =
      let back : is_lt (ordering_reverse (R (f x) (f y))) ≡ false = subst (λ r. is_lt r ≡ false) (o.antisymm (f y) (f x)) (up 0 x (omega arith) (omega arith)) in
      rw (between (R (f x) (f y)) (h x) back) refl
  apart_falling (x ∷ y ∷ ys) (suc k) l h up =
      rw (apart_falling (y ∷ ys) k (omega arith) (λ d. rw (add-one k) (rw (add-one (suc k)) at (h d))) (λ i d a b. rw (add-one i) (rw (add-one (suc i)) at (up (suc i) d (omega arith) (omega arith))))) (never (not (list_any (ties x) (y ∷ ys))))

  -- ---- in another order

  abbrev counted : X → List X → ℕ
  counted t = count_by (ties t)

  counted_more : (t x : X) (xs : List X) → counted t (x ∷ xs) ≡ cond (ties t x) 1 0 + counted t xs
  counted_more t x xs = sum_by-cons (λ k. cond (ties t k) 1 0) x xs

  not_counted : (t : X) (xs : List X) → list_any (ties t) xs ≡ false → counted t xs ≡ 0
  not_counted t [] h = refl
  not_counted t (x ∷ xs) h = by_test (not_counted t xs) (ties t x) refl
    where
      by_test : (list_any (ties t) xs ≡ false → counted t xs ≡ 0) → (b : Bool) → ties t x ≡ b → counted t (x ∷ xs) ≡ 0
      by_test rest true e = absurd (true≢false (rw e at h))
      by_test rest false e = counted_more t x xs ∙ rw e (omega (arith, rest (rw e at h)))

  no_tie : (t : X) (xs : List X) → counted t xs ≡ 0 → list_any (ties t) xs ≡ false
  no_tie t [] h = refl
  no_tie t (x ∷ xs) h = by_test (no_tie t xs) (ties t x) refl
    where
      by_test : (counted t xs ≡ 0 → list_any (ties t) xs ≡ false) → (b : Bool) → ties t x ≡ b → list_any (ties t) (x ∷ xs) ≡ false
      by_test rest true e =
          let one : counted t (x ∷ xs) ≡ 1 + counted t xs = counted_more t x xs ∙ rw e refl in
          absurd (omega (arith, one, h))
      by_test rest false e =
          let none : counted t (x ∷ xs) ≡ 0 + counted t xs = counted_more t x xs ∙ rw e refl in
          rw e (rest (omega (arith, none, h)))

  -- what ties with one of two that tie ties with the other
  same_ties : (t x y : X) → ties t x ≡ true → ties x y ≡ ties t y
  same_ties t x y e = ap is_eq (sym (o.congr (f t) (f x) (f y) (is_tie _ e)))

  same_count : (t x : X) (xs : List X) → ties t x ≡ true → counted t xs ≡ counted x xs
  same_count t x [] e = refl
  same_count t x (y ∷ ys) e = counted_more t y ys ∙ rw (← same_ties t x y e, same_count t x ys e) (sym (counted_more x y ys))

  counts_from : (xs : List X) → apart xs ≡ true → (t : X) → counted t xs ≤ 1
  counts_from [] d t = omega arith
  counts_from (x ∷ xs) d t = by_test (counts_from xs (second_of _ _ d) t) (ties t x) refl
    where
      by_test : counted t xs ≤ 1 → (b : Bool) → ties t x ≡ b → counted t (x ∷ xs) ≤ 1
      by_test rest true e =
          let none : counted t xs ≡ 0 = same_count t x xs e ∙ not_counted x xs (first_of _ _ d) in
          let one : counted t (x ∷ xs) ≡ 1 + counted t xs = counted_more t x xs ∙ rw e refl in
          omega (arith, one, none)
      by_test rest false e =
          let same : counted t (x ∷ xs) ≡ 0 + counted t xs = counted_more t x xs ∙ rw e refl in
          omega (arith, same, rest)

  apart_from : (xs : List X) → ((t : X) → counted t xs ≤ 1) → apart xs ≡ true
  apart_from [] h = refl
  apart_from (x ∷ xs) h =
      let itself : counted x (x ∷ xs) ≡ 1 + counted x xs = counted_more x x xs ∙ rw (tied_itself o (f x)) refl in
      let none : list_any (ties x) xs ≡ false = no_tie x xs (omega (arith, h x, itself)) in
      rw none (apart_from xs (λ t. omega (arith, h t, counted_more t x xs)))

  -- no two tie in each order of a list or in none
  pub apart_permuted : (xs ys : List X) → IsPermutation xs ys → apart xs ≡ apart ys
  apart_permuted xs ys p = by_tests (apart xs) (apart ys) refl refl
    where
      counts : (t : X) → counted t ys ≡ counted t xs
      counts t = sum_by-IsPermutation (λ x. cond (ties t x) 1 0) xs ys p

      by_tests : (a b : Bool) → apart xs ≡ a → apart ys ≡ b → a ≡ b
      by_tests true true d e = refl
      by_tests false false d e = refl
      by_tests true false d e = sym (apart_from ys (λ t. omega (arith, counts t, counts_from xs d t))) ∙ e
      by_tests false true d e = sym d ∙ apart_from xs (λ t. omega (arith, counts t, counts_from ys e t))
