-- Lists that are sorted by their names, and whether a name comes twice in them.
use Rattle.std.proofs.Common.{◌≡◌, ℕ, suc, ◌+◌, ◌≤◌, Bool, true, false, cond, List, [], ◌∷◌, refl, sym, ap, ◌∙◌, subst, arith, map, add-one, true≢false}
use Rattle.std.specs.Prelude.{not, ◌&&◌}
use Rattle.std.specs.declared.cmp.Ordering.{Ordering}
use Rattle.std.specs.declared.cmp.Ordering.TheVariants.{Less, Equal, Greater}
use Rattle.std.specs.Ordering.{nat_cmp, is_lt, is_eq, ordering_reverse, ordering_then}
use Rattle.std.specs.Cmp.Lexicographic.{slice_cmp, texts_ties, same_text}
use Rattle.std.specs.List.{AllByRecursion, count_by}
use Rattle.std.specs.List.Sorted.{IsPermutation, IsSorted, IsSortedBy, IsStrictlySortedBy}
use Rattle.std.proofs.lemmas.Cmp.{nat_list_cmp_total, nat_list_eq_equiv, alike_right}
use Rattle.std.proofs.lemmas.List.Sorted.{sum_by-IsPermutation}
use Rattle.std.proofs.lemmas.List.Sums.{sum_by-cons}
use Rattle.td_types.specs.model.Types.{same_name}
use Rattle.td_types.specs.model.Headings.{are_distinct, has_name}

abbrev pub name_cmp : List ℕ → List ℕ → Ordering
name_cmp = slice_cmp nat_cmp

below_from : (m n : List ℕ) → is_lt (name_cmp m n) ≡ false → same_name m n ≡ false → name_cmp n m ≡ Less
below_from m n a b = by_order (name_cmp m n) refl
  where
    by_order : (r : Ordering) → name_cmp m n ≡ r → name_cmp n m ≡ Less
    by_order Less e = absurd (true≢false (rw e at a))
    by_order Equal e = absurd (true≢false (sym (ap is_eq e) ∙ sym (texts_ties m n) ∙ b))
    by_order Greater e = nat_list_cmp_total.antisymm n m ∙ ap ordering_reverse e

below_later : (n y z : List ℕ) → name_cmp n y ≡ Less → is_lt (name_cmp z y) ≡ false → name_cmp n z ≡ Less
below_later n y z e a = by_order (name_cmp z y) refl
  where
    by_order : (r : Ordering) → name_cmp z y ≡ r → name_cmp n z ≡ Less
    by_order Less d = absurd (true≢false (rw d at a))
    by_order Equal d = alike_right nat_list_cmp_total z y n d ∙ e
    by_order Greater d = nat_list_cmp_total.trans n y z e (nat_list_cmp_total.antisymm y z ∙ ap ordering_reverse d)

pub absent_below : (n : List ℕ) (ns : List (List ℕ)) → AllByRecursion (λ m. name_cmp n m ≡ Less) ns → has_name n ns ≡ false
absent_below n [] h = refl
absent_below n (m ∷ ns) h =
    rw (texts_ties m n, nat_list_cmp_total.antisymm m n, h.0) (absent_below n ns h.1)

module _ {X : Type 0} (key : X → List ℕ) where
  abbrev pub Sorted : List X → Type 0
  Sorted xs = IsSortedBy (λ x y. is_lt (name_cmp (key x) (key y))) xs

  pub tail_sorted : (x : X) (xs : List X) → Sorted (x ∷ xs) → Sorted xs
  tail_sorted x xs h = λ k d l u. rw (add-one k) (rw (add-one (suc k)) at (h (suc k) d (omega arith) (omega arith)))

  pub first_sorted : (x y : X) (ys : List X) → Sorted (x ∷ y ∷ ys) → is_lt (name_cmp (key y) (key x)) ≡ false
  first_sorted x y ys h = h 0 x (omega arith) (omega arith)

  above : (n : List ℕ) (y : X) (ys : List X) → Sorted (y ∷ ys) → name_cmp n (key y) ≡ Less → AllByRecursion (λ m. name_cmp n m ≡ Less) (map key (y ∷ ys))
  above n y [] h e = (e, tt)
  above n y (z ∷ zs) h e = (e, above n z zs (tail_sorted y (z ∷ zs) h) (below_later n (key y) (key z) e (first_sorted y z zs h)))

  -- the first two of a sorted list, where their names differ
  pub distinct_apart : (x y : X) (ys : List X) → Sorted (x ∷ y ∷ ys) → same_name (key y) (key x) ≡ false
      → are_distinct (map key (x ∷ y ∷ ys)) ≡ are_distinct (map key (y ∷ ys))
  distinct_apart x y ys h e =
      let absent : has_name (key x) (map key (y ∷ ys)) ≡ false =
      absent_below (key x) (map key (y ∷ ys)) (above (key x) y ys (tail_sorted x (y ∷ ys) h) (below_from (key y) (key x) (first_sorted x y ys h) e)) in
      ap (λ b. not b && are_distinct (map key (y ∷ ys))) absent

  pub distinct_same : (x y : X) (ys : List X) → same_name (key y) (key x) ≡ true → are_distinct (map key (x ∷ y ∷ ys)) ≡ false
  distinct_same x y ys e = rw e refl

  -- a sorted list of distinct names ascends strictly
  pub rising : (xs : List X) → Sorted xs → are_distinct (map key xs) ≡ true → IsStrictlySortedBy name_cmp (map key xs)
  unfolding IsStrictlySortedBy
  rising [] h d = tt
  rising (x ∷ []) h d = (tt, tt)
  rising (x ∷ y ∷ ys) h d = by_test (rising (y ∷ ys) (tail_sorted x (y ∷ ys) h)) (same_name (key y) (key x)) refl
    where
      by_test : (are_distinct (map key (y ∷ ys)) ≡ true → IsStrictlySortedBy name_cmp (map key (y ∷ ys)))
          → (b : Bool) → same_name (key y) (key x) ≡ b → IsStrictlySortedBy name_cmp (map key (x ∷ y ∷ ys))
      by_test rest true e = absurd (true≢false (sym d ∙ distinct_same x y ys e))
      by_test rest false e =
          (above (key x) y ys (tail_sorted x (y ∷ ys) h) (below_from (key y) (key x) (first_sorted x y ys h) e), rest (sym (distinct_apart x y ys h e) ∙ d))

-- ---- what is sorted by names and then by something else

first_not_less : (o p : Ordering) → is_lt (ordering_then o p) ≡ false → is_lt o ≡ false
first_not_less Less p h = h
first_not_less Equal p h = refl
first_not_less Greater p h = refl

pub sorted_by_names : {X : Type 0} (key : X → List ℕ) (rest : X → X → Ordering) (xs : List X) → IsSorted (λ x y. ordering_then (name_cmp (key x) (key y)) (rest x y)) xs → Sorted key xs
sorted_by_names key rest xs h = λ k d l u. first_not_less _ _ (h k d l u)

-- ---- distinct names in another order

abbrev counted : List ℕ → List (List ℕ) → ℕ
counted n = count_by (λ m. same_name m n)

counted_more : (n m : List ℕ) (ns : List (List ℕ)) → counted n (m ∷ ns) ≡ cond (same_name m n) 1 0 + counted n ns
counted_more n m ns = sum_by-cons (λ k. cond (same_name k n) 1 0) m ns

not_counted : (n : List ℕ) (ns : List (List ℕ)) → has_name n ns ≡ false → counted n ns ≡ 0
not_counted n [] h = refl
not_counted n (m ∷ ns) h = by_test (not_counted n ns) (same_name m n) refl
  where
    by_test : (has_name n ns ≡ false → counted n ns ≡ 0) → (b : Bool) → same_name m n ≡ b → counted n (m ∷ ns) ≡ 0
    by_test rest true e = absurd (true≢false (rw e at h))
    by_test rest false e = counted_more n m ns ∙ rw e (omega (arith, rest (rw e at h)))

no_name : (n : List ℕ) (ns : List (List ℕ)) → counted n ns ≡ 0 → has_name n ns ≡ false
no_name n [] h = refl
no_name n (m ∷ ns) h = by_test (no_name n ns) (same_name m n) refl
  where
    by_test : (counted n ns ≡ 0 → has_name n ns ≡ false) → (b : Bool) → same_name m n ≡ b → has_name n (m ∷ ns) ≡ false
    by_test rest true e =
        let one : counted n (m ∷ ns) ≡ 1 + counted n ns = counted_more n m ns ∙ rw e refl in
        absurd (omega (arith, one, h))
    by_test rest false e =
        let none : counted n (m ∷ ns) ≡ 0 + counted n ns = counted_more n m ns ∙ rw e refl in
        rw e (rest (omega (arith, none, h)))

pub first_of : (b c : Bool) → (not b && c) ≡ true → b ≡ false
first_of true c e = absurd (true≢false (sym e))
first_of false c e = refl

pub second_of : (b c : Bool) → (not b && c) ≡ true → c ≡ true
second_of true c e = absurd (true≢false (sym e))
second_of false c e = e

counts_from : (ns : List (List ℕ)) → are_distinct ns ≡ true → (n : List ℕ) → counted n ns ≤ 1
counts_from [] d n = omega arith
counts_from (m ∷ ns) d n = by_test (counts_from ns (second_of _ _ d) n) (same_name m n) refl
  where
    by_test : counted n ns ≤ 1 → (b : Bool) → same_name m n ≡ b → counted n (m ∷ ns) ≤ 1
    by_test rest true e =
        let none : counted n ns ≡ 0 = subst (λ k. counted k ns ≡ 0) (same_text m n (sym e)) (not_counted m ns (first_of _ _ d)) in
        let one : counted n (m ∷ ns) ≡ 1 + counted n ns = counted_more n m ns ∙ rw e refl in
        omega (arith, one, none)
    by_test rest false e =
        let same : counted n (m ∷ ns) ≡ 0 + counted n ns = counted_more n m ns ∙ rw e refl in
        omega (arith, same, rest)

distinct_from : (ns : List (List ℕ)) → ((n : List ℕ) → counted n ns ≤ 1) → are_distinct ns ≡ true
distinct_from [] h = refl
distinct_from (m ∷ ns) h =
    let itself : counted m (m ∷ ns) ≡ 1 + counted m ns = counted_more m m ns ∙ rw (nat_list_eq_equiv.refl m) refl in
    let none : has_name m ns ≡ false = no_name m ns (omega (arith, h m, itself)) in
    rw none (distinct_from ns (λ n. omega (arith, h n, counted_more n m ns)))

-- names are distinct in each order of a list or in none
pub distinct_permuted : (ms ns : List (List ℕ)) → IsPermutation ms ns → are_distinct ms ≡ are_distinct ns
distinct_permuted ms ns p = by_tests (are_distinct ms) (are_distinct ns) refl refl
  where
    same_count : (n : List ℕ) → counted n ns ≡ counted n ms
    same_count n = sum_by-IsPermutation (λ m. cond (same_name m n) 1 0) ms ns p

    by_tests : (a b : Bool) → are_distinct ms ≡ a → are_distinct ns ≡ b → a ≡ b
    by_tests true true d e = refl
    by_tests false false d e = refl
    by_tests true false d e = sym (distinct_from ns (λ n. omega (arith, same_count n, counts_from ms d n))) ∙ e
    by_tests false true d e = sym d ∙ distinct_from ms (λ n. omega (arith, same_count n, counts_from ns e n))
