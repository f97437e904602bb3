-- The set of a list has the members of the list, and two strictly ascending lists with the same members are one.
use Rattle.std.specs.Prelude.{◌≡◌, Bool, true, false, ◌||◌, List, [], ◌∷◌, refl}
use Rattle.std.specs.declared.cmp.Ordering.{Ordering}
use Rattle.std.specs.declared.cmp.Ordering.TheVariants.{Less, Equal, Greater}
use Rattle.std.specs.Ordering.{eq_by_cmp, ordering_reverse}
use Rattle.std.specs.Cmp.{IsTotalOrder, tied_itself}
use Rattle.std.specs.List.{AllByRecursion, dedup, dedup_from}
use Rattle.std.specs.List.Sorted.{IsPermutation, IsSorted, IsStrictlySortedBy}
use Rattle.std.proofs.lemmas.List.Kept.{IsStrictlySortedBy-dedup}
use Rattle.std.proofs.lemmas.List.Sorted.{list_any-IsPermutation}
use Rattle.std.proofs.Common.{sym, ap, ◌∙◌, true≢false, subst}
use Rattle.td_value.specs.model.Sets.{has, put_in, set_of}

module _ {K : Type 0} (R : K → K → Ordering) (o : IsTotalOrder R) (same : (x y : K) → R x y ≡ Equal → x ≡ y) where
  -- what is below each item is no item
  absent : (t : K) (xs : List K) → AllByRecursion (λ x. R t x ≡ Less) xs → has R t xs ≡ false
  absent t [] h = refl
  absent t (x ∷ xs) h = rw h.0 (absent t xs h.1)

  -- what is below an item is below all that come after it
  pub below_all : (t x : K) (xs : List K) → R t x ≡ Less → AllByRecursion (λ y. R x y ≡ Less) xs → AllByRecursion (λ y. R t y ≡ Less) xs
  below_all t x [] e h = tt
  below_all t x (y ∷ ys) e h = (o.trans t x y e h.0, below_all t x ys e h.1)

  itself : (x : K) (xs : List K) → has R x (x ∷ xs) ≡ true
  itself x xs = rw (tied_itself o x)

  is_less : (x y : K) → R x y ≡ Greater → R y x ≡ Less
  is_less x y e = o.antisymm y x ∙ ap ordering_reverse e

  tails : (x : K) (xs ys : List K) → AllByRecursion (λ z. R x z ≡ Less) xs → AllByRecursion (λ z. R x z ≡ Less) ys
      → ((t : K) → has R t (x ∷ xs) ≡ has R t (x ∷ ys)) → (t : K) → has R t xs ≡ has R t ys
  tails x xs ys a b h t = by_tie (R t x) refl
    where
      by_tie : (r : Ordering) → R t x ≡ r → has R t xs ≡ has R t ys
      by_tie Less e = (rw e at (h t))
      by_tie Greater e = (rw e at (h t))
      by_tie Equal e = subst (λ z. has R z xs ≡ has R z ys) (sym (same t x e)) (absent x xs a ∙ sym (absent x ys b))

  -- two strictly ascending lists with the same members are equal
  pub same_members : (xs ys : List K) → IsStrictlySortedBy R xs → IsStrictlySortedBy R ys → ((t : K) → has R t xs ≡ has R t ys) → xs ≡ ys
  unfolding IsStrictlySortedBy
  same_members [] [] a b h = refl
  same_members [] (y ∷ ys) a b h = absurd (true≢false (sym (itself y ys) ∙ sym (h y)))
  same_members (x ∷ xs) [] a b h = absurd (true≢false (sym (itself x xs) ∙ h x))
  same_members (x ∷ xs) (y ∷ ys) a b h = by_first (same_members xs ys a.1 b.1) (R x y) refl
    where
      by_first : (((t : K) → has R t xs ≡ has R t ys) → xs ≡ ys) → (r : Ordering) → R x y ≡ r → x ∷ xs ≡ y ∷ ys
      by_first rest Less e = absurd (true≢false (sym (itself x xs) ∙ h x ∙ absent x (y ∷ ys) (e, below_all x y ys e b.0)))
      by_first rest Greater e = absurd (true≢false (sym (itself y ys) ∙ sym (h y) ∙ absent y (x ∷ xs) (is_less x y e, below_all y x xs (is_less x y e) a.0)))
      by_first rest Equal e =
          let is : x ≡ y = same x y e in
          let b' : AllByRecursion (λ z. R x z ≡ Less) ys = subst (λ w. AllByRecursion (λ z. R w z ≡ Less) ys) (sym is) b.0 in
          let h' : (t : K) → has R t (x ∷ xs) ≡ has R t (x ∷ ys) = subst (λ w. (t : K) → has R t (x ∷ xs) ≡ has R t (w ∷ ys)) (sym is) h in
          λ i. is i ∷ rest (tails x xs ys a.0 b' h') i

  again : (b c : Bool) → (b || (b || c)) ≡ (b || c)
  again true c = refl
  again false c = refl

  has-dedup_from : (t k : K) (xs : List K) → has R t (dedup_from (eq_by_cmp R) k xs) ≡ has R t (k ∷ xs)
  has-dedup_from t k [] = refl
  has-dedup_from t k (x ∷ xs) = by_tie (has-dedup_from t k xs) (has-dedup_from t x xs) (R x k) refl
    where
      by_tie : has R t (dedup_from (eq_by_cmp R) k xs) ≡ has R t (k ∷ xs) → has R t (dedup_from (eq_by_cmp R) x xs) ≡ has R t (x ∷ xs)
          → (r : Ordering) → R x k ≡ r → has R t (dedup_from (eq_by_cmp R) k (x ∷ xs)) ≡ has R t (k ∷ x ∷ xs)
      by_tie p q Equal e = rw (e, same x k e) (p ∙ sym (again (eq_by_cmp R t k) (has R t xs)))
      by_tie p q Less e = rw e (ap (λ b. eq_by_cmp R t k || b) q)
      by_tie p q Greater e = rw e (ap (λ b. eq_by_cmp R t k || b) q)

  pub has-dedup : (t : K) (xs : List K) → has R t (dedup (eq_by_cmp R) xs) ≡ has R t xs
  has-dedup t [] = refl
  has-dedup t (x ∷ xs) = has-dedup_from t x xs

  kept_above : (w x : K) (ys : List K) → R w x ≡ Less → AllByRecursion (λ z. R w z ≡ Less) ys → AllByRecursion (λ z. R w z ≡ Less) (put_in R x ys)
  kept_above w x [] e h = (e, tt)
  kept_above w x (y ∷ ys) e h = by_order (kept_above w x ys e h.1) (R x y) refl
    where
      by_order : AllByRecursion (λ z. R w z ≡ Less) (put_in R x ys) → (r : Ordering) → R x y ≡ r → AllByRecursion (λ z. R w z ≡ Less) (put_in R x (y ∷ ys))
      by_order rest Less d = rw d (e, h)
      by_order rest Equal d = rw d h
      by_order rest Greater d = rw d (h.0, rest)

  pub put_in-ascends : (x : K) (xs : List K) → IsStrictlySortedBy R xs → IsStrictlySortedBy R (put_in R x xs)
  unfolding IsStrictlySortedBy
  put_in-ascends x [] h = (tt, tt)
  put_in-ascends x (y ∷ ys) h = by_order (put_in-ascends x ys h.1) (R x y) refl
    where
      by_order : IsStrictlySortedBy R (put_in R x ys) → (r : Ordering) → R x y ≡ r → IsStrictlySortedBy R (put_in R x (y ∷ ys))
      by_order rest Less d = rw d ((d, below_all x y ys d h.0), h)
      by_order rest Equal d = rw d h
      by_order rest Greater d = rw d (kept_above y x ys (is_less x y d) h.0, rest)

  -- the set of a list ascends
  pub set_of-ascends : (xs : List K) → IsStrictlySortedBy R (set_of R xs)
  unfolding IsStrictlySortedBy
  set_of-ascends [] = tt
  set_of-ascends (x ∷ xs) = put_in-ascends x (set_of R xs) (set_of-ascends xs)

  swapped : (a b c : Bool) → (a || (b || c)) ≡ (b || (a || c))
  swapped true true c = refl
  swapped true false c = refl
  swapped false b c = refl

  pub has-put_in : (t x : K) (xs : List K) → has R t (put_in R x xs) ≡ has R t (x ∷ xs)
  has-put_in t x [] = refl
  has-put_in t x (y ∷ ys) = by_order (has-put_in t x ys) (R x y) refl
    where
      by_order : has R t (put_in R x ys) ≡ has R t (x ∷ ys) → (r : Ordering) → R x y ≡ r → has R t (put_in R x (y ∷ ys)) ≡ has R t (x ∷ y ∷ ys)
      by_order rest Less d = rw d refl
      by_order rest Equal d = rw (d, same x y d) (sym (again (eq_by_cmp R t y) (has R t ys)))
      by_order rest Greater d = rw d (ap (λ b. eq_by_cmp R t y || b) rest ∙ swapped (eq_by_cmp R t y) (eq_by_cmp R t x) (has R t ys))

  -- the set of a list has the members of the list
  pub has-set_of : (t : K) (xs : List K) → has R t (set_of R xs) ≡ has R t xs
  has-set_of t [] = refl
  has-set_of t (x ∷ xs) = has-put_in t x (set_of R xs) ∙ ap (λ b. eq_by_cmp R t x || b) (has-set_of t xs)

  -- a strictly ascending list with the members of a list is its set
  pub is_set_of : (xs ys : List K) → IsStrictlySortedBy R xs → ((t : K) → has R t xs ≡ has R t ys) → xs ≡ set_of R ys
  is_set_of xs ys a h = same_members xs (set_of R ys) a (set_of-ascends ys) (λ t. h t ∙ sym (has-set_of t ys))

  -- a list that is sorted by R, without its repetitions, is the set of each of its permutations
  pub sorted_is_set_of : (xs ys : List K) → IsPermutation ys xs → IsSorted R xs → dedup (eq_by_cmp R) xs ≡ set_of R ys
  sorted_is_set_of xs ys p a =
      is_set_of (dedup (eq_by_cmp R) xs) ys (IsStrictlySortedBy-dedup o (λ _ _. refl) xs a)
      (λ t. has-dedup t xs ∙ sym (list_any-IsPermutation (eq_by_cmp R t) ys xs p))
