-- What a search by halves finds in an ascending list, and what is there after a change at that place.
use Rattle.std.proofs.Common.{◌≡◌, ◌∙◌, ◌∷◌, ◌<◌, ◌≤◌, ℕ, suc, zero, true, false, Bool, List, [], Result, Ok, Err, IfOk, IfErr, add-one, ap, arith, length, refl, sym, subst, true≢false}
use Rattle.std.specs.Prelude.{◌||◌, cond, not}
use Rattle.std.specs.declared.cmp.Ordering.{Ordering}
use Rattle.std.specs.declared.cmp.Ordering.TheVariants.{Less, Equal, Greater}
use Rattle.std.specs.Cmp.{IsTotalOrder, tied_itself}
use Rattle.std.specs.List.{AllByRecursion, AllWithin, HoldsAt, filter, insert, remove}
use Rattle.std.specs.List.Sorted.{IsBinarySearchResult, IsSearchInRange, IsSortedBy, IsStrictlySortedBy}
use Rattle.std.specs.Ordering.{eq_by_cmp, is_lt, ordering_reverse}
use Rattle.std.proofs.lemmas.List.Sorted.{searchable_from_sorted}
use Rattle.td_value.specs.code.Places.{IsPlaceFor, IsPlaceOf}
use Rattle.td_value.specs.model.Sets.{has, put_in}
use Rattle.td_value.specs.model.Values.{Tuple, tuple_cmp}
use Rattle.td_value.specs.code.ValueOrder.{equal_from, tuple_order_total, tuple_order_same}
use Rattle.td_value.proofs.SetLaws.{has-put_in, put_in-ascends, same_members}

module _ {K : Type 0} (R : K → K → Ordering) (o : IsTotalOrder R) (same : (x y : K) → R x y ≡ Equal → x ≡ y) where
  or_right : (b c : Bool) → c ≡ true → (b || c) ≡ true
  or_right true c e = refl
  or_right false c e = e

  found-has : (t : K) (xs : List K) (i : ℕ) → i < length xs → HoldsAt (λ y. R y t ≡ Equal) xs i → has R t xs ≡ true
  found-has t [] i l e = absurd (omega arith)
  found-has t (x ∷ xs) zero l e = rw (same x t (e x), tied_itself o t) refl
  found-has t (x ∷ xs) (suc i) l e = or_right (eq_by_cmp R t x) (has R t xs) (found-has t xs i (omega arith) e)

  -- a member that is put in again
  pub put_in-there : (t : K) (xs : List K) → IsStrictlySortedBy R xs → has R t xs ≡ true → put_in R t xs ≡ xs
  put_in-there t xs a h =
      same_members R o same (put_in R t xs) xs (put_in-ascends R o same t xs a) a (λ s. has-put_in R o same s t xs ∙ again s (eq_by_cmp R s t) refl)
    where
      again : (s : K) (b : Bool) → eq_by_cmp R s t ≡ b → (b || has R s xs) ≡ has R s xs
      again s true e = sym (subst (λ u. has R u xs ≡ true) (sym (same s t (equal_from (R s t) e))) h)
      again s false e = refl

  above : (t x : K) → R x t ≡ Less → R t x ≡ Greater
  above t x e = o.antisymm t x ∙ ap ordering_reverse e

  below : (t x : K) → R x t ≡ Greater → R t x ≡ Less
  below t x e = o.antisymm t x ∙ ap ordering_reverse e

  missing-has : (t : K) (xs : List K) (i : ℕ) → i ≤ length xs → AllWithin (λ y. R y t ≡ Less) xs 0 i → AllWithin (λ y. R y t ≡ Greater) xs i (length xs) → has R t xs ≡ false
  missing-has t [] i l before after = refl
  missing-has t (x ∷ xs) zero l before after =
      rw (below t x (after 0 x (omega arith) (omega arith)))
      (missing-has t xs zero (omega arith) (λ k d a b. absurd (omega arith)) (λ k d a b. after (suc k) d (omega arith) (omega arith)))
  missing-has t (x ∷ xs) (suc i) l before after =
      rw (above t x (before 0 x (omega arith) (omega arith)))
      (missing-has t xs i (omega arith) (λ k d a b. before (suc k) d (omega arith) (omega arith)) (λ k d a b. after (suc k) d (omega arith) (omega arith)))

  inserted : (t : K) (xs : List K) (i : ℕ) → i ≤ length xs → AllWithin (λ y. R y t ≡ Less) xs 0 i → AllWithin (λ y. R y t ≡ Greater) xs i (length xs) → insert xs i t ≡ put_in R t xs
  inserted t [] zero l before after = refl
  inserted t [] (suc i) l before after = absurd (omega arith)
  inserted t (x ∷ xs) zero l before after = rw (below t x (after 0 x (omega arith) (omega arith))) refl
  inserted t (x ∷ xs) (suc i) l before after =
      rw (above t x (before 0 x (omega arith) (omega arith)))
      (ap (λ ys. x ∷ ys) (inserted t xs i (omega arith) (λ k d a b. before (suc k) d (omega arith) (omega arith)) (λ k d a b. after (suc k) d (omega arith) (omega arith))))

  kept : (t : K) (xs : List K) → AllByRecursion (λ y. R t y ≡ Less) xs → filter (λ u. not (eq_by_cmp R t u)) xs ≡ xs
  kept t [] h = refl
  kept t (x ∷ xs) h = rw h.0 (ap (λ ys. x ∷ ys) (kept t xs h.1))

  less_than : (s t : K) (xs : List K) (i : ℕ) → AllByRecursion (λ y. R s y ≡ Less) xs → i < length xs → HoldsAt (λ y. R y t ≡ Equal) xs i → R s t ≡ Less
  less_than s t [] i h l e = absurd (omega arith)
  less_than s t (x ∷ xs) zero h l e = subst (λ u. R s u ≡ Less) (same x t (e x)) h.0
  less_than s t (x ∷ xs) (suc i) h l e = less_than s t xs i h.1 (omega arith) e

  removed : (t : K) (xs : List K) (i : ℕ) → i < length xs → HoldsAt (λ y. R y t ≡ Equal) xs i → IsStrictlySortedBy R xs → remove xs i ≡ filter (λ u. not (eq_by_cmp R t u)) xs
  unfolding IsStrictlySortedBy
  removed t [] i l e a = absurd (omega arith)
  removed t (x ∷ xs) zero l e a =
      let is = same x t (e x) in
      let rest : filter (λ u. not (eq_by_cmp R t u)) xs ≡ xs = kept t xs (subst (λ s. AllByRecursion (λ y. R s y ≡ Less) xs) is a.0) in
      rw (is, tied_itself o t) (sym rest)
  removed t (x ∷ xs) (suc i) l e a =
      rw (above t x (less_than x t xs i a.0 (omega arith) e)) (ap (λ ys. x ∷ ys) (removed t xs i (omega arith) e a.1))

  -- what is missing is not taken out
  pub filter-missing : (t : K) (xs : List K) → has R t xs ≡ false → filter (λ u. not (eq_by_cmp R t u)) xs ≡ xs
  filter-missing t [] h = refl
  filter-missing t (x ∷ xs) h = by_test (filter-missing t xs) (eq_by_cmp R t x) h
    where
      by_test : (has R t xs ≡ false → filter (λ u. not (eq_by_cmp R t u)) xs ≡ xs) → (b : Bool) → (b || has R t xs) ≡ false
          → cond (not b) (x ∷ filter (λ u. not (eq_by_cmp R t u)) xs) (filter (λ u. not (eq_by_cmp R t u)) xs) ≡ x ∷ xs
      by_test rest true e = absurd (true≢false e)
      by_test rest false e = ap (λ ys. x ∷ ys) (rest e)

  -- a strictly ascending list ascends
  pub in_order : (xs : List K) → IsStrictlySortedBy R xs → IsSortedBy (λ x y. is_lt (R x y)) xs
  unfolding IsStrictlySortedBy
  in_order [] a k d l u = absurd (omega arith)
  in_order (x ∷ []) a k d l u = absurd (omega arith)
  in_order (x ∷ y ∷ ys) a zero d l u = ap is_lt (o.antisymm y x ∙ ap ordering_reverse a.0.0)
  in_order (x ∷ y ∷ ys) a (suc k) d l u = rw (add-one (suc k)) (rw (add-one k) at (in_order (y ∷ ys) a.1 k d (omega arith) (omega arith)))

-- where a search by halves ends
pub searched : (t : Tuple) (ts : List Tuple) (r : Result ℕ ℕ) → IsStrictlySortedBy tuple_cmp ts → IsSearchInRange r (length ts) → IsBinarySearchResult (λ y. tuple_cmp y t) ts r
    → IfOk r (IsPlaceOf t ts) × IfErr r (IsPlaceFor t ts)
searched t ts (Ok i) a within at =
    ((within, found-has tuple_cmp tuple_order_total tuple_order_same t ts i within at, removed tuple_cmp tuple_order_total tuple_order_same t ts i within at a), tt)
searched t ts (Err i) a within parted =
    let parts = parted (searchable_from_sorted tuple_order_total (λ (y : Tuple). y) ts t (in_order tuple_cmp tuple_order_total tuple_order_same ts a)) in
    (tt, (within, missing-has tuple_cmp tuple_order_total tuple_order_same t ts i within parts.0 parts.1, inserted tuple_cmp tuple_order_total tuple_order_same t ts i within parts.0 parts.1))
