-- The value that a search by halves finds at a name, where the names ascend.
use Rattle.std.proofs.Common.{◌≡◌, ◌∙◌, ◌∷◌, ◌<◌, ◌≤◌, ℕ, suc, zero, true, false, List, [], Result, Ok, Err, IfOk, IfErr, None, ap, arith, length, refl, sym}
use Rattle.std.specs.declared.cmp.Ordering.{Ordering}
use Rattle.std.specs.declared.cmp.Ordering.TheVariants.{Less, Equal, Greater}
use Rattle.std.specs.Cmp.Lexicographic.{same_text, texts_ties}
use Rattle.std.specs.List.{AllByRecursion, AllWithin, HoldsAt, slice_get}
use Rattle.std.specs.List.Sorted.{IsBinarySearchResult, IsSearchInRange, IsStrictlySortedBy}
use Rattle.std.specs.Ordering.{is_eq}
use Rattle.std.proofs.lemmas.Cmp.{alike_right, nat_list_cmp_total}
use Rattle.std.proofs.lemmas.List.Sorted.{searchable_from_sorted}
use Rattle.td_types.specs.model.Types.{same_name}
use Rattle.td_types.proofs.DistinctNames.{name_cmp}
use Rattle.td_value.specs.model.Values.{Val, value_at}
use Rattle.td_value.specs.code.Views.{tuple_view}
use Rattle.td_value.proofs.Places.{in_order}

names_tie : (m n : List ℕ) → name_cmp m n ≡ Equal → m ≡ n
names_tie m n e = same_text m n (sym (texts_ties m n ∙ ap is_eq e))

differs : (m n : List ℕ) (o : Ordering) → name_cmp m n ≡ o → is_eq o ≡ false → same_name m n ≡ false
differs m n o e f = texts_ties m n ∙ ap is_eq e ∙ f

less_than : (m n : List ℕ) (ns : List (List ℕ)) (i : ℕ) → AllByRecursion (λ k. name_cmp m k ≡ Less) ns → i < length ns
    → HoldsAt (λ k. name_cmp k n ≡ Equal) ns i → name_cmp m n ≡ Less
less_than m n [] i h l e = absurd (omega arith)
less_than m n (k ∷ ns) zero h l e = sym (alike_right nat_list_cmp_total k n m (e k)) ∙ h.0
less_than m n (k ∷ ns) (suc i) h l e = less_than m n ns i h.1 (omega arith) e

found : (n : List ℕ) (ns : List (List ℕ)) (vs : List Val) (i : ℕ) → length ns ≡ length vs → i < length ns
    → HoldsAt (λ k. name_cmp k n ≡ Equal) ns i → IsStrictlySortedBy name_cmp ns → slice_get vs i ≡ value_at n (tuple_view ns vs)
unfolding IsStrictlySortedBy
found n [] vs i s l e a = absurd (omega arith)
found n (m ∷ ns) [] i s l e a = absurd (omega (arith, s))
found n (m ∷ ns) (v ∷ vs) zero s l e a =
    let same : same_name m n ≡ true = texts_ties m n ∙ ap is_eq (e m) in
    rw same refl
found n (m ∷ ns) (v ∷ vs) (suc i) s l e a =
    let below : name_cmp m n ≡ Less = less_than m n ns i a.0 (omega arith) e in
    rw (differs m n Less below refl) (found n ns vs i (omega (arith, s)) (omega arith) e a.1)

missing : (n : List ℕ) (ns : List (List ℕ)) (vs : List Val) (i : ℕ) → i ≤ length ns → AllWithin (λ k. name_cmp k n ≡ Less) ns 0 i
    → AllWithin (λ k. name_cmp k n ≡ Greater) ns i (length ns) → value_at n (tuple_view ns vs) ≡ None
missing n [] vs i l before after = refl
missing n (m ∷ ns) [] i l before after = refl
missing n (m ∷ ns) (v ∷ vs) zero l before after =
    let above : name_cmp m n ≡ Greater = after 0 m (omega arith) (omega arith) in
    rw (differs m n Greater above refl)
    (missing n ns vs zero (omega arith) (λ k d a b. absurd (omega arith)) (λ k d a b. after (suc k) d (omega arith) (omega arith)))
missing n (m ∷ ns) (v ∷ vs) (suc i) l before after =
    let below : name_cmp m n ≡ Less = before 0 m (omega arith) (omega arith) in
    rw (differs m n Less below refl)
    (missing n ns vs i (omega arith) (λ k d a b. before (suc k) d (omega arith) (omega arith)) (λ k d a b. after (suc k) d (omega arith) (omega arith)))

-- what a search by halves tells of the name's value
pub searched : (n : List ℕ) (ns : List (List ℕ)) (vs : List Val) (r : Result ℕ ℕ) → length ns ≡ length vs
    → IsStrictlySortedBy name_cmp ns → IsSearchInRange r (length ns) → IsBinarySearchResult (λ k. name_cmp k n) ns r
    → IfOk r (λ i. slice_get vs i ≡ value_at n (tuple_view ns vs)) × IfErr r (λ i. value_at n (tuple_view ns vs) ≡ None)
searched n ns vs (Ok i) s a within at = (found n ns vs i s within at a, tt)
searched n ns vs (Err i) s a within parted =
    let parts = parted (searchable_from_sorted nat_list_cmp_total (λ (k : List ℕ). k) ns n (in_order name_cmp nat_list_cmp_total names_tie ns a)) in
    (tt, missing n ns vs i within parts.0 parts.1)
