-- What a search by halves finds among attributes whose names ascend.
use Rattle.std.proofs.Common.{◌≡◌, ◌∙◌, ◌∷◌, ◌<◌, ◌≤◌, ℕ, suc, zero, true, false, List, [], Result, Ok, Err, IfOk, IfErr, add-one, ap, arith, get_or, length, refl, sym}
use Rattle.std.specs.declared.cmp.Ordering.{Ordering}
use Rattle.std.specs.declared.cmp.Ordering.TheVariants.{Less, Equal, Greater}
use Rattle.std.specs.Cmp.Lexicographic.{texts_ties}
use Rattle.std.specs.List.{AllByRecursion, AllWithin}
use Rattle.std.specs.List.Sorted.{IsBinarySearchResult, IsSearchInRange, IsSortedBy, IsStrictlySortedBy}
use Rattle.std.specs.Ordering.{is_eq, is_lt, ordering_reverse}
use Rattle.std.proofs.lemmas.Cmp.{alike_right, nat_list_cmp_total}
use Rattle.std.proofs.lemmas.List.Sorted.{searchable_from_sorted}
use Rattle.td_types.specs.declared.heading.Attribute as Ty
use Rattle.td_types.specs.model.Headings.{IsFound, IsMissing}
use Rattle.td_types.proofs.HeadingLaws.{name_cmp}
use Rattle.td_types.specs.model.Types.{IsAscending, attribute_names, same_name}
use Rattle.td_types.specs.code.Views.{heading_view}

less_than : (m n : List ℕ) (xs : List Ty.Attribute) (i : ℕ) (d : Ty.Attribute) → AllByRecursion (λ k. name_cmp m k ≡ Less) (attribute_names (heading_view xs)) → i < length xs
    → name_cmp (get_or xs i d).name n ≡ Equal → name_cmp m n ≡ Less
less_than m n [] i d h l e = absurd (omega arith)
less_than m n (x ∷ xs) zero d h l e = sym (alike_right nat_list_cmp_total x.name n m e) ∙ h.0
less_than m n (x ∷ xs) (suc i) d h l e = less_than m n xs i d h.1 (omega arith) e

differs : (m n : List ℕ) (o : Ordering) → name_cmp m n ≡ o → is_eq o ≡ false → same_name m n ≡ false
differs m n o e f = texts_ties m n ∙ ap is_eq e ∙ f

found_place : (n : List ℕ) (xs : List Ty.Attribute) (i : ℕ) → i < length xs → ((d : Ty.Attribute) → name_cmp (get_or xs i d).name n ≡ Equal) → IsAscending (heading_view xs)
    → IsFound n (heading_view xs) i
unfolding IsStrictlySortedBy
found_place n [] i l e a = absurd (omega arith)
found_place n (x ∷ xs) zero l e a =
    let tie : name_cmp x.name n ≡ Equal = e x in
    let same : same_name x.name n ≡ true = texts_ties x.name n ∙ ap is_eq tie in
    (rw tie refl, rw same refl)
found_place n (x ∷ xs) (suc i) l e a =
    let below : name_cmp x.name n ≡ Less = less_than x.name n xs i x a.0 (omega arith) (e x) in
    let rest = found_place n xs i (omega arith) e a.1 in
    (rw below (omega (arith, rest.0)), rw (differs x.name n Less below refl) rest.1)

missing_place : (n : List ℕ) (xs : List Ty.Attribute) (i : ℕ) → i ≤ length xs → AllWithin (λ y. name_cmp y.name n ≡ Less) xs 0 i → AllWithin (λ y. name_cmp y.name n ≡ Greater) xs i (length xs)
    → IsMissing n (heading_view xs) i
missing_place n [] zero l before after = (refl, refl)
missing_place n [] (suc i) l before after = absurd (omega arith)
missing_place n (x ∷ xs) zero l before after =
    let above : name_cmp x.name n ≡ Greater = after 0 x (omega arith) (omega arith) in
    let rest = missing_place n xs zero (omega arith) (λ k d a b. absurd (omega arith)) (λ k d a b. after (suc k) d (omega arith) (omega arith)) in
    (rw above refl, rw (differs x.name n Greater above refl) rest.1)
missing_place n (x ∷ xs) (suc i) l before after =
    let below : name_cmp x.name n ≡ Less = before 0 x (omega arith) (omega arith) in
    let rest = missing_place n xs i (omega arith) (λ k d a b. before (suc k) d (omega arith) (omega arith)) (λ k d a b. after (suc k) d (omega arith) (omega arith)) in
    (rw below (omega (arith, rest.0)), rw (differs x.name n Less below refl) rest.1)

in_order : (xs : List Ty.Attribute) → IsAscending (heading_view xs) → IsSortedBy (λ x y. is_lt (name_cmp x.name y.name)) xs
unfolding IsStrictlySortedBy
in_order [] a k d l u = absurd (omega arith)
in_order (x ∷ []) a k d l u = absurd (omega arith)
in_order (x ∷ y ∷ ys) a zero d l u = ap is_lt (nat_list_cmp_total.antisymm y.name x.name ∙ ap ordering_reverse a.0.0)
in_order (x ∷ y ∷ ys) a (suc k) d l u = rw (add-one (suc k)) (rw (add-one k) at (in_order (y ∷ ys) a.1 k d (omega arith) (omega arith)))

-- where a search by halves ends
pub searched : (n : List ℕ) (xs : List Ty.Attribute) (r : Result ℕ ℕ) → IsAscending (heading_view xs) → IsSearchInRange r (length xs) → IsBinarySearchResult (λ y. name_cmp y.name n) xs r
    → IfOk r (IsFound n (heading_view xs)) × IfErr r (IsMissing n (heading_view xs))
searched n xs (Ok i) a within at = (found_place n xs i within at a, tt)
searched n xs (Err i) a within parted =
    let parts = parted (searchable_from_sorted nat_list_cmp_total (λ (y : Ty.Attribute). y.name) xs n (in_order xs a)) in
    (tt, missing_place n xs i within parts.0 parts.1)
