-- The heading that attributes of distinct names make: it gives each name the type that they give it, in each order of them.
use Rattle.std.proofs.Common.{◌≡◌, ◌∙◌, ◌∷◌, ◌++◌, ℕ, Bool, true, false, List, [], Option, Some, None, ap, fold, map, refl, subst, sym, true≢false}
use Rattle.std.specs.Prelude.{◌&&◌, ◌||◌, if◌then◌else◌}
use Rattle.std.specs.Cmp.Lexicographic.{same_text}
use Rattle.std.specs.List.{AllByRecursion, list_any}
use Rattle.std.specs.List.Sorted.{IsPermutation, IsStrictlySortedBy}
use Rattle.std.specs.Ordering.{eq_by_cmp}
use Rattle.std.specs.declared.cmp.Ordering.TheVariants.{Less}
use Rattle.std.proofs.lemmas.List.Sorted.{list_any-IsPermutation, IsPermutation-map}
use Rattle.td_tree.specs.model.Names.{IsName}
use Rattle.td_types.specs.declared.ty.Ty.{Ty}
use Rattle.td_types.specs.model.Headings.{are_distinct, has_name, heading_from, with_attribute}
use Rattle.td_types.proofs.HeadingLaws.{IsAscending-with, name_cmp, type_at-with, types_determine_heading}
use Rattle.td_types.specs.code.Pairs.{ArePairs}
use Rattle.td_types.specs.code.TypeOrder.{type_eq-Decides}
use Rattle.td_types.specs.model.Types.{Attribute, Heading, IsAscending, IsBefore, IsHeading, IsType, Type', attribute_names, pack, same_name, type_at, type_cmp}
use Rattle.td_types.specs.code.Views.{pairs_view}
use Rattle.td_types.proofs.DistinctNames.{distinct_permuted, first_of, second_of}

-- the first, or the second where there is none
abbrev or_else : Option Type' → Option Type' → Option Type'
or_else None other = other
or_else (Some t) other = Some t

no_type : (n : List ℕ) (xs : Heading) → has_name n (attribute_names xs) ≡ false → type_at n xs ≡ None
no_type n [] h = refl
no_type n (x ∷ xs) h = by_test (no_type n xs) (same_name x.0 n) refl
  where
    by_test : (has_name n (attribute_names xs) ≡ false → type_at n xs ≡ None) → (b : Bool) → same_name x.0 n ≡ b → type_at n (x ∷ xs) ≡ None
    by_test rest true e = absurd (true≢false (rw e at h))
    by_test rest false e = rw e (rest (rw e at h))

-- once there is an attribute of the name, no other has it
type_at-step : (n : List ℕ) (x : Attribute) (xs : Heading) (o : Option Type') → has_name x.0 (attribute_names xs) ≡ false
    → or_else (type_at n xs) (if same_name x.0 n then Some x.1 else o) ≡ or_else (if same_name x.0 n then Some x.1 else type_at n xs) o
type_at-step n x xs o h = by_test (same_name x.0 n) refl
  where
    by_test : (b : Bool) → same_name x.0 n ≡ b → or_else (type_at n xs) (if b then Some x.1 else o) ≡ or_else (if b then Some x.1 else type_at n xs) o
    by_test true e = rw (no_type n xs (subst (λ m. has_name m (attribute_names xs) ≡ false) (same_text x.0 n (sym e)) h)) refl
    by_test false e = refl

type_at-fold : (n : List ℕ) (h xs : Heading) → are_distinct (attribute_names xs) ≡ true → type_at n (fold with_attribute h xs) ≡ or_else (type_at n xs) (type_at n h)
type_at-fold n h [] d = refl
type_at-fold n h (x ∷ xs) d =
    type_at-fold n (with_attribute h x) xs (second_of _ _ d) ∙ ap (or_else (type_at n xs)) (type_at-with n x.0 x.1 h)
    ∙ type_at-step n x xs (type_at n h) (first_of _ _ d)

or_none : (o : Option Type') → or_else o None ≡ o
or_none (Some t) = refl
or_none None = refl

-- the heading gives each name the type that the attributes give it
pub type_at-heading_from : (n : List ℕ) (xs : Heading) → are_distinct (attribute_names xs) ≡ true → type_at n (heading_from xs) ≡ type_at n xs
type_at-heading_from n xs d = type_at-fold n [] xs d ∙ or_none (type_at n xs)

ascending_fold : (h xs : Heading) → IsAscending h → IsAscending (fold with_attribute h xs)
ascending_fold h [] a = a
ascending_fold h (x ∷ xs) a = ascending_fold (with_attribute h x) xs (IsAscending-with x.0 x.1 h a)

none_ascend : IsAscending []
unfolding IsStrictlySortedBy
none_ascend = tt

-- ---- in another order

is_it : Type' → Option Type' → Bool
is_it t None = false
is_it t (Some s) = eq_by_cmp type_cmp s t

of_false : (a b : Bool) → a ≡ false → (a || b) ≡ b
of_false true b e = absurd (true≢false e)
of_false false b e = refl

or_false : (a : Bool) → (a || false) ≡ a
or_false true = refl
or_false false = refl

none_of : (n : List ℕ) (t : Type') (xs : Heading) → has_name n (attribute_names xs) ≡ false → list_any (λ a. same_name a.0 n && eq_by_cmp type_cmp a.1 t) xs ≡ false
none_of n t [] h = refl
none_of n t (x ∷ xs) h = by_test (none_of n t xs) (same_name x.0 n) refl
  where
    by_test : (has_name n (attribute_names xs) ≡ false → list_any (λ a. same_name a.0 n && eq_by_cmp type_cmp a.1 t) xs ≡ false) → (b : Bool) → same_name x.0 n ≡ b
        → list_any (λ a. same_name a.0 n && eq_by_cmp type_cmp a.1 t) (x ∷ xs) ≡ false
    by_test rest true e = absurd (true≢false (rw e at h))
    by_test rest false e = rw e (rest (rw e at h))

-- an attribute of that name and type is there exactly where the name has the type
found_at : (n : List ℕ) (t : Type') (xs : Heading) → are_distinct (attribute_names xs) ≡ true → list_any (λ a. same_name a.0 n && eq_by_cmp type_cmp a.1 t) xs ≡ is_it t (type_at n xs)
unfolding is_it
found_at n t [] d = refl
found_at n t (x ∷ xs) d = by_test (found_at n t xs (second_of _ _ d)) (same_name x.0 n) refl
  where
    by_test : list_any (λ a. same_name a.0 n && eq_by_cmp type_cmp a.1 t) xs ≡ is_it t (type_at n xs) → (b : Bool) → same_name x.0 n ≡ b
        → list_any (λ a. same_name a.0 n && eq_by_cmp type_cmp a.1 t) (x ∷ xs) ≡ is_it t (type_at n (x ∷ xs))
    by_test rest true e =
        rw (e, none_of n t xs (subst (λ m. has_name m (attribute_names xs) ≡ false) (same_text x.0 n (sym e)) (first_of _ _ d))) (or_false (eq_by_cmp type_cmp x.1 t))
    by_test rest false e = rw e rest

same_found : (o p : Option Type') → ((t : Type') → is_it t o ≡ is_it t p) → o ≡ p
unfolding is_it
same_found None None h = refl
same_found None (Some s) h = absurd (true≢false (sym ((type_eq-Decides s s).1 refl) ∙ sym (h s)))
same_found (Some s) None h = absurd (true≢false (sym ((type_eq-Decides s s).1 refl) ∙ h s))
same_found (Some s) (Some t) h = ap Some ((type_eq-Decides s t).0 (h t ∙ (type_eq-Decides t t).1 refl))

type_at-permuted : (n : List ℕ) (xs ys : Heading) → IsPermutation xs ys → are_distinct (attribute_names xs) ≡ true → type_at n ys ≡ type_at n xs
type_at-permuted n xs ys p d =
    let e : are_distinct (attribute_names ys) ≡ true = sym (distinct_permuted (attribute_names xs) (attribute_names ys) (IsPermutation-map (λ a. a.0) xs ys p)) ∙ d in
    same_found (type_at n ys) (type_at n xs) (λ t. sym (found_at n t ys e) ∙ sym (list_any-IsPermutation (λ a. same_name a.0 n && eq_by_cmp type_cmp a.1 t) xs ys p) ∙ found_at n t xs d)

-- attributes whose names ascend are the heading of each permutation of them
pub sorted_is_heading_from : (xs ys : Heading) → IsPermutation xs ys → are_distinct (attribute_names xs) ≡ true → IsAscending ys → ys ≡ heading_from xs
sorted_is_heading_from xs ys p d a =
    types_determine_heading ys (heading_from xs) a (ascending_fold [] xs none_ascend) (λ n. type_at-permuted n xs ys p d ∙ sym (type_at-heading_from n xs d))

-- ---- of pairs of the code

pub names_of_pairs : (ps : List (List ℕ × Ty)) → attribute_names (pairs_view ps) ≡ map (λ e. e.0) ps
names_of_pairs [] = refl
names_of_pairs (p ∷ ps) = ap (λ r. p.0 ∷ r) (names_of_pairs ps)

pub ArePairs-push : (xs : Heading) (a : Attribute) → ArePairs xs → IsName a.0 → IsType a.1 → ArePairs (xs ++ a ∷ [])
ArePairs-push [] a h n t = ((n, t), tt)
ArePairs-push (x ∷ xs) a h n t = (h.0, ArePairs-push xs a h.1 n t)

before_all : (n : List ℕ) (xs : Heading) → AllByRecursion (λ m. name_cmp n m ≡ Less) (attribute_names xs) → IsBefore n (pack xs)
before_all n [] h = tt
before_all n (x ∷ xs) h = (h.0, before_all n xs h.1)

pub IsHeading-from : (xs : Heading) → ArePairs xs → IsAscending xs → IsHeading (pack xs)
unfolding IsStrictlySortedBy
IsHeading-from [] h a = tt
IsHeading-from (x ∷ xs) h a = (h.0.0, h.0.1, before_all x.0 xs a.0, IsHeading-from xs h.1 a.1)
