-- The product of two relations ascends where the names of the second come after those of the first.
use Rattle.std.proofs.Common.{◌≡◌, ◌∙◌, ◌+◌, ap, sym, refl, subst, ℕ, Bool, true, false, List, [], ◌∷◌, ◌++◌, Some, filter, get_or, length, map}
use Rattle.std.specs.Prelude.{not}
use Rattle.std.specs.declared.cmp.Ordering.{Ordering}
use Rattle.std.specs.declared.cmp.Ordering.TheVariants.{Less, Equal}
use Rattle.std.specs.Ordering.{is_lt}
use Rattle.std.specs.List.{All, AllByRecursion, flat_map, list_all, slice_get}
use Rattle.std.specs.List.Sorted.{IsPermutation, IsStrictlySortedBy}
use Rattle.std.proofs.lemmas.Cmp.{nat_list_cmp_total, tied_itself}
use Rattle.std.proofs.lemmas.List.Elements.{All-contains, recursion_from_All}
use Rattle.std.proofs.lemmas.List.Sorted.{IsPermutation-refl}
use Rattle.td_types.specs.model.Headings.{has_name, heading_union}
use Rattle.td_types.specs.model.Types.{Attribute, Heading, IsAscending, Type', attribute_names}
use Rattle.td_types.proofs.HeadingLaws.{has_attribute-names, name_cmp}
use Rattle.td_value.specs.model.Values.{IsTupleOf, Relation, Tuple, tuple_cmp, tuple_names, tuple_of}
use Rattle.td_value.specs.code.ValueOrder.{order_total}
use Rattle.td_value.proofs.Agreement.{names_ascend}
use Rattle.td_value.proofs.Maps.{sorted_is_tuple_of}
use Rattle.td_algebra.specs.code.Columns.{AreAfter}
use Rattle.td_algebra.specs.model.Operators.{united_tuple}
use Rattle.td_algebra.specs.code.Layouts.{Sources}
use Rattle.td_algebra.specs.code.Pairs.{IsPaired, pair_sources, pair_tuple, pairs_with}
use Rattle.td_algebra.proofs.Ascents.{after_last, fields_before, joined_ascends}
use Rattle.td_algebra.proofs.Entries.{has_name-heading, names_of_heading}
use Rattle.td_algebra.proofs.Joined.{pairs_alike}
use Rattle.td_algebra.proofs.Keys.{kept_alike}
use Rattle.td_algebra.proofs.Lists.{all_kept, contains_flat_map, contains_map}
use Rattle.td_algebra.proofs.Pairs.{is_paired, pair_is, united_is}
use Rattle.td_algebra.proofs.Relations.{All-from_members}
use Rattle.td_algebra.proofs.United.{IsTupleOf-united}

-- ---- names after the last of a heading

above_all : (last : List ℕ) (a : Attribute) (h : Heading) → name_cmp last a.0 ≡ Less → AllByRecursion (λ n. name_cmp a.0 n ≡ Less) (attribute_names h)
    → list_all (λ n. is_lt (name_cmp last n)) (attribute_names h) ≡ true
above_all last a [] l below = refl
above_all last a (b ∷ h) l below = rw (nat_list_cmp_total.trans last a.0 b.0 l below.0) (above_all last a h l below.1)

-- the names of a heading whose first comes after the last of another come after all of it
pub after_first : (g h : Heading) (place : ℕ) (last first : List ℕ) (s t : Type') → IsAscending g → IsAscending h → Some (last, s) ≡ slice_get g place → place + 1 ≡ length g
    → Some (first, t) ≡ slice_get h 0 → name_cmp last first ≡ Less → AreAfter g (attribute_names h)
unfolding IsStrictlySortedBy
after_first g [] place last first s t p q at above top l = absurd (cc)
after_first g (b ∷ h) place last first s t p q at above top l =
    let same : first ≡ b.0 = cc in
    let less : name_cmp last b.0 ≡ Less = subst (λ n. name_cmp last n ≡ Less) same l in
    after_last g place last s (attribute_names (b ∷ h)) p at above (rw less (above_all last b h less q.0))

-- ---- the tuple of a pair is the one tuple after the other

module _ (g h : Heading) (after : AreAfter g (attribute_names h)) (t u : Tuple) (p : IsTupleOf g t) (q : IsTupleOf h u) where
  not_less : (n : List ℕ) → name_cmp n n ≡ Less → ⊥
  not_less n l = let tied : name_cmp n n ≡ Equal = tied_itself nat_list_cmp_total n in absurd (cc)

  lacked : (n : List ℕ) → has_name n (tuple_names u) ≡ true → not (has_name n (tuple_names t)) ≡ true
  lacked n there = by_test (has_name n (tuple_names t)) refl
    where
      by_test : (b : Bool) → has_name n (tuple_names t) ≡ b → not b ≡ true
      by_test true e = absurd (not_less n (after n n (sym (has_name-heading g t p n) ∙ e) (sym (has_attribute-names n h) ∙ sym (has_name-heading h u q n) ∙ there)))
      by_test false e = refl

  all_others : filter (λ e. not (has_name e.0 (tuple_names t))) u ≡ u
  all_others = kept_alike (λ n. not (has_name n (tuple_names t))) (λ n. true) u lacked ∙ all_kept (λ e. true) u (λ e. refl)

  pub united_appended : united_tuple t u ≡ t ++ u
  united_appended =
      ap (λ es. tuple_of (t ++ es)) all_others
      ∙ sym (sorted_is_tuple_of (t ++ u) (t ++ u) (IsPermutation-refl (t ++ u))
      (joined_ascends t u (names_ascend t p.0) (names_ascend u q.0)
      (λ n m there here. after n m (sym (has_name-heading g t p n) ∙ there) (sym (has_attribute-names m h) ∙ sym (has_name-heading h u q m) ∙ here))))

-- ---- lists that ascend

below_append : {K : Type 0} (cmp : K → K → Ordering) (k : K) (xs ys : List K) → AllByRecursion (λ m. cmp k m ≡ Less) xs → AllByRecursion (λ m. cmp k m ≡ Less) ys
    → AllByRecursion (λ m. cmp k m ≡ Less) (xs ++ ys)
below_append cmp k [] ys h j = j
below_append cmp k (x ∷ xs) ys h j = (h.0, below_append cmp k xs ys h.1 j)

sorted_append : {K : Type 0} (cmp : K → K → Ordering) (xs ys : List K) → IsStrictlySortedBy cmp xs → IsStrictlySortedBy cmp ys
    → AllByRecursion (λ x. AllByRecursion (λ m. cmp x m ≡ Less) ys) xs → IsStrictlySortedBy cmp (xs ++ ys)
unfolding IsStrictlySortedBy
sorted_append cmp [] ys p q h = q
sorted_append cmp (x ∷ xs) ys p q h = (below_append cmp x xs ys p.0 h.0, sorted_append cmp xs ys p.1 q h.1)

-- tuples that begin alike compare as what comes after it
same_before : (t u w : Tuple) → tuple_cmp (t ++ u) (t ++ w) ≡ tuple_cmp u w
same_before [] u w = refl
same_before (e ∷ t) u w = rw (tied_itself nat_list_cmp_total e.0, tied_itself order_total e.1) (same_before t u w)

below_inner : (t u : Tuple) (us : List Tuple) → AllByRecursion (λ w. tuple_cmp u w ≡ Less) us → AllByRecursion (λ w. tuple_cmp (t ++ u) w ≡ Less) (map (λ w. t ++ w) us)
below_inner t u [] h = tt
below_inner t u (w ∷ us) h = (same_before t u w ∙ h.0, below_inner t u us h.1)

inner_ascend : (t : Tuple) (us : List Tuple) → IsStrictlySortedBy tuple_cmp us → IsStrictlySortedBy tuple_cmp (map (λ w. t ++ w) us)
unfolding IsStrictlySortedBy
inner_ascend t [] up = tt
inner_ascend t (u ∷ us) up = (below_inner t u us up.0, inner_ascend t us up.1)

below_mapped : (t u s : Tuple) (us : List Tuple) → tuple_names t ≡ tuple_names s → tuple_cmp t s ≡ Less → AllByRecursion (λ w. tuple_cmp (t ++ u) w ≡ Less) (map (λ w. s ++ w) us)
below_mapped t u s [] n l = tt
below_mapped t u s (w ∷ us) n l = (fields_before t s u w n l, below_mapped t u s us n l)

below_pairs : (names : List (List ℕ)) (t u : Tuple) (ts us : List Tuple) → tuple_names t ≡ names → AllByRecursion (λ s. tuple_names s ≡ names) ts
    → AllByRecursion (λ s. tuple_cmp t s ≡ Less) ts → AllByRecursion (λ w. tuple_cmp (t ++ u) w ≡ Less) (flat_map (λ s. map (λ w. s ++ w) us) ts)
below_pairs names t u [] us n ns l = tt
below_pairs names t u (s ∷ ts) us n ns l =
    below_append tuple_cmp (t ++ u) (map (λ w. s ++ w) us) _ (below_mapped t u s us (n ∙ sym ns.0) l.0) (below_pairs names t u ts us n ns.1 l.1)

each_below : (names : List (List ℕ)) (t : Tuple) (vs ts us : List Tuple) → tuple_names t ≡ names → AllByRecursion (λ s. tuple_names s ≡ names) ts
    → AllByRecursion (λ s. tuple_cmp t s ≡ Less) ts
    → AllByRecursion (λ x. AllByRecursion (λ w. tuple_cmp x w ≡ Less) (flat_map (λ s. map (λ w. s ++ w) us) ts)) (map (λ w. t ++ w) vs)
each_below names t [] ts us n ns l = tt
each_below names t (u ∷ vs) ts us n ns l = (below_pairs names t u ts us n ns l, each_below names t vs ts us n ns l)

pairs_ascend : (names : List (List ℕ)) (ts us : List Tuple) → AllByRecursion (λ s. tuple_names s ≡ names) ts → IsStrictlySortedBy tuple_cmp ts → IsStrictlySortedBy tuple_cmp us
    → IsStrictlySortedBy tuple_cmp (flat_map (λ s. map (λ w. s ++ w) us) ts)
unfolding IsStrictlySortedBy
pairs_ascend names [] us ns p q = tt
pairs_ascend names (t ∷ ts) us ns p q =
    sorted_append tuple_cmp (map (λ w. t ++ w) us) _ (inner_ascend t us q) (pairs_ascend names ts us ns.1 p.1 q) (each_below names t us ts us ns.0 ns.1 p.0)

all_named : (h : Heading) (ts : List Tuple) → AllByRecursion (IsTupleOf h) ts → AllByRecursion (λ s. tuple_names s ≡ attribute_names h) ts
all_named h [] a = tt
all_named h (t ∷ ts) a = (names_of_heading h t a.0, all_named h ts a.1)

-- ---- so the tuples of all pairs are those of the product, in their order

module _ (r s : Relation) (firsts : All (IsTupleOf r.heading) r.body) (seconds : All (IsTupleOf s.heading) s.body) (layout : Sources)
    (laid : IsPermutation (pair_sources [] 0 r.heading (length r.heading) s.heading) layout) where
  pub each_paired : All (λ t. All (IsPaired layout t) s.body) r.body
  each_paired k d l k' d' l' = is_paired [] r.heading s.heading (get_or r.body k d) (get_or s.body k' d') (firsts k d l) (seconds k' d' l') layout laid

  pub pairs_are : pairs_with (λ t. s.body) (pair_tuple layout) r.body ≡ flat_map (λ t. map (united_tuple t) s.body) r.body
  pairs_are =
      pairs_alike (λ t. s.body) (pair_tuple layout) united_tuple r.body
      (λ k d l k' d' l'. pair_is [] r.heading s.heading (get_or r.body k d) (get_or s.body k' d') (firsts k d l) (seconds k' d' l') layout laid
      ∙ united_is (get_or r.body k d) (get_or s.body k' d'))

  pub product_headed : All (IsTupleOf (heading_union r.heading s.heading)) (flat_map (λ t. map (united_tuple t) s.body) r.body)
  product_headed =
      All-from_members (IsTupleOf (heading_union r.heading s.heading)) _
      (λ y c. let a = (contains_flat_map (λ t. map (united_tuple t) s.body) r.body y).0 c in
      let b = (contains_map (united_tuple a.0) s.body y).0 a.2 in
      subst (IsTupleOf (heading_union r.heading s.heading)) b.2
      (IsTupleOf-united r.heading s.heading a.0 b.0 (All-contains (IsTupleOf r.heading) r.body a.0 firsts a.1) (All-contains (IsTupleOf s.heading) s.body b.0 seconds b.1)))

  pub product_ascends : AreAfter r.heading (attribute_names s.heading) → IsStrictlySortedBy tuple_cmp r.body → IsStrictlySortedBy tuple_cmp s.body
      → IsStrictlySortedBy tuple_cmp (flat_map (λ t. map (united_tuple t) s.body) r.body)
  product_ascends after p q =
      subst (IsStrictlySortedBy tuple_cmp)
      (sym (pairs_alike (λ t. s.body) united_tuple (λ t u. t ++ u) r.body
      (λ k d l k' d' l'. united_appended r.heading s.heading after (get_or r.body k d) (get_or s.body k' d') (firsts k d l) (seconds k' d' l'))))
      (pairs_ascend (attribute_names r.heading) r.body s.body (all_named r.heading r.body (recursion_from_All (IsTupleOf r.heading) r.body firsts)) p q)
