-- The extended tuples of a relation ascend where the new names come after its own.
use Rattle.std.proofs.Common.{◌≡◌, ◌∙◌, ◌+◌, ◌⊎◌, inl, inr, ap, arith, sym, refl, subst, ℕ, zero, suc, Bool, true, false, List, [], ◌∷◌, ◌++◌, Some, length, map, true≢false}
use Rattle.std.specs.Prelude.{◌&&◌, ◌||◌, if◌then◌else◌}
use Rattle.std.specs.Cmp.Lexicographic.{same_text}
use Rattle.std.specs.declared.cmp.Ordering.{Ordering}
use Rattle.std.specs.declared.cmp.Ordering.TheVariants.{Less, Equal, Greater}
use Rattle.std.specs.Ordering.{is_lt, ordering_then}
use Rattle.std.specs.List.{All, AllByRecursion, list_all, slice_get}
use Rattle.std.specs.List.Sorted.{IsStrictlySortedBy}
use Rattle.std.proofs.lemmas.Cmp.{nat_list_cmp_total, tied_itself}
use Rattle.std.proofs.lemmas.List.Elements.{recursion_from_All}
use Rattle.td_types.specs.model.Headings.{are_distinct, has_attribute, has_name, have_no_common}
use Rattle.td_types.specs.model.Types.{Attribute, Heading, IsAscending, Type', attribute_names, same_name}
use Rattle.td_types.proofs.HeadingLaws.{has_attribute-names, name_cmp, same_name-itself}
use Rattle.td_value.specs.model.Values.{IsTupleOf, Tuple, relation_of, tuple_cmp, tuple_names, tuple_of, value_at, value_cmp, relation_view}
use Rattle.td_value.specs.code.ValueOrder.{tuple_order_same, tuple_order_total}
use Rattle.td_value.proofs.Agreement.{entries_of_values, names_ascend}
use Rattle.td_value.proofs.Maps.{value_at-tuple_of}
use Rattle.td_value.proofs.SetLaws.{is_set_of}
use Rattle.td_algebra.specs.code.Columns.{AreAfter, AreColumns, AreColumnsOf, IsColumn, column_attributes, columns_view}
use Rattle.td_algebra.specs.declared.extension.Column.{Column}
use Rattle.td_algebra.specs.model.Operators.{Addition, added_attributes, added_values, extended_tuple}
use Rattle.td_value.proofs.Maps.{has_name-tuple_of}
use Rattle.td_algebra.proofs.Entries.{has_name-heading, names_of_heading, tuple_of-ascends, value_at-append}
use Rattle.td_algebra.proofs.Extensions.{added_distinct, additions_attributes, column_names, extended_distinct, extended_values, has_name-added}
use Rattle.td_algebra.proofs.Fitting.{additions_of, columns_of_additions}

-- tuples of the same names compare as before, whatever comes after them
pub fields_before : (t u x y : Tuple) → tuple_names t ≡ tuple_names u → tuple_cmp t u ≡ Less → tuple_cmp (t ++ x) (u ++ y) ≡ Less
fields_before [] [] x y n l = absurd (cc)
fields_before [] (f ∷ u) x y n l = absurd (cc)
fields_before (e ∷ t) [] x y n l = absurd (cc)
fields_before (e ∷ t) (f ∷ u) x y n l =
    let first : e.0 ≡ f.0 = cc in
    let rest : tuple_names t ≡ tuple_names u = cc in
    let less : ordering_then (value_cmp e.1 f.1) (tuple_cmp t u) ≡ Less = rw (first, tied_itself nat_list_cmp_total f.0) at l in
    rw (first, tied_itself nat_list_cmp_total f.0) (by_value (value_cmp e.1 f.1) less (fields_before t u x y rest))
  where
    by_value : (o : Ordering) → ordering_then o (tuple_cmp t u) ≡ Less → (tuple_cmp t u ≡ Less → tuple_cmp (t ++ x) (u ++ y) ≡ Less)
        → ordering_then o (tuple_cmp (t ++ x) (u ++ y)) ≡ Less
    by_value Less h rest = refl
    by_value Equal h rest = rest h
    by_value Greater h rest = h

below_each : (n : List ℕ) (w : Tuple) → ((m : List ℕ) → has_name m (tuple_names w) ≡ true → name_cmp n m ≡ Less) → AllByRecursion (λ m. name_cmp n m ≡ Less) (tuple_names w)
below_each n [] h = tt
below_each n (e ∷ w) h = (h e.0 (rw (same_name-itself e.0) refl), below_each n w (λ m there. h m (later m there (same_name e.0 m))))
  where
    later : (m : List ℕ) → has_name m (tuple_names w) ≡ true → (b : Bool) → (b || has_name m (tuple_names w)) ≡ true
    later m there true = refl
    later m there false = there

below_joined : (n : List ℕ) (t w : Tuple) → AllByRecursion (λ m. name_cmp n m ≡ Less) (tuple_names t) → AllByRecursion (λ m. name_cmp n m ≡ Less) (tuple_names w)
    → AllByRecursion (λ m. name_cmp n m ≡ Less) (tuple_names (t ++ w))
below_joined n [] w h k = k
below_joined n (e ∷ t) w h k = (h.0, below_joined n t w h.1 k)

pub joined_ascends : (t w : Tuple) → IsStrictlySortedBy name_cmp (tuple_names t) → IsStrictlySortedBy name_cmp (tuple_names w)
    → ((n m : List ℕ) → has_name n (tuple_names t) ≡ true → has_name m (tuple_names w) ≡ true → name_cmp n m ≡ Less) → IsStrictlySortedBy name_cmp (tuple_names (t ++ w))
unfolding IsStrictlySortedBy
joined_ascends [] w p q h = q
joined_ascends (e ∷ t) w p q h = (
  below_joined e.0 t w p.0 (below_each e.0 w (λ m there. h e.0 m (rw (same_name-itself e.0) refl) there)),
  joined_ascends t w p.1 q (λ n m there. h n m (later n there (same_name e.0 n))),
)
  where
    later : (n : List ℕ) → has_name n (tuple_names t) ≡ true → (b : Bool) → (b || has_name n (tuple_names t)) ≡ true
    later n there true = refl
    later n there false = there

-- the new names come after those of the heading
abbrev pub ComeAfter : Heading → Heading → Type 0
ComeAfter h g = (n m : List ℕ) → has_attribute n h ≡ true → has_attribute m g ≡ true → name_cmp n m ≡ Less

module _ (bs : List Addition) (h : Heading) (distinct : are_distinct (attribute_names (added_attributes bs)) ≡ true)
    (new : have_no_common (added_attributes bs) h ≡ true) (after : ComeAfter h (added_attributes bs)) where
  appended : (t : Tuple) → IsTupleOf h t → extended_tuple bs t ≡ t ++ tuple_of (added_values bs t)
  appended t p =
      entries_of_values (extended_tuple bs t) (t ++ tuple_of (added_values bs t)) (tuple_of-ascends (t ++ added_values bs t) (extended_distinct bs h t p distinct new))
      (joined_ascends t (tuple_of (added_values bs t)) (names_ascend t p.0) (tuple_of-ascends (added_values bs t) added)
      (λ n m there here. after n m (sym (has_name-heading h t p n) ∙ there) (sym (has_name-added m bs t) ∙ sym (has_name-tuple_of m (added_values bs t)) ∙ here)))
      (λ n. extended_values bs h t p distinct new n
      ∙ sym (value_at-append n t (tuple_of (added_values bs t)) ∙ ap (λ v. if has_name n (tuple_names t) then value_at n t else v) (value_at-tuple_of n (added_values bs t) added)))
    where
      added : are_distinct (tuple_names (added_values bs t)) ≡ true
      added = added_distinct bs t distinct

  still_less : (t u : Tuple) → IsTupleOf h t → IsTupleOf h u → tuple_cmp t u ≡ Less → tuple_cmp (extended_tuple bs t) (extended_tuple bs u) ≡ Less
  still_less t u p q l =
      rw (appended t p, appended u q) (fields_before t u _ _ (names_of_heading h t p ∙ sym (names_of_heading h u q)) l)

  still_below : (t : Tuple) (us : List Tuple) → IsTupleOf h t → AllByRecursion (IsTupleOf h) us → AllByRecursion (λ u. tuple_cmp t u ≡ Less) us
      → AllByRecursion (λ u. tuple_cmp (extended_tuple bs t) u ≡ Less) (map (extended_tuple bs) us)
  still_below t [] p a l = tt
  still_below t (u ∷ us) p a l = (still_less t u p a.0 l.0, still_below t us p a.1 l.1)

  still_ascend : (ts : List Tuple) → AllByRecursion (IsTupleOf h) ts → IsStrictlySortedBy tuple_cmp ts → IsStrictlySortedBy tuple_cmp (map (extended_tuple bs) ts)
  unfolding IsStrictlySortedBy
  still_ascend [] a up = tt
  still_ascend (t ∷ ts) a up = (still_below t ts a.0 a.1 up.0, still_ascend ts a.1 up.1)

  pub extended_ascend : (ts : List Tuple) → All (IsTupleOf h) ts → IsStrictlySortedBy tuple_cmp ts → IsStrictlySortedBy tuple_cmp (map (extended_tuple bs) ts)
  extended_ascend ts a up = still_ascend ts (recursion_from_All (IsTupleOf h) ts a) up

-- rows that ascend are their set
pub ascending_set : (h : Heading) (ts : List Tuple) → IsStrictlySortedBy tuple_cmp ts → relation_view h ts ≡ relation_of h ts
ascending_set h ts up = ap (relation_view h) (is_set_of tuple_cmp tuple_order_total tuple_order_same ts ts up (λ t. refl))

-- ---- names after the last of a heading

below_at : (n : List ℕ) (h : Heading) (place : ℕ) (a : Attribute) → AllByRecursion (λ m. name_cmp n m ≡ Less) (attribute_names h) → slice_get h place ≡ Some a → name_cmp n a.0 ≡ Less
below_at n [] zero a l e = absurd (cc)
below_at n [] (suc k) a l e = absurd (cc)
below_at n (x ∷ h) zero a l e =
    let same : x ≡ a = cc in
    subst (λ (b : Attribute). name_cmp n b.0 ≡ Less) same l.0
below_at n (x ∷ h) (suc k) a l e = below_at n h k a l.1 e

up_to_last : (h : Heading) (place : ℕ) (a : Attribute) → IsAscending h → slice_get h place ≡ Some a → place + 1 ≡ length h
    → (old : List ℕ) → has_attribute old h ≡ true → (old ≡ a.0) ⊎ (name_cmp old a.0 ≡ Less)
unfolding IsStrictlySortedBy
up_to_last [] place a up e last old there = absurd (true≢false (sym there))
up_to_last (x ∷ []) zero a up e last old there = by_name (same_name x.0 old) refl
  where
    by_name : (b : Bool) → same_name x.0 old ≡ b → (old ≡ a.0) ⊎ (name_cmp old a.0 ≡ Less)
    by_name true is = let same : x ≡ a = cc in inl (sym (same_text x.0 old (sym is)) ∙ ap (λ (b : Attribute). b.0) same)
    by_name false is = absurd (true≢false (sym (rw is at there)))
up_to_last (x ∷ y ∷ h) zero a up e last old there = absurd (omega (arith, last))
up_to_last (x ∷ h) (suc k) a up e last old there = by_name (same_name x.0 old) refl (up_to_last h k a up.1 e (omega (arith, last)) old)
  where
    by_name : (b : Bool) → same_name x.0 old ≡ b → (has_attribute old h ≡ true → (old ≡ a.0) ⊎ (name_cmp old a.0 ≡ Less)) → (old ≡ a.0) ⊎ (name_cmp old a.0 ≡ Less)
    by_name true is rest = inr (subst (λ n. name_cmp n a.0 ≡ Less) (same_text x.0 old (sym is)) (below_at x.0 h k a up.0 e))
    by_name false is rest = rest (rw is at there)

pub is_less : (o : Ordering) → is_lt o ≡ true → o ≡ Less
is_less Less e = refl
is_less Equal e = absurd (true≢false (sym e))
is_less Greater e = absurd (true≢false (sym e))

both_true : (a b : Bool) → (a && b) ≡ true → (a ≡ true) × (b ≡ true)
both_true true b e = (refl, e)
both_true false b e = absurd (true≢false (sym e))

above_last : (last : List ℕ) (names : List (List ℕ)) → list_all (λ n. is_lt (name_cmp last n)) names ≡ true → (new : List ℕ) → has_name new names ≡ true → name_cmp last new ≡ Less
above_last last [] e new there = absurd (true≢false (sym there))
above_last last (n ∷ ns) e new there = by_name (same_name n new) refl (above_last last ns (both_true _ _ e).1 new)
  where
    by_name : (b : Bool) → same_name n new ≡ b → (has_name new ns ≡ true → name_cmp last new ≡ Less) → name_cmp last new ≡ Less
    by_name true is rest = subst (λ m. name_cmp last m ≡ Less) (same_text n new (sym is)) (is_less (name_cmp last n) (both_true _ _ e).0)
    by_name false is rest = rest (rw is at there)

pub after_last : (h : Heading) (place : ℕ) (last : List ℕ) (t : Type') (names : List (List ℕ)) → IsAscending h → Some (last, t) ≡ slice_get h place → place + 1 ≡ length h
    → list_all (λ n. is_lt (name_cmp last n)) names ≡ true → AreAfter h names
after_last h place last t names up e at above old new there here = by_case (up_to_last h place (last, t) up (sym e) at old there)
  where
    less : name_cmp last new ≡ Less
    less = above_last last names above new here

    by_case : (old ≡ last) ⊎ (name_cmp old last ≡ Less) → name_cmp old new ≡ Less
    by_case (inl is) = ap (λ n. name_cmp n new) is ∙ less
    by_case (inr below) = nat_list_cmp_total.trans old last new below less

-- ---- so the extended rows ascend

pub extension_ascends : (cs : List (List ℕ × Column)) (h g : Heading) (body rows : List Tuple) (names : List (List ℕ))
    → IsStrictlySortedBy tuple_cmp body → AreColumns (columns_view cs) body → are_distinct (attribute_names (column_attributes (columns_view cs))) ≡ true
    → have_no_common (column_attributes (columns_view cs)) g ≡ true → All (IsTupleOf g) body → h ≡ g → names ≡ map (λ c. c.0) cs
    → ((bs : List Addition) → AreColumnsOf (columns_view cs) body bs → rows ≡ map (extended_tuple bs) body)
    → AreAfter h names → IsStrictlySortedBy tuple_cmp rows
extension_ascends cs h g body rows names up fit d new a same is are after =
    subst (IsStrictlySortedBy tuple_cmp) (sym (are bs e))
    (extended_ascend bs g (ap (λ k. are_distinct (attribute_names k)) (sym added) ∙ d) (ap (λ k. have_no_common k g) (sym added) ∙ new) come body a up)
  where
    bs : List Addition
    bs = additions_of (columns_view cs) body

    e : AreColumnsOf (columns_view cs) body bs
    e = columns_of_additions (columns_view cs) body up (recursion_from_All (λ c. IsColumn c.1 c.2 body) (columns_view cs) fit)

    added : column_attributes (columns_view cs) ≡ added_attributes bs
    added = additions_attributes (columns_view cs) body bs e

    come : ComeAfter g (added_attributes bs)
    come n m there here =
        after n m (ap (has_attribute n) same ∙ there)
        (ap (has_name m) (is ∙ column_names cs ∙ ap attribute_names added) ∙ sym (has_attribute-names m (added_attributes bs)) ∙ here)
