-- Entries of distinct names, as the tuple that they are.
use Rattle.std.proofs.Common.{◌≡◌, ◌∙◌, ap, sym, refl, subst, ℕ, Bool, true, false, List, [], ◌∷◌, ◌++◌, Option, Some, None, length, true≢false}
use Rattle.std.specs.Prelude.{◌||◌, if◌then◌else◌, is_some, option_map}
use Rattle.std.specs.declared.cmp.Ordering.{Ordering}
use Rattle.std.specs.declared.cmp.Ordering.TheVariants.{Less, Equal, Greater}
use Rattle.std.specs.Ordering.{is_eq, ordering_reverse}
use Rattle.std.specs.Cmp.Lexicographic.{texts_ties}
use Rattle.std.specs.List.{AllByRecursion}
use Rattle.std.specs.List.Sorted.{IsStrictlySortedBy}
use Rattle.std.proofs.lemmas.Cmp.{nat_list_cmp_total}
use Rattle.std.proofs.lemmas.List.{length-map, map-append}
use Rattle.std.proofs.lemmas.List.Folds.{list_any-append}
use Rattle.td_tree.specs.model.Names.{IsName}
use Rattle.td_types.specs.model.Headings.{are_distinct, has_attribute, has_name}
use Rattle.td_types.specs.model.Types.{Heading, IsHeading, attribute_names, pack, same_name, type_at}
use Rattle.td_types.proofs.DistinctNames.{absent_below, first_of, second_of}
use Rattle.td_types.proofs.HeadingLaws.{ascending_from_heading, attribute_from_heading, has_attribute-names, name_cmp, same_name-flips, same_name-itself, types_determine_heading}
use Rattle.td_value.specs.model.Sets.{put_in}
use Rattle.td_value.specs.model.Values.{Val, AreFields, IsTuple, IsTupleOf, IsValue, Tuple, entry_cmp, heading_of, pack_fields, tuple_names, tuple_of, type_of, value_at}
use Rattle.td_value.specs.code.Views.{values_of}
use Rattle.td_value.proofs.Agreement.{names_ascend, tuples_of_values}
use Rattle.td_value.proofs.Maps.{has_name-tuple_of, or_left, or_right, value_at-tuple_of}
use Rattle.td_value.proofs.Zips.{IsTuple-from}

-- ---- the heading of entries

pub names-heading : (es : Tuple) → attribute_names (heading_of es) ≡ tuple_names es
names-heading [] = refl
names-heading (e ∷ es) = ap (λ ns. e.0 ∷ ns) (names-heading es)

-- it gives each name the type of its value
pub type_at-heading_of : (n : List ℕ) (es : Tuple) → type_at n (heading_of es) ≡ option_map type_of (value_at n es)
type_at-heading_of n [] = refl
type_at-heading_of n (e ∷ es) = by_name (same_name e.0 n) (type_at-heading_of n es)
  where
    by_name : (b : Bool) → type_at n (heading_of es) ≡ option_map type_of (value_at n es)
        → (if b then Some (type_of e.1) else type_at n (heading_of es)) ≡ option_map type_of (if b then Some e.1 else value_at n es)
    by_name true rest = refl
    by_name false rest = rest

-- a name has a value where it is one of the names
pub has_value : (n : List ℕ) (es : Tuple) → is_some (value_at n es) ≡ has_name n (tuple_names es)
has_value n [] = refl
has_value n (e ∷ es) = by_name (same_name e.0 n) (has_value n es)
  where
    by_name : (b : Bool) → is_some (value_at n es) ≡ has_name n (tuple_names es) → is_some (if b then Some e.1 else value_at n es) ≡ (b || has_name n (tuple_names es))
    by_name true rest = refl
    by_name false rest = rest

none_of : {A : Type 0} (o : Option A) → is_some o ≡ false → o ≡ None
none_of None e = refl
none_of (Some a) e = absurd (true≢false e)

-- a name that is none of the names has no value
pub no_value : (n : List ℕ) (es : Tuple) → has_name n (tuple_names es) ≡ false → value_at n es ≡ None
no_value n es e = none_of (value_at n es) (has_value n es ∙ e)

-- ---- names that ascend

pub ascending_distinct : (ns : List (List ℕ)) → IsStrictlySortedBy name_cmp ns → are_distinct ns ≡ true
unfolding IsStrictlySortedBy
ascending_distinct [] h = refl
ascending_distinct (n ∷ ns) h = rw (absent_below n ns h.0) (ascending_distinct ns h.1)

-- the names of a tuple, and of a heading, are distinct
pub tuple_distinct : (t : Tuple) → IsTuple t → are_distinct (tuple_names t) ≡ true
tuple_distinct t h = ascending_distinct (tuple_names t) (names_ascend t h)

pub heading_distinct : (h : Heading) → IsHeading (pack h) → are_distinct (attribute_names h) ≡ true
heading_distinct h p = ascending_distinct (attribute_names h) (ascending_from_heading h p)

-- ---- entries of distinct names, sorted

below_further : (m n : List ℕ) (ns : List (List ℕ)) → name_cmp m n ≡ Less → AllByRecursion (λ k. name_cmp n k ≡ Less) ns → AllByRecursion (λ k. name_cmp m k ≡ Less) ns
below_further m n [] e h = tt
below_further m n (k ∷ ns) e h = (nat_list_cmp_total.trans m n k e h.0, below_further m n ns e h.1)

below_put : (n : List ℕ) (e : List ℕ × Val) (es : Tuple) → name_cmp n e.0 ≡ Less → AllByRecursion (λ m. name_cmp n m ≡ Less) (tuple_names es)
    → AllByRecursion (λ m. name_cmp n m ≡ Less) (tuple_names (put_in entry_cmp e es))
below_put n e [] d h = (d, tt)
below_put n e (f ∷ es) d h = by_order (below_put n e es d h.1) (entry_cmp e f) refl
  where
    by_order : AllByRecursion (λ m. name_cmp n m ≡ Less) (tuple_names (put_in entry_cmp e es)) → (o : Ordering) → entry_cmp e f ≡ o
        → AllByRecursion (λ m. name_cmp n m ≡ Less) (tuple_names (put_in entry_cmp e (f ∷ es)))
    by_order rest Less o = rw o (d, h)
    by_order rest Equal o = rw o h
    by_order rest Greater o = rw o (h.0, rest)

put_ascends : (e : List ℕ × Val) (es : Tuple) → has_name e.0 (tuple_names es) ≡ false → IsStrictlySortedBy name_cmp (tuple_names es)
    → IsStrictlySortedBy name_cmp (tuple_names (put_in entry_cmp e es))
unfolding IsStrictlySortedBy
put_ascends e [] n h = (tt, tt)
put_ascends e (f ∷ es) n h = by_order (put_ascends e es (or_right _ _ n) h.1) (name_cmp e.0 f.0) refl
  where
    by_order : IsStrictlySortedBy name_cmp (tuple_names (put_in entry_cmp e es)) → (o : Ordering) → name_cmp e.0 f.0 ≡ o
        → IsStrictlySortedBy name_cmp (tuple_names (put_in entry_cmp e (f ∷ es)))
    by_order rest Less o = rw o ((o, below_further e.0 f.0 (tuple_names es) o h.0), h)
    by_order rest Equal o =
        let tied : same_name e.0 f.0 ≡ true = texts_ties e.0 f.0 ∙ ap is_eq o in
        absurd (true≢false (sym tied ∙ same_name-flips e.0 f.0 ∙ or_left _ _ n))
    by_order rest Greater o =
        let below : name_cmp f.0 e.0 ≡ Less = nat_list_cmp_total.antisymm f.0 e.0 ∙ ap ordering_reverse o in
        rw o (below_put f.0 e es below h.0, rest)

put_fields : (e : List ℕ × Val) (es : Tuple) → IsName e.0 → IsValue e.1 → AreFields (pack_fields es) → AreFields (pack_fields (put_in entry_cmp e es))
put_fields e [] n v h = (n, v, tt)
put_fields e (f ∷ es) n v h = by_order (put_fields e es n v h.2) (entry_cmp e f) refl
  where
    by_order : AreFields (pack_fields (put_in entry_cmp e es)) → (o : Ordering) → entry_cmp e f ≡ o → AreFields (pack_fields (put_in entry_cmp e (f ∷ es)))
    by_order rest Less o = rw o (n, v, h)
    by_order rest Equal o = rw o h
    by_order rest Greater o = rw o (h.0, h.1, rest)

pub tuple_of-ascends : (es : Tuple) → are_distinct (tuple_names es) ≡ true → IsStrictlySortedBy name_cmp (tuple_names (tuple_of es))
unfolding IsStrictlySortedBy
tuple_of-ascends [] d = tt
tuple_of-ascends (e ∷ es) d =
    let rest : are_distinct (tuple_names es) ≡ true = second_of _ _ d in
    put_ascends e (tuple_of es) (has_name-tuple_of e.0 es ∙ first_of _ _ d) (tuple_of-ascends es rest)

pub tuple_of-fields : (es : Tuple) → AreFields (pack_fields es) → AreFields (pack_fields (tuple_of es))
tuple_of-fields [] h = tt
tuple_of-fields (e ∷ es) h = put_fields e (tuple_of es) h.0 h.1 (tuple_of-fields es h.2)

-- entries of names and values, no two of one name, make a tuple
pub IsTuple-tuple_of : (es : Tuple) → AreFields (pack_fields es) → are_distinct (tuple_names es) ≡ true → IsTuple (tuple_of es)
IsTuple-tuple_of es h d = IsTuple-from (tuple_of es) (tuple_of-fields es h) (tuple_of-ascends es d)

-- ---- and of a heading that gives each name the type of its value

pub tuple_heading : (h : Heading) (t : Tuple) → IsTuple t → IsHeading (pack h) → ((n : List ℕ) → option_map type_of (value_at n t) ≡ type_at n h) → IsTupleOf h t
tuple_heading h t p q e =
    (p, types_determine_heading (heading_of t) h (subst (IsStrictlySortedBy name_cmp) (sym (names-heading t)) (names_ascend t p)) (ascending_from_heading h q) (λ n. type_at-heading_of n t ∙ e n), q)

pub IsTupleOf-tuple_of : (h : Heading) (es : Tuple) → AreFields (pack_fields es) → are_distinct (tuple_names es) ≡ true → IsHeading (pack h)
    → ((n : List ℕ) → option_map type_of (value_at n es) ≡ type_at n h) → IsTupleOf h (tuple_of es)
IsTupleOf-tuple_of h es f d p e =
    tuple_heading h (tuple_of es) (IsTuple-tuple_of es f d) p (λ n. ap (option_map type_of) (value_at-tuple_of n es d) ∙ e n)

-- the values of a tuple of a heading have its types
pub typed_values : (h : Heading) (t : Tuple) → IsTupleOf h t → (n : List ℕ) → option_map type_of (value_at n t) ≡ type_at n h
typed_values h t p n = sym (type_at-heading_of n t) ∙ ap (type_at n) p.1

-- its names are those of the heading
pub names_of_heading : (h : Heading) (t : Tuple) → IsTupleOf h t → tuple_names t ≡ attribute_names h
names_of_heading h t p = sym (names-heading t) ∙ ap attribute_names p.1

-- as many values as attributes
pub as_many : (h : Heading) (t : Tuple) → IsTupleOf h t → length h ≡ length (values_of t)
as_many h t p =
    ap length (sym p.1) ∙ length-map t (λ e. (e.0, type_of e.1)) ∙ sym (length-map t (λ e. e.1))

pub has_name-heading : (h : Heading) (t : Tuple) → IsTupleOf h t → (n : List ℕ) → has_name n (tuple_names t) ≡ has_attribute n h
has_name-heading h t p n = ap (has_name n) (names_of_heading h t p) ∙ sym (has_attribute-names n h)

-- ---- entries one after others

pub value_at-append : (n : List ℕ) (es fs : Tuple) → value_at n (es ++ fs) ≡ (if has_name n (tuple_names es) then value_at n es else value_at n fs)
value_at-append n [] fs = refl
value_at-append n (e ∷ es) fs = by_name (value_at-append n es fs) (same_name e.0 n)
  where
    by_name : value_at n (es ++ fs) ≡ (if has_name n (tuple_names es) then value_at n es else value_at n fs) → (b : Bool)
        → (if b then Some e.1 else value_at n (es ++ fs)) ≡ (if b || has_name n (tuple_names es) then (if b then Some e.1 else value_at n es) else value_at n fs)
    by_name rest true = refl
    by_name rest false = rest

-- names of which none is in both lists
pub names_apart : (ms ns : List (List ℕ)) → are_distinct ms ≡ true → are_distinct ns ≡ true → ((n : List ℕ) → has_name n ms ≡ true → has_name n ns ≡ false)
    → are_distinct (ms ++ ns) ≡ true
names_apart [] ns d f apart = f
names_apart (m ∷ ms) ns d f apart =
    let absent : has_name m ms ≡ false = first_of _ _ d in
    let other : has_name m ns ≡ false = apart m (rw (same_name-itself m) refl) in
    let none : has_name m (ms ++ ns) ≡ false = list_any-append (λ k. same_name k m) ms ns ∙ rw (absent, other) refl in
    rw none (names_apart ms ns (second_of _ _ d) f (λ n h. apart n (later n h (same_name m n))))
  where
    later : (n : List ℕ) → has_name n ms ≡ true → (b : Bool) → (b || has_name n ms) ≡ true
    later n h true = refl
    later n h false = h

-- where no name is in both, the names of both are distinct
pub distinct_append : (es fs : Tuple) → are_distinct (tuple_names es) ≡ true → are_distinct (tuple_names fs) ≡ true
    → ((n : List ℕ) → has_name n (tuple_names es) ≡ true → has_name n (tuple_names fs) ≡ false) → are_distinct (tuple_names (es ++ fs)) ≡ true
distinct_append es fs d f apart =
    ap are_distinct (map-append (λ (e : List ℕ × Val). e.0) es fs) ∙ names_apart (tuple_names es) (tuple_names fs) d f apart

pub fields_append : (es fs : Tuple) → AreFields (pack_fields es) → AreFields (pack_fields fs) → AreFields (pack_fields (es ++ fs))
fields_append [] fs p q = q
fields_append (e ∷ es) fs p q = (p.0, p.1, fields_append es fs p.2 q)

-- ---- entries whose values are values

abbrev pub HaveValues : Tuple → Type 0
HaveValues = AllByRecursion (λ e. IsValue e.1)

fields_from : (es : Tuple) → HaveValues es → ((n : List ℕ) → has_name n (tuple_names es) ≡ true → IsName n) → AreFields (pack_fields es)
fields_from [] h named = tt
fields_from (e ∷ es) h named =
    (named e.0 (rw (same_name-itself e.0) refl), h.0, fields_from es h.1 (λ n there. named n (later n there (same_name e.0 n))))
  where
    later : (n : List ℕ) → has_name n (tuple_names es) ≡ true → (b : Bool) → (b || has_name n (tuple_names es)) ≡ true
    later n there true = refl
    later n there false = there

pub values_of_fields : (es : Tuple) → AreFields (pack_fields es) → HaveValues es
values_of_fields [] h = tt
values_of_fields (e ∷ es) h = (h.1, values_of_fields es h.2)

some_type : {A B : Type 0} (f : A → B) (o : Option A) (p : Option B) → option_map f o ≡ p → is_some o ≡ true → (b : B) × (p ≡ Some b)
some_type f None p e h = absurd (true≢false (sym h))
some_type f (Some a) p e h = (f a, sym e)

-- entries of values, no two of one name, are a tuple of the heading that gives their names the types of their values
pub IsTupleOf-made : (h : Heading) (es : Tuple) → HaveValues es → are_distinct (tuple_names es) ≡ true → IsHeading (pack h)
    → ((n : List ℕ) → option_map type_of (value_at n es) ≡ type_at n h) → IsTupleOf h (tuple_of es)
IsTupleOf-made h es v d p e = IsTupleOf-tuple_of h es (fields_from es v named) d p e
  where
    named : (n : List ℕ) → has_name n (tuple_names es) ≡ true → IsName n
    named n there =
        let found = some_type type_of (value_at n es) (type_at n h) (e n) (has_value n es ∙ there) in
        (attribute_from_heading n found.0 h p found.1).0

none_typed : {A B : Type 0} (f : A → B) (o : Option A) → is_some (option_map f o) ≡ false → o ≡ None
none_typed f None e = refl
none_typed f (Some a) e = absurd (true≢false e)

-- a name that the heading lacks has no value
pub no_value_outside : (h : Heading) (t : Tuple) → IsTupleOf h t → (n : List ℕ) → has_attribute n h ≡ false → value_at n t ≡ None
no_value_outside h t p n e = none_typed type_of (value_at n t) (ap is_some (typed_values h t p n) ∙ e)

-- two tuples of one heading that give each of its names one value are one
pub same_on_heading : (h : Heading) (s t : Tuple) → IsTupleOf h s → IsTupleOf h t → ((n : List ℕ) → has_attribute n h ≡ true → value_at n s ≡ value_at n t) → s ≡ t
same_on_heading h s t p q e = tuples_of_values s t p.0 q.0 (λ n. by_name n (has_attribute n h) refl)
  where
    by_name : (n : List ℕ) (b : Bool) → has_attribute n h ≡ b → value_at n s ≡ value_at n t
    by_name n true there = e n there
    by_name n false there = no_value_outside h s p n there ∙ sym (no_value_outside h t q n there)
