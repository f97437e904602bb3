-- The tuples of one heading: they have the same names, so that their values alone order them.
use Rattle.std.proofs.Common.{◌≡◌, ◌∙◌, ◌+◌, ap, sym, refl, subst, arith, zero, suc, List, [], ◌∷◌, get_or, Bool}
use Rattle.std.specs.Ordering.{ordering_then, is_lt}
use Rattle.std.specs.declared.cmp.Ordering.{Ordering}
use Rattle.std.specs.Cmp.{IsTotalOrder}
use Rattle.std.specs.Cmp.Lexicographic.{slice_cmp}
use Rattle.std.specs.List.{All, Contains, dedup}
use Rattle.std.specs.List.Sorted.{IsPermutation, IsSorted, IsSortedBy}
use Rattle.std.proofs.lemmas.List.Sorted.{All-permutation}
use Rattle.std.proofs.lemmas.Cmp.{on_total, nat_list_cmp_total, tied_itself}
use Rattle.std.proofs.lemmas.List.Kept.{Contains-from_dedup}
use Rattle.std.proofs.lemmas.List.Elements.{All-contains, All-contains_itself}
use Rattle.td_types.specs.model.Types as heads
use Rattle.td_types.specs.model.Types.{Heading, IsHeading, pack, unpack}
use Rattle.td_types.specs.code.TypeCode.{unpack_pack}
use Rattle.td_value.specs.model.Values.{Val, tuple, user, Tuple, value_cmp, AreRows, HaveSameNames, IsTuple, IsTupleOf, fields_type, heading_of, tuple_names, pack_fields, pack_parts, pack_rows, parts_cmp, rows_cmp, tuple_cmp}
use Rattle.td_value.specs.code.ValueOrder.{order_total}
use Rattle.td_value.specs.code.Views.{values_of}
use Rattle.td_value.proofs.HeadingOf.{fields_type-heading}
use Rattle.td_value.proofs.Typed.{typed}

-- the order of tuples by their values alone
abbrev pub by_values : Tuple → Tuple → Ordering
by_values s t = parts_cmp (pack_parts (values_of s)) (pack_parts (values_of t))

pub by_values_total : IsTotalOrder by_values
by_values_total = on_total (λ (s : Tuple). user [] (pack_parts (values_of s))) order_total

-- tuples of the same names compare as their values do
pub tuple_order-by_values : (s t : Tuple) → tuple_names s ≡ tuple_names t → tuple_cmp s t ≡ by_values s t
tuple_order-by_values [] [] h = refl
tuple_order-by_values [] (f ∷ t) h = absurd (cc)
tuple_order-by_values (e ∷ s) [] h = absurd (cc)
tuple_order-by_values (e ∷ s) (f ∷ t) h =
    let first : e.0 ≡ f.0 = cc in
    let rest : tuple_names s ≡ tuple_names t = cc in
    rw (first, tied_itself nat_list_cmp_total f.0, tuple_order-by_values s t rest) refl

names-heading : (s : Tuple) → heads.attribute_names (heading_of s) ≡ tuple_names s
names-heading [] = refl
names-heading (e ∷ s) = ap (λ ns. e.0 ∷ ns) (names-heading s)

same_heading : (h : Heading) (s t : Tuple) → IsTupleOf h s → IsTupleOf h t → tuple_names s ≡ tuple_names t
same_heading h s t p q = sym (names-heading s) ∙ ap heads.attribute_names (p.1 ∙ sym q.1) ∙ names-heading t

pub HaveSameNames-from : (h : Heading) (ts : List Tuple) → All (IsTupleOf h) ts → HaveSameNames ts
HaveSameNames-from h ts a s t p q = same_heading h s t (All-contains (IsTupleOf h) ts s a p) (All-contains (IsTupleOf h) ts t a q)

-- tuples of the same names that are sorted by their values are sorted
pub sorted_from_values : (ts : List Tuple) → HaveSameNames ts → IsSortedBy (λ s t. is_lt (by_values s t)) ts → IsSorted tuple_cmp ts
sorted_from_values ts same up k d l u =
    let names = same (get_or ts (k + 1) d) (get_or ts k d) (All-contains_itself ts (k + 1) d u) (All-contains_itself ts k d (omega arith)) in
    rw (tuple_order-by_values (get_or ts (k + 1) d) (get_or ts k d) names) (up k d l u)

-- the same tuples in another order have the same names
pub HaveSameNames-permuted : (ts us : List Tuple) → IsPermutation ts us → HaveSameNames ts → HaveSameNames us
HaveSameNames-permuted ts us p same s t a b =
    let inside = All-permutation (Contains ts) ts us p (All-contains_itself ts) in
    same s t (All-contains (Contains ts) us s inside a) (All-contains (Contains ts) us t inside b)

heading_from : (h : Heading) (t : Tuple) → fields_type (pack_fields t) ≡ pack h → heading_of t ≡ h
heading_from h t e = sym (unpack_pack (heading_of t)) ∙ ap unpack (sym (fields_type-heading t) ∙ e) ∙ unpack_pack h

-- a tuple has a heading, which is one
pub IsTupleOf-from : (h : Heading) (t : Tuple) → IsTuple t → fields_type (pack_fields t) ≡ pack h → IsTupleOf h t
IsTupleOf-from h t p e = (p, heading_from h t e, subst IsHeading e (typed (tuple (pack_fields t)) p))

pub AreRows-from : (h : Heading) (ts : List Tuple) → All (IsTupleOf h) ts → AreRows (pack h) (pack_rows ts)
AreRows-from h [] a = tt
AreRows-from h (t ∷ ts) a =
    let first = a 0 t (omega arith) in
    ((first.0.0, first.0.1, fields_type-heading t ∙ ap pack first.1), AreRows-from h ts (λ k d p. a (suc k) d (omega arith)))

pub All-dedup : {X : Type 0} (E : X → X → Bool) (P : X → Type 0) (xs : List X) → All P xs → All P (dedup E xs)
All-dedup E P xs a = λ k d p.
    All-contains P xs _ a (Contains-from_dedup E xs _ (All-contains_itself (dedup E xs) k d p))

pub All-from_rows : (h : Heading) (ts : List Tuple) → AreRows (pack h) (pack_rows ts) → All (IsTupleOf h) ts
All-from_rows h [] a k d p = absurd (omega arith)
All-from_rows h (t ∷ ts) a zero d p = IsTupleOf-from h t (a.0.0, a.0.1) a.0.2
All-from_rows h (t ∷ ts) a (suc k) d p = All-from_rows h ts a.1 k d (omega arith)

-- lists of values, and of tuples, compare as lists do
pub parts_order-lists : (vs ws : List Val) → parts_cmp (pack_parts vs) (pack_parts ws) ≡ slice_cmp value_cmp vs ws
parts_order-lists [] [] = refl
parts_order-lists [] (w ∷ ws) = refl
parts_order-lists (v ∷ vs) [] = refl
parts_order-lists (v ∷ vs) (w ∷ ws) = ap (ordering_then (value_cmp v w)) (parts_order-lists vs ws)

pub rows_order-lists : (ss ts : List Tuple) → rows_cmp (pack_rows ss) (pack_rows ts) ≡ slice_cmp tuple_cmp ss ts
rows_order-lists [] [] = refl
rows_order-lists [] (t ∷ ts) = refl
rows_order-lists (s ∷ ss) [] = refl
rows_order-lists (s ∷ ss) (t ∷ ts) = ap (ordering_then (tuple_cmp s t)) (rows_order-lists ss ts)
