-- The heading of a tuple, built by adding one attribute after another.
use Rattle.std.proofs.Common.{◌≡◌, ◌∙◌, ◌+◌, ◌<◌, ap, sym, refl, subst, arith, false, ℕ, List, [], ◌∷◌, ◌++◌, length, get_or, drop, take}
use Rattle.std.specs.declared.cmp.Ordering.TheVariants.{Less, Greater}
use Rattle.std.specs.Cmp.Lexicographic.{texts_ties}
use Rattle.std.specs.Ordering.{ordering_reverse}
use Rattle.std.specs.List.{AllByRecursion}
use Rattle.std.specs.List.Sorted.{IsStrictlySortedBy}
use Rattle.std.specs.FinMap.Entries.{put}
use Rattle.std.proofs.lemmas.Cmp.{nat_list_cmp_total}
use Rattle.std.proofs.lemmas.List.{at_drop_more, length-take, map-append, take-append-drop, take_more}
use Rattle.td_types.specs.model.Types.{Type', attr, pack}
use Rattle.td_types.specs.model.Headings.{has_attribute, with_attribute}
use Rattle.td_value.specs.model.Values.{Val, Tuple, fields_type, heading_of, pack_fields, type_of}
use Rattle.td_value.specs.code.Views.{tuple_view}
use Rattle.td_types.proofs.DistinctNames.{name_cmp}

pub fields_type-heading : (es : Tuple) → fields_type (pack_fields es) ≡ pack (heading_of es)
fields_type-heading [] = refl
fields_type-heading (e ∷ es) = ap (attr e.0 (type_of e.1)) (fields_type-heading es)

-- an attribute whose name is above all others goes to the end
last_of : (n : List ℕ) (t : Type') (ns : List (List ℕ)) (vs : List Val) → length ns ≡ length vs → AllByRecursion (λ m. name_cmp n m ≡ Greater) ns
    → put name_cmp n t (heading_of (tuple_view ns vs)) ≡ heading_of (tuple_view ns vs) ++ (n, t) ∷ []
last_of n t [] vs e h = refl
last_of n t (m ∷ ns) [] e h = absurd (omega (arith, e))
last_of n t (m ∷ ns) (v ∷ vs) e h = rw h.0 (ap (λ r. (m, type_of v) ∷ r) (last_of n t ns vs (omega (arith, e)) h.1))

above_front : (fs : List (List ℕ)) (n : List ℕ) (bs : List (List ℕ)) → IsStrictlySortedBy name_cmp (fs ++ n ∷ bs) → AllByRecursion (λ m. name_cmp n m ≡ Greater) fs
unfolding IsStrictlySortedBy
above_front [] n bs h = tt
above_front (a ∷ fs) n bs h =
    (nat_list_cmp_total.antisymm n a ∙ ap ordering_reverse (in_middle fs h.0), above_front fs n bs h.1)
  where
    in_middle : (cs : List (List ℕ)) → AllByRecursion (λ y. name_cmp a y ≡ Less) (cs ++ n ∷ bs) → name_cmp a n ≡ Less
    in_middle [] g = g.0
    in_middle (c ∷ cs) g = in_middle cs g.1

-- the names before a place are below the one at it
before : (ns : List (List ℕ)) (i : ℕ) (n : List ℕ) → i < length ns → n ≡ get_or ns i n → IsStrictlySortedBy name_cmp ns
    → AllByRecursion (λ m. name_cmp n m ≡ Greater) (take i ns)
before ns i n k p h =
    let rest : drop i ns ≡ n ∷ drop (i + 1) ns = at_drop_more (λ r. r) ns i n k ∙ ap (λ x. x ∷ drop (i + 1) ns) (sym p) in
    let whole : ns ≡ take i ns ++ n ∷ drop (i + 1) ns = sym (take-append-drop i ns) ∙ ap (λ r. take i ns ++ r) rest in
    above_front (take i ns) n (drop (i + 1) ns) (subst (IsStrictlySortedBy name_cmp) whole h)

lacks_above : (n : List ℕ) (ns : List (List ℕ)) (vs : List Val) → AllByRecursion (λ m. name_cmp n m ≡ Greater) ns
    → has_attribute n (heading_of (tuple_view ns vs)) ≡ false
lacks_above n [] vs h = refl
lacks_above n (m ∷ ns) [] h = refl
lacks_above n (m ∷ ns) (v ∷ vs) h = rw (texts_ties m n, nat_list_cmp_total.antisymm m n, h.0) (lacks_above n ns vs h.1)

-- the heading of the attributes before a place lacks the name at it
pub heading_lacks : (ns : List (List ℕ)) (vs : List Val) (i : ℕ) (n : List ℕ) → i < length ns → n ≡ get_or ns i n
    → IsStrictlySortedBy name_cmp ns → has_attribute n (heading_of (tuple_view (take i ns) (take i vs))) ≡ false
heading_lacks ns vs i n k p h = lacks_above n (take i ns) (take i vs) (before ns i n k p h)

pub zip-append : (ns : List (List ℕ)) (vs : List Val) (n : List ℕ) (v : Val) → length ns ≡ length vs → tuple_view (ns ++ n ∷ []) (vs ++ v ∷ []) ≡ tuple_view ns vs ++ (n, v) ∷ []
zip-append [] [] n v e = refl
zip-append [] (w ∷ vs) n v e = absurd (omega (arith, e))
zip-append (m ∷ ns) [] n v e = absurd (omega (arith, e))
zip-append (m ∷ ns) (w ∷ vs) n v e = ap (λ r. (m, w) ∷ r) (zip-append ns vs n v (omega (arith, e)))

-- one more attribute
pub heading_more : (ns : List (List ℕ)) (vs : List Val) (i : ℕ) (n : List ℕ) (v : Val) → length ns ≡ length vs → i < length vs
    → n ≡ get_or ns i n → v ≡ get_or vs i v → IsStrictlySortedBy name_cmp ns
    → with_attribute (heading_of (tuple_view (take i ns) (take i vs))) (n, type_of v) ≡ heading_of (tuple_view (take (i + 1) ns) (take (i + 1) vs))
heading_more ns vs i n v e k p q h =
    let names : take (i + 1) ns ≡ take i ns ++ n ∷ [] = take_more ns i n (omega (arith, e, k)) ∙ ap (λ x. take i ns ++ x ∷ []) (sym p) in
    let values : take (i + 1) vs ≡ take i vs ++ v ∷ [] = take_more vs i v k ∙ ap (λ x. take i vs ++ x ∷ []) (sym q) in
    let same : length (take i ns) ≡ length (take i vs) = omega (arith, length-take i ns, length-take i vs, e) in
    let above = before ns i n (omega (arith, e, k)) p h in
    rw (names, values) (last_of n (type_of v) (take i ns) (take i vs) same above
    ∙ sym (ap heading_of (zip-append (take i ns) (take i vs) n v same) ∙ map-append (λ (f : List ℕ × Val). (f.0, type_of f.1)) (tuple_view (take i ns) (take i vs)) ((n, v) ∷ [])))
