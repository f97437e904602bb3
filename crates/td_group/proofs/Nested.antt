-- The rows of WRAP, UNGROUP and UNWRAP have the headings of their results.
use Rattle.std.proofs.Common.{◌≡◌, ◌∙◌, ap, sym, refl, subst, ℕ, Bool, true, false, List, [], ◌∷◌, ◌++◌, Option, None, Some, inl, inr, map, true≢false, ◌⊎◌}
use Rattle.std.specs.Prelude.{IsTrue, if◌then◌else◌, is_some, not, option_map}
use Rattle.std.specs.List.{All, Contains, flat_map}
use Rattle.std.proofs.lemmas.List.Elements.{All-contains}
use Rattle.td_types.specs.model.Headings.{are_distinct, has_attribute, has_projection, heading_union, projection, with_attribute, without_attribute}
use Rattle.td_types.specs.model.Types.{Heading, IsHeading, Type', attribute_names, pack, same_name, unpack}
use Rattle.td_types.specs.model.Types as types
use Rattle.td_types.proofs.HeadingLaws.{IsHeading-filter, has_attribute-names}
use Rattle.td_types.proofs.Meanings.{pack_unpack}
use Rattle.td_value.specs.model.Values.{AreRows, IsTupleOf, IsValue, Relation, Tuple, Val, boolean, char, fields_type, integer, projected_tuple, relation, tuple, tuple_of, tuple_value, type_of, unpack_fields, unpack_rows, user, value_at}
use Rattle.td_value.proofs.HeadingOf.{fields_type-heading}
use Rattle.td_value.proofs.Packed.{pack_unpack_fields, pack_unpack_rows}
use Rattle.td_value.proofs.Rows.{All-from_rows, IsTupleOf-from}
use Rattle.td_algebra.proofs.Entries.{HaveValues, heading_distinct, names_apart, typed_values, values_of_fields}
use Rattle.td_algebra.proofs.Lists.{contains_cases, contains_flat_map, contains_map, contains_none}
use Rattle.td_algebra.proofs.Members.{second_true}
use Rattle.td_algebra.proofs.Projections.{IsTupleOf-projected}
use Rattle.td_algebra.proofs.Relations.{All-from_members}
use Rattle.td_group.specs.model.Nesting.{can_nest, can_unnest, heading_inside, inner_heading, is_relation_type, is_tuple_type, names_without, rest_heading, rest_names, tuples_inside, unnested_tuples, wrapped_tuple}
use Rattle.td_group.proofs.Apart.{entry_headed, joined_headed, other_name}
use Rattle.td_group.proofs.Rests.{rest_headed}

-- ---- WRAP

-- the tuple of a tuple has the type of the heading's part
pub part_typed : (names : List (List ℕ)) (h : Heading) (t : Tuple) → IsTupleOf h t → type_of (tuple_value (projected_tuple names t)) ≡ types.tuple (pack (projection names h))
part_typed names h t p =
    ap types.tuple (fields_type-heading (projected_tuple names t) ∙ ap pack (IsTupleOf-projected names h t p).1)

lacked : (b : Bool) → not b ≡ true → b ≡ false
lacked true e = absurd (true≢false (sym e))
lacked false e = refl

abbrev wrapped_heading : List (List ℕ) → List ℕ → Relation → Heading
wrapped_heading names name r = with_attribute (rest_heading names r.heading) (name, types.tuple (pack (projection names r.heading)))

pub wrapped_headed : (names : List (List ℕ)) (name : List ℕ) (r : Relation) → All (IsTupleOf r.heading) r.body → IsTrue (can_nest names name r.heading)
    → IsHeading (pack (wrapped_heading names name r)) → All (IsTupleOf (wrapped_heading names name r)) (map (wrapped_tuple names name r) r.body)
wrapped_headed names name r all can w =
    All-from_members (IsTupleOf (wrapped_heading names name r)) (map (wrapped_tuple names name r) r.body) headed
  where
    headed : (y : Tuple) → Contains (map (wrapped_tuple names name r) r.body) y → IsTupleOf (wrapped_heading names name r) y
    headed y c =
        let p = (contains_map (wrapped_tuple names name r) r.body y).0 c in
        let t = p.0 in
        let has : IsTupleOf r.heading t = All-contains (IsTupleOf r.heading) r.body t all p.1 in
        subst (IsTupleOf (wrapped_heading names name r)) p.2
        (entry_headed (rest_heading names r.heading) (projected_tuple (rest_names names r) t) name (tuple_value (projected_tuple names t)) (types.tuple (pack (projection names r.heading)))
        (rest_headed (λ n. not (has_attribute n (projection names r.heading))) r.heading t has)
        (lacked (has_attribute name (rest_heading names r.heading)) (second_true (has_projection names r.heading) (not (has_attribute name (rest_heading names r.heading))) can)) (IsTupleOf-projected names r.heading t has).0 (part_typed names r.heading t has) w)

-- the names of the rest and the new one are distinct
pub wrapped_distinct : (names : List (List ℕ)) (name : List ℕ) (h : Heading) → IsHeading (pack h) → IsTrue (can_nest names name h)
    → are_distinct (attribute_names (rest_heading names h) ++ name ∷ []) ≡ true
wrapped_distinct names name h p can =
    let rest = rest_heading names h in
    let new : has_attribute name rest ≡ false = lacked (has_attribute name rest) (second_true (has_projection names h) (not (has_attribute name rest)) can) in
    names_apart (attribute_names rest) (name ∷ []) (heading_distinct rest (IsHeading-filter (λ a. not (has_attribute a.0 (projection names h))) h p)) refl
    (λ n there. other_name rest name new n (has_attribute-names n rest ∙ there) (same_name name n) refl)

-- ---- UNGROUP and UNWRAP

-- the values of a tuple are values
pub value_in : (name : List ℕ) (t : Tuple) (v : Val) → HaveValues t → value_at name t ≡ Some v → IsValue v
value_in name [] v h e = absurd (cc)
value_in name (f ∷ t) v h e = by_name (value_in name t v h.1) (same_name f.0 name) e
  where
    some_is : (u : Val) → Some u ≡ Some v → u ≡ v
    some_is u q = cc

    by_name : (value_at name t ≡ Some v → IsValue v) → (b : Bool) → (if b then Some f.1 else value_at name t) ≡ Some v → IsValue v
    by_name rest true q = subst IsValue (some_is f.1 q) h.0
    by_name rest false q = rest q

-- the tuples inside a value have the heading that is inside its type
inside_value : (v : Val) → IsValue v → (y : Tuple) → Contains (tuples_inside (Some v)) y → IsTupleOf (heading_inside (Some (type_of v))) y
inside_value (boolean b) p y c = absurd (contains_none y c)
inside_value (integer z) p y c = absurd (contains_none y c)
inside_value (char s) p y c = absurd (contains_none y c)
inside_value (user n ps) p y c = absurd (contains_none y c)
inside_value (tuple fs) p y c = by_case (contains_cases (unpack_fields fs) [] y c)
  where
    own : IsTupleOf (unpack (fields_type fs)) (unpack_fields fs)
    own =
        IsTupleOf-from (unpack (fields_type fs)) (unpack_fields fs) (subst (λ gs. IsValue (tuple gs)) (sym (pack_unpack_fields fs)) p)
        (ap fields_type (pack_unpack_fields fs) ∙ sym (pack_unpack (fields_type fs)))

    by_case : (unpack_fields fs ≡ y) ⊎ Contains [] y → IsTupleOf (unpack (fields_type fs)) y
    by_case (inl is) = subst (IsTupleOf (unpack (fields_type fs))) is own
    by_case (inr none) = absurd (contains_none y none)
inside_value (relation xs rs) p y c =
    All-contains (IsTupleOf (unpack xs)) (unpack_rows rs) y
    (All-from_rows (unpack xs) (unpack_rows rs) (subst (AreRows (pack (unpack xs))) (sym (pack_unpack_rows rs)) (subst (λ h. AreRows h rs) (sym (pack_unpack xs)) p.0))) c

pub inside_headed : (name : List ℕ) (h : Heading) (u y : Tuple) → IsTupleOf h u → Contains (tuples_inside (value_at name u)) y → IsTupleOf (inner_heading name h) y
inside_headed name h u y p c =
    subst (λ o. IsTupleOf (heading_inside o) y) (typed_values h u p name) (by_value (value_at name u) refl c)
  where
    by_value : (o : Option Val) → value_at name u ≡ o → Contains (tuples_inside o) y → IsTupleOf (heading_inside (option_map type_of o)) y
    by_value None e d = absurd (contains_none y d)
    by_value (Some v) e d = inside_value v (value_in name u v (values_of_fields u p.0.0) e) y d

abbrev unnested_heading : List ℕ → Relation → Heading
unnested_heading name r = heading_union (without_attribute name r.heading) (inner_heading name r.heading)

pub unnested_headed : (name : List ℕ) (r : Relation) → All (IsTupleOf r.heading) r.body → IsTrue (can_unnest name r.heading)
    → All (IsTupleOf (unnested_heading name r)) (flat_map (unnested_tuples name r) r.body)
unnested_headed name r all can =
    All-from_members (IsTupleOf (unnested_heading name r)) (flat_map (unnested_tuples name r) r.body) headed
  where
    headed : (y : Tuple) → Contains (flat_map (unnested_tuples name r) r.body) y → IsTupleOf (unnested_heading name r) y
    headed y c =
        let p = (contains_flat_map (unnested_tuples name r) r.body y).0 c in
        let u = p.0 in
        let has : IsTupleOf r.heading u = All-contains (IsTupleOf r.heading) r.body u all p.1 in
        let q = (contains_map (λ x. tuple_of (projected_tuple (names_without name r) u ++ x)) (tuples_inside (value_at name u)) y).0 p.2 in
        subst (IsTupleOf (unnested_heading name r)) q.2
        (joined_headed (without_attribute name r.heading) (inner_heading name r.heading) (projected_tuple (names_without name r) u) q.0
        (rest_headed (λ n. not (same_name n name)) r.heading u has) (inside_headed name r.heading u q.0 has q.1) can)

-- an attribute of a relation type, or of a tuple type, is there
pub there_of_relations : (t : Option Type') → is_relation_type t ≡ true → is_some t ≡ true
there_of_relations None e = absurd (true≢false (sym e))
there_of_relations (Some t) e = refl

pub there_of_tuples : (t : Option Type') → is_tuple_type t ≡ true → is_some t ≡ true
there_of_tuples None e = absurd (true≢false (sym e))
there_of_tuples (Some t) e = refl
