-- UNGROUP and UNWRAP give values of their static types, or are refused by dynamic causes alone.
use Rattle.std.proofs.Common.{◌≡◌, ◌∙◌, ◌++◌, ◌⊎◌, inl, inr, ℕ, Bool, true, false, List, [], ◌∷◌, None, Option, Some, ap, refl, subst, sym}
use Rattle.std.specs.Prelude.{if◌then◌else◌, not}
use Rattle.std.specs.List.{Contains, flat_map}
use Rattle.td_algebra.proofs.Lists.{contains_cases, contains_flat_map, contains_map, contains_none}
use Rattle.td_algebra.proofs.Relations.{IsRelation-relation_of, rows_headed}
use Rattle.td_check.specs.model.OperatorTypes.{attribute_type, joined_apart, known_or, over_relation, over_tuple, relation_if}
use Rattle.td_check.specs.laws.StaticLaws.{IsKnownHeading}
use Rattle.td_check.proofs.KnownLaws.{known_closed}
use Rattle.td_check.proofs.OperatorLaws.{all_fit, type_fits, united}
use Rattle.td_eval.proofs.code_lemmas.KeepsRelations.{AreOwn, IsOwn, IsTypedRelation, all_filtered, all_joined, all_made, heading_if_keeps, typed_heading, typed_set}
use Rattle.td_eval.specs.model.OperatorValues.{relation_where}
use Rattle.td_eval.specs.laws.ValueTypes.{KeepsType}
use Rattle.td_group.proofs.Nested.{unnested_headed}
use Rattle.td_group.specs.model.Nesting.{can_unnest, inner_heading, heading_inside, names_without, tuples_inside, unnested_relation, unnested_tuples}
use Rattle.td_tree.specs.declared.cause.Cause.TheVariants as causes
use Rattle.td_tree.specs.model.Outcomes.{Outcome, with_value}
use Rattle.td_types.specs.model.Headings.{has_name, heading_union, without_attribute}
use Rattle.td_types.specs.model.TypeLists.{DeclaredType}
use Rattle.td_types.specs.model.Types.{Attrs, Heading, Type', attr, no_attrs, same_name, type_at, unpack}
use Rattle.td_types.specs.model.Types as types
use Rattle.td_value.specs.model.KnownValues.{HasHeading, HasType, HaveHeading}
use Rattle.td_value.specs.model.Values.{Val, boolean, integer, char, user, tuple, relation, Fields, no_fields, field, Rows, no_rows, row, Relation, Tuple, projected_tuple, tuple_of, type_of, unpack_fields, unpack_rows, value_at}
use Rattle.td_value.proofs.KnownValues.{has_its_type}

module _ (ds : List DeclaredType) where
  -- ---- the tuples inside a value

  own_value : (name : List ℕ) (t : Tuple) (v : Val) → AreOwn ds t → value_at name t ≡ Some v → HasType ds v (type_of v)
  own_value name [] v h e = absurd (cc)
  own_value name (f ∷ t) v h e = by_name (own_value name t v h.1) (same_name f.0 name) e
    where
      some_is : (u : Val) → Some u ≡ Some v → u ≡ v
      some_is u q = cc

      by_name : (value_at name t ≡ Some v → HasType ds v (type_of v)) → (b : Bool) → (if b then Some f.1 else value_at name t) ≡ Some v
          → HasType ds v (type_of v)
      by_name rest true q = subst (λ (w : Val). HasType ds w (type_of w)) (some_is f.1 q) h.0
      by_name rest false q = rest q

  own_fields : (fs : Fields) (h : Attrs) → HasHeading ds fs h → AreOwn ds (unpack_fields fs)
  own_fields no_fields h q = tt
  own_fields (field n v fs) no_attrs q = absurd q
  own_fields (field n v fs) (attr m t rest) q = (subst (HasType ds v) (sym (has_its_type ds v t q.1)) q.1, own_fields fs rest q.2)

  own_rows : (rs : Rows) (h : Attrs) → HaveHeading ds rs h → (x : Tuple) → Contains (unpack_rows rs) x → AreOwn ds x
  own_rows no_rows h q x c = absurd (contains_none x c)
  own_rows (row fs rs) h q x c = by_case (own_rows rs h q.1 x) (contains_cases (unpack_fields fs) (unpack_rows rs) x c)
    where
      by_case : (Contains (unpack_rows rs) x → AreOwn ds x) → (unpack_fields fs ≡ x) ⊎ Contains (unpack_rows rs) x → AreOwn ds x
      by_case rest (inl is) = subst (AreOwn ds) is (own_fields fs h q.0)
      by_case rest (inr d) = rest d

  -- the tuples inside a value of its type have values of theirs
  own_inside : (v : Val) → HasType ds v (type_of v) → (x : Tuple) → Contains (tuples_inside (Some v)) x → AreOwn ds x
  own_inside (boolean b) h x c = absurd (contains_none x c)
  own_inside (integer z) h x c = absurd (contains_none x c)
  own_inside (char s) h x c = absurd (contains_none x c)
  own_inside (user n ps) h x c = absurd (contains_none x c)
  own_inside (tuple fs) h x c = own_rows (row fs no_rows) h.0 (h.2, tt) x c
  own_inside (relation g rs) h x c = own_rows rs g h.2 x c

  own_part : (name : List ℕ) (u : Tuple) → AreOwn ds u → (x : Tuple) → Contains (tuples_inside (value_at name u)) x → AreOwn ds x
  own_part name u h x c = by_value (value_at name u) refl c
    where
      by_value : (o : Option Val) → value_at name u ≡ o → Contains (tuples_inside o) x → AreOwn ds x
      by_value None e d = absurd (contains_none x d)
      by_value (Some v) e d = own_inside v (own_value name u v h e) x d

  module _ (name : List ℕ) (r : Relation) (m : IsTypedRelation ds r) where
    -- ---- the result

    own_unnested : (y : Tuple) → Contains (flat_map (unnested_tuples name r) r.body) y → AreOwn ds y
    own_unnested y c =
        let d = (contains_flat_map (unnested_tuples name r) r.body y).0 c in
        let e = (contains_map (λ x. tuple_of (projected_tuple (names_without name r) d.0 ++ x)) (tuples_inside (value_at name d.0)) y).0 d.2 in
        let own = m.rows d.0 d.1 in
        subst (AreOwn ds) e.2
        (all_made (IsOwn ds) (projected_tuple (names_without name r) d.0 ++ e.0)
        (all_joined (IsOwn ds) (projected_tuple (names_without name r) d.0) e.0
        (all_filtered (IsOwn ds) (λ f. has_name f.0 (names_without name r)) d.0 own) (own_part name d.0 own e.0 e.1)))

    typed_unnested : IsKnownHeading ds (inner_heading name r.heading) → can_unnest name r.heading ≡ true → IsTypedRelation ds (unnested_relation name r)
    typed_unnested inner can =
        let c = known_closed ds in
        let rest = c.filtered (λ a. not (same_name a.0 name)) r.heading (typed_heading ds r m) in
        let whole = united c (without_attribute name r.heading) (inner_heading name r.heading) rest (all_fit c (inner_heading name r.heading) inner) in
        let heading = heading_union (without_attribute name r.heading) (inner_heading name r.heading) in
        let tuples = flat_map (unnested_tuples name r) r.body in
        typed_set ds heading tuples
        (IsRelation-relation_of heading tuples whole.0 (unnested_headed name r (rows_headed r m.is_relation) can)) whole.1 own_unnested

    -- ---- by the attribute's type

    abbrev TypeIf : Heading → Outcome Type'
    TypeIf part = relation_if (joined_apart (without_attribute name r.heading) part)

    abbrev ValueIf : Outcome Val
    ValueIf = relation_where (can_unnest name r.heading) (unnested_relation name r)

    -- a type of relations or of tuples that the attribute has
    inner_keeps : (s : Type') (part : Heading) → type_at name r.heading ≡ Some s → heading_inside (Some s) ≡ part → IsKnownHeading ds part
        → KeepsType ds (TypeIf part) ValueIf
    inner_keeps s part e inside known =
        let inner : inner_heading name r.heading ≡ part = ap heading_inside e ∙ inside in
        subst (λ g. KeepsType ds (TypeIf g) ValueIf) inner
        (heading_if_keeps ds (can_unnest name r.heading) (unnested_relation name r).heading causes.Heading (unnested_relation name r) refl
        (typed_unnested (subst (IsKnownHeading ds) (sym inner) known)))

    pub ungroup_keeps : KeepsType ds (with_value (attribute_type name r.heading) (λ s. over_relation s TypeIf))
        (with_value (attribute_type name r.heading) (λ s. over_relation s (λ part. ValueIf)))
    ungroup_keeps = by_type (type_at name r.heading) refl
      where
        by_type : (o : Option Type') → type_at name r.heading ≡ o
            → KeepsType ds (with_value (known_or causes.Heading o) (λ s. over_relation s TypeIf))
            (with_value (known_or causes.Heading o) (λ s. over_relation s (λ part. ValueIf)))
        by_type None e = tt
        by_type (Some (types.relation xs)) e =
            let c = known_closed ds in
            inner_keeps (types.relation xs) (unpack xs) e refl (c.in_relation xs (type_fits c name (types.relation xs) r.heading (typed_heading ds r m) e))
        by_type (Some _) e = tt

    pub unwrap_keeps : KeepsType ds (with_value (attribute_type name r.heading) (λ s. over_tuple s TypeIf))
        (with_value (attribute_type name r.heading) (λ s. over_tuple s (λ part. ValueIf)))
    unwrap_keeps = by_type (type_at name r.heading) refl
      where
        by_type : (o : Option Type') → type_at name r.heading ≡ o
            → KeepsType ds (with_value (known_or causes.Heading o) (λ s. over_tuple s TypeIf))
            (with_value (known_or causes.Heading o) (λ s. over_tuple s (λ part. ValueIf)))
        by_type None e = tt
        by_type (Some (types.tuple xs)) e =
            let c = known_closed ds in
            inner_keeps (types.tuple xs) (unpack xs) e refl (c.in_tuple xs (type_fits c name (types.tuple xs) r.heading (typed_heading ds r m) e))
        by_type (Some _) e = tt
