-- GROUP and WRAP give values of their static types, or are refused by dynamic causes alone.
use Rattle.std.proofs.Common.{◌≡◌, ◌∙◌, ◌++◌, ℕ, Bool, true, false, List, [], ◌∷◌, ap, map, refl, subst, sym}
use Rattle.std.specs.List.{Contains}
use Rattle.std.specs.Prelude.{◌&&◌, if◌then◌else◌, not}
use Rattle.td_algebra.specs.model.Operators.{projected_relation, restriction, new_attribute}
use Rattle.td_check.specs.model.OperatorTypes.{named_part, relation_if}
use Rattle.td_check.specs.laws.StaticLaws.{IsKnownHeading}
use Rattle.td_check.proofs.KnownLaws.{known_closed}
use Rattle.td_eval.proofs.code_lemmas.KeepsExtension.{typed_extended}
use Rattle.td_eval.proofs.code_lemmas.KeepsOperators.{typed_projected, typed_restriction}
use Rattle.td_algebra.proofs.Entries.{IsTuple-tuple_of, fields_append}
use Rattle.td_algebra.proofs.Extensions.{IsTupleOf-extended, extended_distinct}
use Rattle.td_algebra.proofs.Lists.{contains_map}
use Rattle.td_algebra.proofs.Projections.{IsTupleOf-projected}
use Rattle.td_algebra.proofs.Relations.{member_headed}
use Rattle.td_algebra.proofs.Results.{IsHeading-added, IsRelation-mapped}
use Rattle.td_check.proofs.OperatorLaws.{united}
use Rattle.td_eval.proofs.code_lemmas.KeepsGathered.{member_from_all}
use Rattle.td_eval.proofs.code_lemmas.KeepsRelations.{AreOwn, IsOwn, IsTypedRelation, all_filtered, all_joined, all_made, typed_heading, typed_set, value_from_typed}
use Rattle.td_eval.proofs.code_lemmas.NestedNames.{IsNamed, nest_test, part_is_named, rest_named, rest_told}
use Rattle.td_eval.specs.model.OperatorValues.{nested_names, of_relation}
use Rattle.td_eval.specs.laws.ValueTypes.{IsOfType, KeepsType}
use Rattle.td_group.specs.model.Nesting.{can_nest, group_of, grouped_relation, rest_heading, rest_names, wrapped_relation, wrapped_tuple}
use Rattle.td_tree.specs.declared.cause.Cause.TheVariants as causes
use Rattle.td_tree.specs.model.Names.{IsName}
use Rattle.td_tree.specs.model.Outcomes.{Outcome, Valued, Refused, value_if, with_value}
use Rattle.td_tree.specs.model.Trees.{Attributes}
use Rattle.td_types.specs.model.Headings.{extended_heading, has_attribute, has_name, heading_union, outside, projection, with_attribute}
use Rattle.td_types.proofs.HeadingLaws.{ascending_from_heading}
use Rattle.td_types.specs.model.TypeLists.{AreKnown, DeclaredType}
use Rattle.td_types.specs.model.Types.{Heading, IsHeading, Type', attribute_names, pack}
use Rattle.td_types.specs.model.Types as types
use Rattle.td_value.specs.model.Agreement.{agree_on}
use Rattle.td_value.specs.model.KnownValues.{HasType}
use Rattle.td_value.specs.model.Values.{IsRelation, IsTupleOf, Relation, Tuple, projected_tuple, relation_of, relation_value, tuple_value}
use Rattle.td_value.proofs.KnownValues.{by_values, has_its_type}

-- ---- attributes that are put into a new one

module _ (ds : List DeclaredType) where
  -- what is made of the names of a part, which the rest and the new attribute head
  abbrev pub IsMade : Heading → List ℕ → (Heading → Type') → (List (List ℕ) → Relation) → Type 0
  IsMade h name kind made =
      (part : Heading) → IsNamed h part → has_attribute name (outside part h) ≡ false
      → IsOfType ds (relation_value (made (attribute_names part))) (types.relation (pack (with_attribute (outside part h) (name, kind part))))

  pub nest_keeps : (attributes : Attributes) (h : Heading) (name : List ℕ) (kind : Heading → Type') (made : List (List ℕ) → Relation)
      → IsHeading (pack h) → IsMade h name kind made
      → KeepsType ds (with_value (named_part attributes h) (λ part. relation_if (extended_heading (outside part h) (name, kind part))))
      (with_value (nested_names attributes name h) (λ names. of_relation (made names)))
  nest_keeps attributes h name kind made p k = by_part (named_part attributes h) refl
    where
      by_name : (part : Heading) → IsNamed h part → (b : Bool) → has_attribute name (outside part h) ≡ b
          → KeepsType ds (relation_if (value_if (not b) (with_attribute (outside part h) (name, kind part)) causes.Heading))
          (with_value (value_if (not b) (attribute_names part) causes.Heading) (λ names. of_relation (made names)))
      by_name part is true e = tt
      by_name part is false e = k part is e

      by_part : (o : Outcome Heading) → named_part attributes h ≡ o
          → KeepsType ds (with_value o (λ part. relation_if (extended_heading (outside part h) (name, kind part))))
          (with_value (with_value o (λ part. value_if (can_nest (attribute_names part) name h) (attribute_names part) causes.Heading)) (λ names. of_relation (made names)))
      by_part (Refused cs) e = tt
      by_part (Valued part) e =
          let is = part_is_named attributes h part p e in
          subst (λ test. KeepsType ds (relation_if (extended_heading (outside part h) (name, kind part)))
          (with_value (value_if test (attribute_names part) causes.Heading) (λ names. of_relation (made names))))
          (sym (nest_test h part is name)) (by_name part is (has_attribute name (outside part h)) refl)

  -- its heading
  pub part_known : (names : List (List ℕ)) (r : Relation) → IsTypedRelation ds r → IsKnownHeading ds (projection names r.heading)
  part_known names r m = let c = known_closed ds in c.filtered (λ a. has_name a.0 names) r.heading (typed_heading ds r m)

-- the rest with the new attribute, by its names
pub nested_heading : (r : Relation) (part : Heading) (name : List ℕ) (kind : Heading → Type') → IsHeading (pack r.heading) → IsNamed r.heading part
    → has_attribute name (outside part r.heading) ≡ false
    → with_attribute (projection (rest_names (attribute_names part) r) r.heading) (name, kind (projection (attribute_names part) r.heading))
    ≡ with_attribute (outside part r.heading) (name, kind part)
nested_heading r part name kind p is lacks = λ i. with_attribute (rest_told r part p is i) (name, kind (is.0 i))

-- ---- GROUP

module _ (ds : List DeclaredType) (name : List ℕ) (n : IsName name) (r : Relation) (m : IsTypedRelation ds r) where
  -- the relation that a group is
  group_typed : (names : List (List ℕ)) (t : Tuple) → IsOfType ds (relation_value (group_of names r t)) (types.relation (pack (projection names r.heading)))
  group_typed names t =
      let others = restriction (agree_on (rest_names names r) t) r in
      value_from_typed ds (projected_relation names others)
      (typed_projected ds names others (typed_restriction ds (agree_on (rest_names names r) t) r m))

  pub typed_grouped : (names : List (List ℕ)) → has_attribute name (projection (rest_names names r) r.heading) ≡ false
      → IsTypedRelation ds (grouped_relation names name r)
  typed_grouped names lacks =
      let kind = types.relation (pack (projection names r.heading)) in
      let known = part_known ds names r m in
      let typed = λ (u : Tuple). group_typed names u in
      typed_extended ds (projected_relation (rest_names names r) r) ((name, kind) ∷ [])
      (new_attribute name kind (λ t. relation_value (group_of names r t)) ∷ []) refl
      (refl, ap (λ b. not b && true) lacks) ((n, known.0, known.1), tt)
      (((n, known.0, λ u c. ((typed u).0, has_its_type ds (relation_value (group_of names r u)) kind (typed u).1)), λ u c. typed u), tt)
      (typed_projected ds (rest_names names r) r m)

  pub grouped_made : IsMade ds r.heading name (λ part. types.relation (pack part)) (λ names. grouped_relation names name r)
  grouped_made part is lacks =
      let names = attribute_names part in
      let p = (typed_heading ds r m).0 in
      let rest = rest_told r part p is in
      let absent = ap (has_attribute name) rest ∙ lacks in
      subst (λ g. IsOfType ds (relation_value (grouped_relation names name r)) (types.relation (pack g)))
      (ap (λ b. if b then projection (rest_names names r) r.heading
      else with_attribute (projection (rest_names names r) r.heading) (name, types.relation (pack (projection names r.heading)))) absent
      ∙ nested_heading r part name (λ g. types.relation (pack g)) p is lacks)
      (value_from_typed ds (grouped_relation names name r) (typed_grouped names absent))

-- ---- WRAP

module _ (ds : List DeclaredType) (name : List ℕ) (n : IsName name) (r : Relation) (m : IsTypedRelation ds r) where
  -- the tuple that a part is
  part_typed : (names : List (List ℕ)) (t : Tuple) → Contains r.body t
      → IsOfType ds (tuple_value (projected_tuple names t)) (types.tuple (pack (projection names r.heading)))
  part_typed names t c =
      let headed = IsTupleOf-projected names r.heading t (member_headed r t m.is_relation c) in
      let own = all_filtered (IsOwn ds) (λ e. has_name e.0 names) t (m.rows t c) in (
        headed.0,
        (
          pack (projection names r.heading),
          refl,
          (by_values ds (projected_tuple names t) (projection names r.heading)).1 (headed.1, member_from_all (IsOwn ds) (projected_tuple names t) own),
        ),
      )

  typed_wrapped : (names : List (List ℕ)) → has_attribute name (projection (rest_names names r) r.heading) ≡ false
      → IsTypedRelation ds (wrapped_relation names name r)
  typed_wrapped names lacks =
      typed_set ds heading (map (wrapped_tuple names name r) r.body) (subst (λ g. IsRelation (relation_of g (map (wrapped_tuple names name r) r.body))) same relation_is)
      (subst (λ g. AreKnown ds (pack g)) same (united (known_closed ds) rest added rest_known ((n, (known.0, known.1)), tt)).1)
      (λ y c. let d = (contains_map (wrapped_tuple names name r) r.body y).0 c in subst (AreOwn ds) d.2 (own d.0 d.1))
    where
      kind : Type'
      kind = types.tuple (pack (projection names r.heading))

      known : IsKnownHeading ds (projection names r.heading)
      known = part_known ds names r m

      rest : Heading
      rest = projection (rest_names names r) r.heading

      rest_known : IsKnownHeading ds rest
      rest_known = part_known ds (rest_names names r) r m

      added : Heading
      added = (name, kind) ∷ []

      heading : Heading
      heading = with_attribute (rest_heading names r.heading) (name, kind)

      same : heading_union rest added ≡ heading
      same =
          ap (λ b. if b then rest else with_attribute rest (name, kind)) lacks
          ∙ ap (λ g. with_attribute g (name, kind)) (rest_named (projection names r.heading) r.heading (ascending_from_heading r.heading (typed_heading ds r m).0))

      headed : (t : Tuple) → Contains r.body t → IsTupleOf (heading_union rest added) (wrapped_tuple names name r t)
      headed t c =
          let v = tuple_value (projected_tuple names t) in
          let typed = part_typed names t c in
          let bs = new_attribute name kind (λ _. v) ∷ [] in
          let front = projected_tuple (rest_names names r) t in
          let p = IsTupleOf-projected (rest_names names r) r.heading t (member_headed r t m.is_relation c) in
          let new = ap (λ b. not b && true) lacks in
          IsTupleOf-extended bs rest front p refl new
          (IsTuple-tuple_of (front ++ (name, v) ∷ []) (fields_append front ((name, v) ∷ []) p.0.0 (n, typed.0, tt)) (extended_distinct bs rest front p refl new))
          (has_its_type ds v kind typed.1, tt) (IsHeading-added rest added rest_known.0 ((n, known.0), tt))

      relation_is : IsRelation (relation_of (heading_union rest added) (map (wrapped_tuple names name r) r.body))
      relation_is = IsRelation-mapped (heading_union rest added) (wrapped_tuple names name r) r (IsHeading-added rest added rest_known.0 ((n, known.0), tt)) headed

      own : (t : Tuple) → Contains r.body t → AreOwn ds (wrapped_tuple names name r t)
      own t c =
          let v = tuple_value (projected_tuple names t) in
          let typed = part_typed names t c in
          let front = projected_tuple (rest_names names r) t in
          all_made (IsOwn ds) (front ++ (name, v) ∷ [])
          (all_joined (IsOwn ds) front ((name, v) ∷ []) (all_filtered (IsOwn ds) (λ e. has_name e.0 (rest_names names r)) t (m.rows t c))
          (subst (HasType ds v) (sym (has_its_type ds v kind typed.1)) typed.1, tt))

  pub wrapped_made : IsMade ds r.heading name (λ part. types.tuple (pack part)) (λ names. wrapped_relation names name r)
  wrapped_made part is lacks =
      let names = attribute_names part in
      let absent = ap (has_attribute name) (rest_told r part (typed_heading ds r m).0 is) ∙ lacks in
      subst (λ g. IsOfType ds (relation_value (wrapped_relation names name r)) (types.relation (pack g)))
      (λ i. with_attribute (outside (is.0 i) r.heading) (name, types.tuple (pack (is.0 i))))
      (value_from_typed ds (wrapped_relation names name r) (typed_wrapped names absent))
