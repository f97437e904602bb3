-- The operators between two relations give values of their static types, or are refused by dynamic causes alone.
use Rattle.std.proofs.Common.{◌≡◌, ◌∙◌, ◌++◌, ◌⊎◌, inl, inr, ℕ, Bool, true, false, List, None, Option, Some, ap, filter, map, refl, subst, sym}
use Rattle.std.specs.Prelude.{if◌then◌else◌, is_some, not}
use Rattle.std.specs.List.{Contains, flat_map}
use Rattle.std.proofs.lemmas.List.Elements.{Contains-append_cases}
use Rattle.td_tree.specs.declared.cause.Cause.{Cause}
use Rattle.td_tree.specs.declared.cause.Cause.TheVariants as causes
use Rattle.td_tree.specs.declared.operator.Operator.TheVariants as operators
use Rattle.td_tree.specs.model.Outcomes.{Outcome, value_if, with_value}
use Rattle.td_types.specs.model.Headings.{agree, common_part, has_attribute, has_name, have_no_common, heading_union, outside, projection}
use Rattle.td_types.specs.model.TypeLists.{AreKnown, DeclaredType}
use Rattle.td_types.specs.code.TypeOrder.{heading_eq-Decides}
use Rattle.td_types.specs.model.Types.{Attribute, Heading, IsAscending, Type', pack, type_at}
use Rattle.td_types.specs.model.Types as types
use Rattle.td_types.proofs.HeadingLaws.{IsAscending-filter, ascending_from_heading, type_at-common, type_at-outside, types_determine_heading}
use Rattle.td_check.specs.model.OperatorTypes.{operator_type, same_heading}
use Rattle.td_check.specs.laws.StaticLaws.{IsKnownHeading}
use Rattle.td_check.proofs.KnownLaws.{known_closed}
use Rattle.td_check.proofs.OperatorLaws.{all_fit, united}
use Rattle.td_value.specs.model.Values.{Val, Relation, Tuple, projected_tuple, relation_value, tuple_names}
use Rattle.td_algebra.specs.model.Operators.{are_partners, composition, difference, intersection, is_disjoint, is_subset, join, own_names, product, projected_relation, restriction, semidifference, semijoin, union, united_tuple}
use Rattle.td_algebra.proofs.Composed.{composed_heading_is}
use Rattle.td_algebra.proofs.Lists.{contains_filter, contains_flat_map, contains_map}
use Rattle.td_algebra.proofs.Relations.{IsRelation-restriction}
use Rattle.td_algebra.proofs.Results.{IsRelation-projected, IsRelation-union, IsRelation-united}
use Rattle.td_algebra.proofs.United.{others}
use Rattle.td_eval.specs.model.OperatorValues.{disjoint_union, included_difference, of_relation, operator_value}
use Rattle.td_eval.specs.laws.ValueTypes.{IsDynamic, IsOfType, KeepsType}
use Rattle.td_eval.proofs.code_lemmas.KeepsGathered.{Keeps, keeps_type, one_dynamic, with_value_keeps}
use Rattle.td_eval.proofs.code_lemmas.KeepsRelations.{AreOwn, IsOwn, IsTypedRelation, all_filtered, all_joined, all_made, heading_if_keeps, made_if_keeps, over_relations_keeps, type_if_keeps, typed_heading, typed_set, value_from_typed}

module _ (ds : List DeclaredType) where
  -- ---- the results

  pub typed_restriction : (p : Tuple → Bool) (r : Relation) → IsTypedRelation ds r → IsTypedRelation ds (restriction p r)
  typed_restriction p r m = record {
    is_relation = IsRelation-restriction p r m.is_relation;
    known = m.known;
    rows = λ t c. m.rows t ((contains_filter p r.body t).0 c).0;
  }

  pub typed_union : (q r : Relation) → IsTypedRelation ds q → IsTypedRelation ds r → q.heading ≡ r.heading → IsTypedRelation ds (union q r)
  typed_union q r m n e =
      typed_set ds q.heading (q.body ++ r.body) (IsRelation-union q r m.is_relation n.is_relation e) m.known
      (λ t c. by_case t (Contains-append_cases q.body r.body t c))
    where
      by_case : (t : Tuple) → Contains q.body t ⊎ Contains r.body t → AreOwn ds t
      by_case t (inl c) = m.rows t c
      by_case t (inr c) = n.rows t c

  pub known_union : (g h : Heading) → IsKnownHeading ds g → IsKnownHeading ds h → AreKnown ds (pack (heading_union g h))
  known_union g h k l = (united (known_closed ds) g h k (all_fit (known_closed ds) h l)).1

  known_filtered : (p : Attribute → Bool) (h : Heading) → IsKnownHeading ds h → AreKnown ds (pack (filter p h))
  known_filtered p h k = let c = known_closed ds in (c.filtered p h k).1

  -- tuples of one relation united with tuples of another
  typed_united : (q r : Relation) (partners : Tuple → List Tuple) → IsTypedRelation ds q → IsTypedRelation ds r
      → ((t u : Tuple) → Contains (partners t) u → Contains r.body u)
      → (y : Tuple) → Contains (flat_map (λ t. map (united_tuple t) (partners t)) q.body) y → AreOwn ds y
  typed_united q r partners m n among y c =
      let d = (contains_flat_map (λ t. map (united_tuple t) (partners t)) q.body y).0 c in
      let e = (contains_map (united_tuple d.0) (partners d.0) y).0 d.2 in
      subst (AreOwn ds) e.2 (own d.0 e.0 (m.rows d.0 d.1) (n.rows e.0 (among d.0 e.0 e.1)))
    where
      own : (t u : Tuple) → AreOwn ds t → AreOwn ds u → AreOwn ds (united_tuple t u)
      own t u a b =
          all_made (IsOwn ds) (t ++ others t u)
          (all_joined (IsOwn ds) t (others t u) a (all_filtered (IsOwn ds) (λ e. not (has_name e.0 (tuple_names t))) u b))

  pub typed_join : (q r : Relation) → IsTypedRelation ds q → IsTypedRelation ds r → IsTypedRelation ds (join q r)
  typed_join q r m n =
      typed_set ds (heading_union q.heading r.heading) (flat_map (λ t. map (united_tuple t) (filter (are_partners q r t) r.body)) q.body)
      (IsRelation-united q r (λ t. filter (are_partners q r t) r.body) m.is_relation n.is_relation among)
      (known_union q.heading r.heading (typed_heading ds q m) (typed_heading ds r n))
      (typed_united q r (λ t. filter (are_partners q r t) r.body) m n among)
    where
      among : (t u : Tuple) → Contains (filter (are_partners q r t) r.body) u → Contains r.body u
      among t u c = ((contains_filter (are_partners q r t) r.body u).0 c).0

  pub typed_product : (q r : Relation) → IsTypedRelation ds q → IsTypedRelation ds r → IsTypedRelation ds (product q r)
  typed_product q r m n =
      typed_set ds (heading_union q.heading r.heading) (flat_map (λ t. map (united_tuple t) r.body) q.body)
      (IsRelation-united q r (λ t. r.body) m.is_relation n.is_relation (λ t u c. c))
      (known_union q.heading r.heading (typed_heading ds q m) (typed_heading ds r n))
      (typed_united q r (λ t. r.body) m n (λ t u c. c))

  pub typed_projected : (names : List (List ℕ)) (r : Relation) → IsTypedRelation ds r → IsTypedRelation ds (projected_relation names r)
  typed_projected names r m =
      typed_set ds (projection names r.heading) (map (projected_tuple names) r.body) (IsRelation-projected names r m.is_relation)
      (known_filtered (λ a. has_name a.0 names) r.heading (typed_heading ds r m))
      (λ y c. let d = (contains_map (projected_tuple names) r.body y).0 c in
      subst (AreOwn ds) d.2 (all_filtered (IsOwn ds) (λ e. has_name e.0 names) d.0 (m.rows d.0 d.1)))

-- ---- the heading of a composition

-- without what two headings have in common, each is without what the other has
first_outside : (g h : Heading) → IsAscending g → outside (common_part g h) g ≡ outside h g
first_outside g h up =
    types_determine_heading (outside (common_part g h) g) (outside h g)
    (IsAscending-filter (λ n. not (has_attribute n (common_part g h))) g up)
    (IsAscending-filter (λ n. not (has_attribute n h)) g up)
    (λ n. type_at-outside n (common_part g h) g ∙ ap (λ o. if is_some o then None else type_at n g) (type_at-common n g h)
    ∙ by_cases (has_attribute n h) (type_at n g) ∙ sym (type_at-outside n h g))
  where
    by_cases : (there : Bool) (o : Option Type') → (if is_some (if there then o else None) then None else o) ≡ (if there then None else o)
    by_cases true (Some t) = refl
    by_cases true None = refl
    by_cases false o = refl

second_outside : (g h : Heading) → IsAscending h → outside (common_part g h) h ≡ outside g h
second_outside g h up =
    types_determine_heading (outside (common_part g h) h) (outside g h)
    (IsAscending-filter (λ n. not (has_attribute n (common_part g h))) h up)
    (IsAscending-filter (λ n. not (has_attribute n g)) h up)
    (λ n. type_at-outside n (common_part g h) h ∙ ap (λ o. if is_some o then None else type_at n h) (type_at-common n g h)
    ∙ by_cases (type_at n g) (type_at n h) ∙ sym (type_at-outside n g h))
  where
    by_cases : (o p : Option Type') → (if is_some (if is_some p then o else None) then None else p) ≡ (if is_some o then None else p)
    by_cases (Some s) (Some t) = refl
    by_cases (Some s) None = refl
    by_cases None (Some t) = refl
    by_cases None None = refl

composed_is : (q r : Relation) → IsAscending q.heading → IsAscending r.heading
    → (composition q r).heading ≡ heading_union (outside (common_part q.heading r.heading) q.heading) (outside (common_part q.heading r.heading) r.heading)
composed_is q r up vp =
    sym (composed_heading_is q r up) ∙ (λ i. heading_union (sym (first_outside q.heading r.heading up) i) (sym (second_outside q.heading r.heading vp) i))

-- ---- what is asked of the tuples too

-- a value where that holds, else a dynamic cause
if_dynamic : {A : Type 0} (P : A → Type 0) (test : Bool) (x : A) (cause : Cause) → IsDynamic cause → P x → Keeps P (value_if test x cause)
if_dynamic P true x cause d p = p
if_dynamic P false x cause d p = one_dynamic cause d

-- of two relations of one heading
one_heading_keeps : (ds : List DeclaredType) (test : Bool) (s : Type') (cause : Cause) (r : Relation) (f : Relation → Outcome Relation)
    → (test ≡ true → Keeps (λ (x : Relation). IsTypedRelation ds x × (s ≡ types.relation (pack x.heading))) (f r))
    → KeepsType ds (value_if test s cause) (with_value (value_if test r cause) (λ same. with_value (f same) of_relation))
one_heading_keeps ds true s cause r f k =
    keeps_type ds s (with_value (f r) of_relation)
    (with_value_keeps (λ (x : Relation). IsTypedRelation ds x × (s ≡ types.relation (pack x.heading))) (λ v. IsOfType ds v s) (f r) of_relation (k refl)
    (λ x p. subst (IsOfType ds (relation_value x)) (sym p.1) (value_from_typed ds x p.0)))
one_heading_keeps ds false s cause r f k = tt

-- ---- the operators

module _ (ds : List DeclaredType) (v w : Val) (s t : Type') (k : IsOfType ds v s) (l : IsOfType ds w t) where
  pub union_keeps : KeepsType ds (operator_type operators.Union s t) (operator_value operators.Union v w)
  union_keeps =
      over_relations_keeps ds v w s t _ _ k l
      (λ q r m n e. type_if_keeps ds (same_heading q.heading r.heading) s causes.Heading (union q r) e
      (λ same. typed_union ds q r m n ((heading_eq-Decides q.heading r.heading).0 same)))

  pub intersect_keeps : KeepsType ds (operator_type operators.Intersect s t) (operator_value operators.Intersect v w)
  intersect_keeps =
      over_relations_keeps ds v w s t _ _ k l
      (λ q r m n e. type_if_keeps ds (same_heading q.heading r.heading) s causes.Heading (intersection q r) e (λ _. typed_restriction ds _ q m))

  pub minus_keeps : KeepsType ds (operator_type operators.Minus s t) (operator_value operators.Minus v w)
  minus_keeps =
      over_relations_keeps ds v w s t _ _ k l
      (λ q r m n e. type_if_keeps ds (same_heading q.heading r.heading) s causes.Heading (difference q r) e (λ _. typed_restriction ds _ q m))

  pub disjoint_union_keeps : KeepsType ds (operator_type operators.DisjointUnion s t) (operator_value operators.DisjointUnion v w)
  disjoint_union_keeps =
      over_relations_keeps ds v w s t _ _ k l
      (λ q r m n e. one_heading_keeps ds (same_heading q.heading r.heading) s causes.Heading r (disjoint_union q)
      (λ same. if_dynamic (λ (x : Relation). IsTypedRelation ds x × (s ≡ types.relation (pack x.heading))) (is_disjoint q r) (union q r) causes.NotDisjoint tt
      (typed_union ds q r m n ((heading_eq-Decides q.heading r.heading).0 same), e)))

  pub included_minus_keeps : KeepsType ds (operator_type operators.IncludedMinus s t) (operator_value operators.IncludedMinus v w)
  included_minus_keeps =
      over_relations_keeps ds v w s t _ _ k l
      (λ q r m n e. one_heading_keeps ds (same_heading q.heading r.heading) s causes.Heading r (included_difference q)
      (λ same. if_dynamic (λ (x : Relation). IsTypedRelation ds x × (s ≡ types.relation (pack x.heading))) (is_subset r q) (difference q r) causes.NotIncluded tt
      (typed_restriction ds _ q m, e)))

  pub join_keeps : KeepsType ds (operator_type operators.Join s t) (operator_value operators.Join v w)
  join_keeps =
      over_relations_keeps ds v w s t _ _ k l
      (λ q r m n e. heading_if_keeps ds (agree q.heading r.heading) (heading_union q.heading r.heading) causes.Heading (join q r) refl
      (λ _. typed_join ds q r m n))

  pub times_keeps : KeepsType ds (operator_type operators.Times s t) (operator_value operators.Times v w)
  times_keeps =
      over_relations_keeps ds v w s t _ _ k l
      (λ q r m n e. heading_if_keeps ds (have_no_common q.heading r.heading) (heading_union q.heading r.heading) causes.Heading (product q r) refl
      (λ _. typed_product ds q r m n))

  pub compose_keeps : KeepsType ds (operator_type operators.Compose s t) (operator_value operators.Compose v w)
  compose_keeps =
      over_relations_keeps ds v w s t _ _ k l
      (λ q r m n e. made_if_keeps ds (agree q.heading r.heading) (common_part q.heading r.heading) causes.Heading
      (λ common. heading_union (outside common q.heading) (outside common r.heading)) (composition q r)
      (composed_is q r (ascending_from_heading q.heading (typed_heading ds q m).0) (ascending_from_heading r.heading (typed_heading ds r n).0))
      (λ _. typed_projected ds (own_names q r ++ own_names r q) (join q r) (typed_join ds q r m n)))

  pub matching_keeps : KeepsType ds (operator_type operators.Matching s t) (operator_value operators.Matching v w)
  matching_keeps =
      over_relations_keeps ds v w s t _ _ k l
      (λ q r m n e. type_if_keeps ds (agree q.heading r.heading) s causes.Heading (semijoin q r) e (λ _. typed_restriction ds _ q m))

  pub not_matching_keeps : KeepsType ds (operator_type operators.NotMatching s t) (operator_value operators.NotMatching v w)
  not_matching_keeps =
      over_relations_keeps ds v w s t _ _ k l
      (λ q r m n e. type_if_keeps ds (agree q.heading r.heading) s causes.Heading (semidifference q r) e (λ _. typed_restriction ds _ q m))
