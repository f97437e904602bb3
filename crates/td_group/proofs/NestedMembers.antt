-- Which tuples WRAP, UNGROUP and UNWRAP give, and which the groups of SUMMARIZE have.
use Rattle.std.proofs.Common.{◌≡◌, ◌∙◌, ap, sym, refl, subst, ℕ, Bool, true, false, List, [], ◌∷◌, ◌++◌, None, Some, map, true≢false}
use Rattle.std.specs.Prelude.{◌↔◌, ◌||◌, if◌then◌else◌, is_some, not}
use Rattle.std.specs.Cmp.Lexicographic.{same_text}
use Rattle.std.specs.List.{Contains, flat_map}
use Rattle.td_types.specs.model.Headings.{are_distinct, has_attribute, has_name, has_projection, projection, without_attribute}
use Rattle.td_types.specs.model.Types.{pack, same_name, type_at}
use Rattle.td_types.specs.model.Types as types
use Rattle.td_types.proofs.HeadingLaws.{has_attribute-names, has_attribute-with, same_name-itself, type_at-union}
use Rattle.td_value.specs.model.Agreement.{AgreeOn, agree_on}
use Rattle.td_value.specs.model.Values.{IsRelation, IsTupleOf, Relation, Tuple, projected_tuple, tuple_names, tuple_of, tuple_value, value_at}
use Rattle.td_value.proofs.Agreement.{agreement_of_values, value_of_projection}
use Rattle.td_value.proofs.Maps.{value_at-tuple_of}
use Rattle.td_value.proofs.Members.{set_members}
use Rattle.td_algebra.specs.laws.Membership.{IsIn}
use Rattle.td_algebra.specs.model.Operators.{common_names, restriction}
use Rattle.td_algebra.proofs.Entries.{distinct_append, has_name-heading, same_on_heading, tuple_distinct, value_at-append}
use Rattle.td_algebra.proofs.Lists.{contains_filter, contains_flat_map, contains_map}
use Rattle.td_algebra.proofs.Members.{second_true}
use Rattle.td_algebra.proofs.Relations.{member_headed, rows_headed}
use Rattle.std.proofs.lemmas.List.Elements.{All-contains}
use Rattle.td_group.specs.model.Groups.{groups}
use Rattle.td_group.specs.laws.Membership.{GroupsByMembership, UnnestByMembership, WrapByMembership}
use Rattle.td_group.specs.model.Nesting.{can_nest, can_unnest, inner_heading, names_without, rest_heading, rest_names, tuples_inside, unnested_relation, unnested_tuples, wrapped_relation, wrapped_tuple}
use Rattle.td_group.proofs.Apart.{apart}
use Rattle.td_group.proofs.Nested.{inside_headed, unnested_headed, wrapped_headed}
use Rattle.td_group.proofs.Rests.{rest_headed}

lacked : (b : Bool) → not b ≡ true → b ≡ false
lacked true e = absurd (true≢false (sym e))
lacked false e = refl

-- the value of a name in entries put together, of which no two have one name
together_value : (n : List ℕ) (t x : Tuple) → are_distinct (tuple_names (t ++ x)) ≡ true → value_at n (tuple_of (t ++ x)) ≡ (if has_name n (tuple_names t) then value_at n t else value_at n x)
together_value n t x d = value_at-tuple_of n (t ++ x) d ∙ value_at-append n t x

-- a projection gives each of its names the tuple's value
kept_value : (names : List (List ℕ)) (u : Tuple) (n : List ℕ) → has_name n names ≡ true → value_at n (projected_tuple names u) ≡ value_at n u
kept_value names u n e = value_of_projection names u n ∙ rw e refl

-- ---- WRAP

module _ (names : List (List ℕ)) (name : List ℕ) (r : Relation) (p : IsRelation r) (can : can_nest names name r.heading ≡ true) (u : Tuple) (has : IsTupleOf r.heading u) where
  abbrev rest_part : Tuple
  rest_part = projected_tuple (rest_names names r) u

  rest_part_headed : IsTupleOf (rest_heading names r.heading) rest_part
  rest_part_headed = rest_headed (λ n. not (has_attribute n (projection names r.heading))) r.heading u has

  new_name : has_attribute name (rest_heading names r.heading) ≡ false
  new_name = lacked (has_attribute name (rest_heading names r.heading)) (second_true (has_projection names r.heading) (not (has_attribute name (rest_heading names r.heading))) can)

  entry_apart : (n : List ℕ) → has_name n (tuple_names rest_part) ≡ true → has_name n (name ∷ []) ≡ false
  entry_apart n there = by_name (same_name name n) refl
    where
      by_name : (b : Bool) → same_name name n ≡ b → (b || false) ≡ false
      by_name true e =
          let is : name ≡ n = same_text name n (sym e) in
          absurd (true≢false (sym there ∙ has_name-heading (rest_heading names r.heading) rest_part rest_part_headed n ∙ ap (λ m. has_attribute m (rest_heading names r.heading)) (sym is) ∙ new_name))
      by_name false e = refl

  wrapped_value : (n : List ℕ) → value_at n (wrapped_tuple names name r u)
      ≡ (if has_attribute n (rest_heading names r.heading) then value_at n rest_part else (if same_name name n then Some (tuple_value (projected_tuple names u)) else None))
  wrapped_value n =
      together_value n rest_part ((name, tuple_value (projected_tuple names u)) ∷ [])
      (distinct_append rest_part ((name, tuple_value (projected_tuple names u)) ∷ []) (tuple_distinct rest_part rest_part_headed.0) refl entry_apart)
      ∙ ap (λ b. if b then value_at n rest_part else (if same_name name n then Some (tuple_value (projected_tuple names u)) else None)) (has_name-heading (rest_heading names r.heading) rest_part rest_part_headed n)

  pub wrapped_agrees : AgreeOn (rest_names names r) (wrapped_tuple names name r u) u
  wrapped_agrees n there =
      let in_rest : has_attribute n (rest_heading names r.heading) ≡ true = has_attribute-names n (rest_heading names r.heading) ∙ there in
      wrapped_value n ∙ ap (λ b. if b then value_at n rest_part else (if same_name name n then Some (tuple_value (projected_tuple names u)) else None)) in_rest
      ∙ kept_value (rest_names names r) u n there

  pub wrapped_part : value_at name (wrapped_tuple names name r u) ≡ Some (tuple_value (projected_tuple names u))
  wrapped_part =
      wrapped_value name
      ∙ (λ i. if new_name i then value_at name rest_part else (if same_name-itself name i then Some (tuple_value (projected_tuple names u)) else None))

  wrapped_from : (t : Tuple) → IsTupleOf (wrapped_relation names name r).heading t → AgreeOn (rest_names names r) t u → value_at name t ≡ Some (tuple_value (projected_tuple names u))
      → IsTupleOf (wrapped_relation names name r).heading (wrapped_tuple names name r u) → wrapped_tuple names name r u ≡ t
  wrapped_from t q agrees part w =
      same_on_heading (wrapped_relation names name r).heading (wrapped_tuple names name r u) t w q (λ n there. by_name n (same_name name n) refl
      (sym (has_attribute-with n name (types.tuple (pack (projection names r.heading))) (rest_heading names r.heading)) ∙ there))
    where
      by_name : (n : List ℕ) (b : Bool) → same_name name n ≡ b → (b || has_attribute n (rest_heading names r.heading)) ≡ true → value_at n (wrapped_tuple names name r u) ≡ value_at n t
      by_name n true e there = subst (λ m. value_at m (wrapped_tuple names name r u) ≡ value_at m t) (same_text name n (sym e)) (wrapped_part ∙ sym part)
      by_name n false e there =
          let named : has_name n (rest_names names r) ≡ true = sym (has_attribute-names n (rest_heading names r.heading)) ∙ there in
          wrapped_agrees n named ∙ sym (agrees n named)

pub wrap_by_membership : WrapByMembership
wrap_by_membership names name r t p can q = (there, back)
  where
    there : IsIn t (wrapped_relation names name r) → (u : Tuple) × IsIn u r × AgreeOn (rest_names names r) t u × (value_at name t ≡ Some (tuple_value (projected_tuple names u)))
    there c =
        let d = (contains_map (wrapped_tuple names name r) r.body t).0 ((set_members (map (wrapped_tuple names name r) r.body) t).0 c) in
        let has = member_headed r d.0 p d.1 in
        (d.0, d.1, (λ n e. ap (value_at n) (sym d.2) ∙ wrapped_agrees names name r p can d.0 has n e), ap (value_at name) (sym d.2) ∙ wrapped_part names name r p can d.0 has)

    back : (u : Tuple) × IsIn u r × AgreeOn (rest_names names r) t u × (value_at name t ≡ Some (tuple_value (projected_tuple names u))) → IsIn t (wrapped_relation names name r)
    back d =
        let has = member_headed r d.0 p d.1 in
        let own = (contains_map (wrapped_tuple names name r) r.body (wrapped_tuple names name r d.0)).1 (d.0, d.1, refl) in
        let w = All-contains (IsTupleOf (wrapped_relation names name r).heading) (map (wrapped_tuple names name r) r.body) (wrapped_tuple names name r d.0)
        (wrapped_headed names name r (rows_headed r p) can q.2) own in
        (set_members (map (wrapped_tuple names name r) r.body) t).1
        (subst (Contains (map (wrapped_tuple names name r) r.body)) (wrapped_from names name r p can d.0 has t q d.2 d.3 w) own)

-- ---- UNGROUP and UNWRAP

module _ (name : List ℕ) (r : Relation) (can : can_unnest name r.heading ≡ true) (u x : Tuple) (has : IsTupleOf r.heading u) (inside : Contains (tuples_inside (value_at name u)) x) where
  abbrev other_part : Tuple
  other_part = projected_tuple (names_without name r) u

  other_part_headed : IsTupleOf (without_attribute name r.heading) other_part
  other_part_headed = rest_headed (λ n. not (same_name n name)) r.heading u has

  inner_headed : IsTupleOf (inner_heading name r.heading) x
  inner_headed = inside_headed name r.heading u x has inside

  none_of_rest : (n : List ℕ) → has_attribute n (inner_heading name r.heading) ≡ true → has_attribute n (without_attribute name r.heading) ≡ false
  none_of_rest = apart (without_attribute name r.heading) (inner_heading name r.heading) can

  names_apart : (n : List ℕ) → has_name n (tuple_names other_part) ≡ true → has_name n (tuple_names x) ≡ false
  names_apart n there = by_name (has_attribute n (inner_heading name r.heading)) refl
    where
      by_name : (b : Bool) → has_attribute n (inner_heading name r.heading) ≡ b → has_name n (tuple_names x) ≡ false
      by_name true e = absurd (true≢false (sym there ∙ has_name-heading (without_attribute name r.heading) other_part other_part_headed n ∙ none_of_rest n e))
      by_name false e = has_name-heading (inner_heading name r.heading) x inner_headed n ∙ e

  unnested_value : (n : List ℕ) → value_at n (tuple_of (other_part ++ x)) ≡ (if has_attribute n (without_attribute name r.heading) then value_at n other_part else value_at n x)
  unnested_value n =
      together_value n other_part x (distinct_append other_part x (tuple_distinct other_part other_part_headed.0) (tuple_distinct x inner_headed.0) names_apart)
      ∙ ap (λ b. if b then value_at n other_part else value_at n x) (has_name-heading (without_attribute name r.heading) other_part other_part_headed n)

  unnested_rest : AgreeOn (names_without name r) (tuple_of (other_part ++ x)) u
  unnested_rest n there =
      let in_rest : has_attribute n (without_attribute name r.heading) ≡ true = has_attribute-names n (without_attribute name r.heading) ∙ there in
      unnested_value n ∙ ap (λ b. if b then value_at n other_part else value_at n x) in_rest ∙ kept_value (names_without name r) u n there

  unnested_inside : AgreeOn (tuple_names x) (tuple_of (other_part ++ x)) x
  unnested_inside n there =
      let outside_rest : has_attribute n (without_attribute name r.heading) ≡ false = none_of_rest n (sym (has_name-heading (inner_heading name r.heading) x inner_headed n) ∙ there) in
      unnested_value n ∙ ap (λ b. if b then value_at n other_part else value_at n x) outside_rest

  unnested_from : (t : Tuple) → IsTupleOf (unnested_relation name r).heading t → AgreeOn (names_without name r) t u → AgreeOn (tuple_names x) t x
      → IsTupleOf (unnested_relation name r).heading (tuple_of (other_part ++ x)) → tuple_of (other_part ++ x) ≡ t
  unnested_from t q rest own w =
      same_on_heading (unnested_relation name r).heading (tuple_of (other_part ++ x)) t w q (λ n there. by_name n (has_attribute n (without_attribute name r.heading)) refl
      (sym (ap is_some (type_at-union n (without_attribute name r.heading) (inner_heading name r.heading))) ∙ there))
    where
      by_name : (n : List ℕ) (b : Bool) → has_attribute n (without_attribute name r.heading) ≡ b
          → is_some (if b then type_at n (without_attribute name r.heading) else type_at n (inner_heading name r.heading)) ≡ true
          → value_at n (tuple_of (other_part ++ x)) ≡ value_at n t
      by_name n true e there =
          let named : has_name n (names_without name r) ≡ true = sym (has_attribute-names n (without_attribute name r.heading)) ∙ e in
          unnested_rest n named ∙ sym (rest n named)
      by_name n false e there =
          let named : has_name n (tuple_names x) ≡ true = has_name-heading (inner_heading name r.heading) x inner_headed n ∙ there in
          unnested_inside n named ∙ sym (own n named)

pub unnest_by_membership : UnnestByMembership
unnest_by_membership name r t p can q = (there, back)
  where
    there : IsIn t (unnested_relation name r)
        → (u : Tuple) × (x : Tuple) × IsIn u r × Contains (tuples_inside (value_at name u)) x × AgreeOn (names_without name r) t u × AgreeOn (tuple_names x) t x
    there c =
        let d = (contains_flat_map (unnested_tuples name r) r.body t).0 ((set_members (flat_map (unnested_tuples name r) r.body) t).0 c) in
        let e = (contains_map (λ x. tuple_of (projected_tuple (names_without name r) d.0 ++ x)) (tuples_inside (value_at name d.0)) t).0 d.2 in
        let has = member_headed r d.0 p d.1 in
        (d.0, e.0, d.1, e.1, (λ n f. ap (value_at n) (sym e.2) ∙ unnested_rest name r can d.0 e.0 has e.1 n f), (λ n f. ap (value_at n) (sym e.2) ∙ unnested_inside name r can d.0 e.0 has e.1 n f))

    back : (u : Tuple) × (x : Tuple) × IsIn u r × Contains (tuples_inside (value_at name u)) x × AgreeOn (names_without name r) t u × AgreeOn (tuple_names x) t x
        → IsIn t (unnested_relation name r)
    back d =
        let has = member_headed r d.0 p d.2 in
        let own = (contains_flat_map (unnested_tuples name r) r.body (tuple_of (projected_tuple (names_without name r) d.0 ++ d.1))).1 (
          d.0,
          d.2,
          (contains_map (λ x. tuple_of (projected_tuple (names_without name r) d.0 ++ x)) (tuples_inside (value_at name d.0)) (tuple_of (projected_tuple (names_without name r) d.0 ++ d.1))).1 (d.1, d.3, refl),
        ) in
        let w = All-contains (IsTupleOf (unnested_relation name r).heading) (flat_map (unnested_tuples name r) r.body) (tuple_of (projected_tuple (names_without name r) d.0 ++ d.1))
        (unnested_headed name r (rows_headed r p) can) own in
        (set_members (flat_map (unnested_tuples name r) r.body) t).1
        (subst (Contains (flat_map (unnested_tuples name r) r.body)) (unnested_from name r can d.0 d.1 has d.3 t q d.4 d.5 w) own)

-- ---- groups

firsts : (f : Tuple → Relation) (ts : List Tuple) → map (λ (p : Tuple × Relation). p.0) (map (λ w. (w, f w)) ts) ≡ ts
firsts f [] = refl
firsts f (t ∷ ts) = ap (λ us. t ∷ us) (firsts f ts)

pub groups_by_membership : GroupsByMembership
groups_by_membership r per p q = (firsts (λ w. restriction (agree_on (common_names per r) w) r) per.body, each)
  where
    each : (w : Tuple) (g : Relation) → Contains (groups r per) (w, g) → (g.heading ≡ r.heading) × ((u : Tuple) → IsIn u g ↔ (IsIn u r × AgreeOn (common_names per r) w u))
    each w g c =
        let d = (contains_map (λ w. (w, restriction (agree_on (common_names per r) w) r)) per.body (w, g)).0 c in
        let same : d.0 ≡ w = ap (λ (x : Tuple × Relation). x.0) d.2 in
        let group : restriction (agree_on (common_names per r) w) r ≡ g = ap (λ v. restriction (agree_on (common_names per r) v) r) (sym same) ∙ ap (λ (x : Tuple × Relation). x.1) d.2 in
        let has = member_headed per w q (subst (Contains per.body) same d.1) in
        subst (λ h. (h.heading ≡ r.heading) × ((u : Tuple) → IsIn u h ↔ (IsIn u r × AgreeOn (common_names per r) w u))) group (refl, members w has)
      where
        members : (w : Tuple) → IsTupleOf per.heading w → (u : Tuple) → IsIn u (restriction (agree_on (common_names per r) w) r) ↔ (IsIn u r × AgreeOn (common_names per r) w u)
        members w has u = (
          (λ c. let k = (contains_filter (agree_on (common_names per r) w) r.body u).0 c in (k.0, (agreement_of_values (common_names per r) w u has.0 (member_headed r u p k.0).0).0 k.1)),
          (λ k. (contains_filter (agree_on (common_names per r) w) r.body u).1 (k.0, (agreement_of_values (common_names per r) w u has.0 (member_headed r u p k.0).0).1 k.1)),
        )
