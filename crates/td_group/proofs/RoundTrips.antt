-- What is wrapped or grouped and taken apart again is what it was.
use Rattle.std.proofs.Common.{◌≡◌, ◌∙◌, ◌⊎◌, inl, inr, ap, sym, refl, subst, ℕ, Bool, true, false, List, [], ◌∷◌, map, Option, None, Some, true≢false}
use Rattle.std.specs.Prelude.{◌&&◌, ◌||◌, if◌then◌else◌, is_some, not}
use Rattle.std.specs.Cmp.Lexicographic.{same_text}
use Rattle.std.specs.List.{Contains, flat_map}
use Rattle.td_types.specs.model.Headings.{has_attribute, has_name, has_projection, have_no_common, heading_union, projection, without_attribute}
use Rattle.td_types.specs.code.TypeCode.{unpack_pack}
use Rattle.td_types.specs.model.Types.{Heading, IsHeading, Type', attribute_names, pack, same_name, type_at}
use Rattle.td_types.specs.model.Types as types
use Rattle.td_types.proofs.HeadingLaws.{IsAscending-union, IsAscending-without, IsHeading-filter, IsHeading-with, ascending_from_heading, has_attribute-names, same_name-itself, type_at-outside, type_at-projection, type_at-union, type_at-with, type_at-without, types_determine_heading}
use Rattle.td_value.specs.model.Agreement.{AgreeOn, agree_on}
use Rattle.td_value.specs.code.ValueCode.{unpack_pack_fields, unpack_pack_rows}
use Rattle.td_value.specs.model.Values.{IsRelation, IsTupleOf, Relation, Tuple, pack_fields, projected_tuple, relation_value, tuple_names, tuple_value, unpack_fields, value_at}
use Rattle.td_value.proofs.Agreement.{value_of_projection}
use Rattle.td_value.proofs.Members.{by_members, set_members}
use Rattle.td_algebra.specs.laws.Membership.{IsIn}
use Rattle.td_algebra.specs.model.Operators.{extended_tuple, restriction}
use Rattle.td_algebra.proofs.Extensions.{extended_values}
use Rattle.td_algebra.proofs.Results.{IsRelation-extended, IsRelation-projected}
use Rattle.td_algebra.proofs.Entries.{has_name-heading, same_on_heading}
use Rattle.td_algebra.proofs.Lists.{contains_cases, contains_first, contains_map, contains_none}
use Rattle.td_algebra.proofs.Members.{both_true, second_true}
use Rattle.td_algebra.proofs.Projections.{IsTupleOf-projected}
use Rattle.td_algebra.proofs.Relations.{IsRelation-relation_of, IsRelation-restriction, member_headed, rows_headed}
use Rattle.td_algebra.proofs.Sources.{has_attribute-outside}
use Rattle.td_group.specs.laws.Membership.{UngroupUndoesGroup, UnwrapUndoesWrap}
use Rattle.td_group.specs.model.Nesting.{can_nest, can_unnest, heading_inside, group_of, grouped_relation, inner_heading, names_without, rest_heading, rest_names, tuples_inside, unnested_relation, unnested_tuples, wrapped_relation, wrapped_tuple}
use Rattle.td_group.proofs.GroupMembers.{addition, addition_new, group_by_membership, is_group, keys, keys_are}
use Rattle.td_group.proofs.Rests.{rest_of_names}
use Rattle.td_group.proofs.Nested.{unnested_headed, wrapped_headed}
use Rattle.td_group.proofs.NestedMembers.{unnest_by_membership, wrap_by_membership, wrapped_agrees, wrapped_part}

lacked : (b : Bool) → not b ≡ true → b ≡ false
lacked true e = absurd (true≢false (sym e))
lacked false e = refl

-- headings of which none of the first's names is in the second have no common attribute
none_common : (g h : Heading) → ((n : List ℕ) → has_name n (attribute_names g) ≡ true → has_attribute n h ≡ false) → have_no_common g h ≡ true
none_common [] h apart = refl
none_common (a ∷ g) h apart =
    both_true (not (has_attribute a.0 h)) (have_no_common g h) (ap not (apart a.0 (rw (same_name-itself a.0) refl))) (none_common g h (λ n there. apart n (later n there (same_name a.0 n))))
  where
    later : (n : List ℕ) → has_name n (attribute_names g) ≡ true → (b : Bool) → (b || has_name n (attribute_names g)) ≡ true
    later n there true = refl
    later n there false = there

-- the heading with an attribute in place of some of a heading's
module _ (names : List (List ℕ)) (name : List ℕ) (h whole : Heading) (kind : Type') (p : IsHeading (pack h)) (new : has_attribute name (rest_heading names h) ≡ false)
    (q : IsHeading (pack whole)) (are : (n : List ℕ) → type_at n whole ≡ (if same_name name n then Some kind else type_at n (rest_heading names h)))
    (inside : heading_inside (Some kind) ≡ projection names h) where
  inner_is : inner_heading name whole ≡ projection names h
  inner_is = ap heading_inside (are name ∙ ap (λ b. if b then Some kind else type_at name (rest_heading names h)) (same_name-itself name)) ∙ inside

  without_types : (n : List ℕ) → type_at n (without_attribute name whole) ≡ (if same_name name n then None else type_at n (rest_heading names h))
  without_types n = type_at-without name n whole ∙ ap (λ o. if same_name name n then None else o) (are n) ∙ by_name (same_name name n)
    where
      by_name : (b : Bool) → (if b then None else (if b then Some kind else type_at n (rest_heading names h))) ≡ (if b then None else type_at n (rest_heading names h))
      by_name true = refl
      by_name false = refl

  rest_lacking : (n : List ℕ) → same_name name n ≡ true → is_some (type_at n (rest_heading names h)) ≡ false
  rest_lacking n e = subst (λ m. has_attribute m (rest_heading names h) ≡ false) (same_text name n (sym e)) new

  -- the other attributes are the rest
  pub others_are : (n : List ℕ) → has_attribute n (without_attribute name whole) ≡ has_attribute n (rest_heading names h)
  others_are n = ap is_some (without_types n) ∙ by_name (same_name name n) refl
    where
      by_name : (b : Bool) → same_name name n ≡ b → is_some (if b then None else type_at n (rest_heading names h)) ≡ is_some (type_at n (rest_heading names h))
      by_name true e = sym (rest_lacking n e)
      by_name false e = refl

  pub rest_outside : (n : List ℕ) → has_attribute n (rest_heading names h) ≡ true → has_attribute n (projection names h) ≡ false
  rest_outside n e = by_part (has_attribute n (projection names h)) refl
    where
      by_part : (b : Bool) → has_attribute n (projection names h) ≡ b → has_attribute n (projection names h) ≡ false
      by_part true f = absurd (true≢false (sym e ∙ ap is_some (type_at-outside n (projection names h) h) ∙ ap (λ b. is_some (if b then None else type_at n h)) f))
      by_part false f = f

  pub can_be_undone : can_unnest name whole ≡ true
  can_be_undone =
      subst (λ g. have_no_common (without_attribute name whole) g ≡ true) (sym inner_is)
      (none_common (without_attribute name whole) (projection names h) (λ n there. rest_outside n (sym (others_are n) ∙ has_attribute-names n (without_attribute name whole) ∙ there)))

  pub heading_again : heading_union (without_attribute name whole) (inner_heading name whole) ≡ h
  heading_again =
      ap (heading_union (without_attribute name whole)) inner_is
      ∙ types_determine_heading (heading_union (without_attribute name whole) (projection names h)) h
      (IsAscending-union (without_attribute name whole) (projection names h) (IsAscending-without name whole (ascending_from_heading whole q))) (ascending_from_heading h p)
      (λ n. type_at-union n (without_attribute name whole) (projection names h)
      ∙ (λ i. if is_some (types_of_others n i) then types_of_others n i else type_at-projection names n h i)
      ∙ either (same_name name n) (has_name n names) (type_at n h) (λ e. sym (ap is_some (rest_types n)) ∙ rest_lacking n e))
    where
      rest_types : (n : List ℕ) → type_at n (rest_heading names h) ≡ (if is_some (if has_name n names then type_at n h else None) then None else type_at n h)
      rest_types n = type_at-outside n (projection names h) h ∙ ap (λ o. if is_some o then None else type_at n h) (type_at-projection names n h)

      types_of_others : (n : List ℕ) → type_at n (without_attribute name whole)
          ≡ (if same_name name n then None else (if is_some (if has_name n names then type_at n h else None) then None else type_at n h))
      types_of_others n = without_types n ∙ ap (λ o. if same_name name n then None else o) (rest_types n)

      either : (s m : Bool) (o : Option Type') → (s ≡ true → is_some (if is_some (if m then o else None) then None else o) ≡ false)
          → (if is_some (if s then None else (if is_some (if m then o else None) then None else o))
          then (if s then None else (if is_some (if m then o else None) then None else o)) else (if m then o else None)) ≡ o
      either true true o f = refl
      either true false None f = refl
      either true false (Some t) f = absurd (true≢false (f refl))
      either false true None f = refl
      either false true (Some t) f = refl
      either false false None f = refl
      either false false (Some t) f = refl

-- ---- a relation whose attributes of the names stand inside another

module _ (names : List (List ℕ)) (name : List ℕ) (r whole : Relation) (kind : Type') (p : IsRelation r) (new : has_attribute name (rest_heading names r.heading) ≡ false)
    (whole_is : IsRelation whole) (types_are : (n : List ℕ) → type_at n whole.heading ≡ (if same_name name n then Some kind else type_at n (rest_heading names r.heading)))
    (inside : heading_inside (Some kind) ≡ projection names r.heading) where
  undone : can_unnest name whole.heading ≡ true
  undone = can_be_undone names name r.heading whole.heading kind p.2 new whole_is.2 types_are inside

  again : (unnested_relation name whole).heading ≡ r.heading
  again = heading_again names name r.heading whole.heading kind p.2 new whole_is.2 types_are inside

  others : (n : List ℕ) → has_name n (names_without name whole) ≡ has_name n (rest_names names r)
  others n =
      sym (has_attribute-names n (without_attribute name whole.heading)) ∙ others_are names name r.heading whole.heading kind p.2 new whole_is.2 types_are inside n
      ∙ has_attribute-names n (rest_heading names r.heading)

  again_is : IsRelation (unnested_relation name whole)
  again_is =
      IsRelation-relation_of (unnested_relation name whole).heading (flat_map (unnested_tuples name whole) whole.body) (subst (λ h. IsHeading (pack h)) (sym again) p.2)
      (unnested_headed name whole (rows_headed whole whole_is) undone)

  -- a name of the part is one of the names
  part_named : (n : List ℕ) → has_attribute n (projection names r.heading) ≡ true → has_name n names ≡ true
  part_named n e = by_name (has_name n names) refl
    where
      by_name : (b : Bool) → has_name n names ≡ b → has_name n names ≡ true
      by_name true f = f
      by_name false f = absurd (true≢false (sym e ∙ ap is_some (type_at-projection names n r.heading) ∙ ap (λ b. is_some (if b then type_at n r.heading else None)) f))

  part_value : (v : Tuple) (n : List ℕ) → has_attribute n (projection names r.heading) ≡ true → value_at n (projected_tuple names v) ≡ value_at n v
  part_value v n e = value_of_projection names v n ∙ ap (λ b. if b then value_at n v else None) (part_named n e)

  names_of_part : (v : Tuple) → IsTupleOf r.heading v → (n : List ℕ) → has_name n (tuple_names (projected_tuple names v)) ≡ has_attribute n (projection names r.heading)
  names_of_part v has n = has_name-heading (projection names r.heading) (projected_tuple names v) (IsTupleOf-projected names r.heading v has) n

  agreed : (t x v : Tuple) → IsTupleOf r.heading t → IsTupleOf r.heading v → projected_tuple names v ≡ x → AgreeOn (tuple_names x) t x → AgreeOn (rest_names names r) t v → t ≡ v
  agreed t x v q has is inner rest = same_on_heading r.heading t v q has (λ n f. by_part n f (has_attribute n (projection names r.heading)) refl)
    where
      by_part : (n : List ℕ) → has_attribute n r.heading ≡ true → (b : Bool) → has_attribute n (projection names r.heading) ≡ b → value_at n t ≡ value_at n v
      by_part n f true g =
          inner n (ap (λ y. has_name n (tuple_names y)) (sym is) ∙ names_of_part v has n ∙ g) ∙ ap (value_at n) (sym is) ∙ part_value v n g
      by_part n f false g =
          rest n (sym (has_attribute-names n (rest_heading names r.heading)) ∙ has_attribute-outside (projection names r.heading) r.heading n
          ∙ (λ i. f i && not (g i)))

  -- where each tuple of the one is made from one of the other, and the other way round, it is what it was
  from_there : (t : Tuple) → IsIn t (unnested_relation name whole)
      → ((u x : Tuple) → IsIn u whole → Contains (tuples_inside (value_at name u)) x → (v : Tuple) × IsIn v r × (projected_tuple names v ≡ x) × AgreeOn (rest_names names r) u v) → IsIn t r
  from_there t c source =
      let own = member_headed (unnested_relation name whole) t again_is c in
      let headed : IsTupleOf r.heading t = subst (λ h. IsTupleOf h t) again own in
      let d = (unnest_by_membership name whole t whole_is undone own).0 c in
      let e = source d.0 d.1 d.2 d.3 in
      subst (λ y. IsIn y r) (sym (agreed t d.1 e.0 headed (member_headed r e.0 p e.1) e.2 d.5 (λ n f. d.4 n (others n ∙ f) ∙ e.3 n f))) e.1

  back_there : (t : Tuple) → IsIn t r → (u : Tuple) → IsIn u whole → Contains (tuples_inside (value_at name u)) (projected_tuple names t) → AgreeOn (rest_names names r) u t
      → IsIn t (unnested_relation name whole)
  back_there t c u u_there x_there agrees =
      let has = member_headed r t p c in
      (unnest_by_membership name whole t whole_is undone (subst (λ h. IsTupleOf h t) (sym again) has)).1
      (u, projected_tuple names t, u_there, x_there, (λ n f. sym (agrees n (sym (others n) ∙ f))), (λ n f. sym (part_value t n (sym (names_of_part t has n) ∙ f))))

  undone_is : ((u x : Tuple) → IsIn u whole → Contains (tuples_inside (value_at name u)) x → (v : Tuple) × IsIn v r × (projected_tuple names v ≡ x) × AgreeOn (rest_names names r) u v)
      → ((t : Tuple) → IsIn t r → (u : Tuple) × IsIn u whole × Contains (tuples_inside (value_at name u)) (projected_tuple names t) × AgreeOn (rest_names names r) u t)
      → unnested_relation name whole ≡ r
  undone_is source target =
      by_members (unnested_relation name whole) r again_is p again
      (λ t. ((λ c. from_there t c source), (λ c. let u = target t c in back_there t c u.0 u.1 u.2 u.3)))

-- the new name is not in the rest
new_of : (names : List (List ℕ)) (name : List ℕ) (h : Heading) → can_nest names name h ≡ true → has_attribute name (rest_heading names h) ≡ false
new_of names name h can = lacked (has_attribute name (rest_heading names h)) (second_true (has_projection names h) (not (has_attribute name (rest_heading names h))) can)

-- ---- WRAP undone

only : (y z : Tuple) → Contains (tuples_inside (Some (tuple_value y))) z → y ≡ z
only y z k = by_case (contains_cases (unpack_fields (pack_fields y)) [] z k)
  where
    by_case : (unpack_fields (pack_fields y) ≡ z) ⊎ Contains [] z → y ≡ z
    by_case (inl is) = sym (unpack_pack_fields y) ∙ is
    by_case (inr none) = absurd (contains_none z none)

pub unwrap_undoes_wrap : UnwrapUndoesWrap
unwrap_undoes_wrap names name r p can named =
    undone_is names name r (wrapped_relation names name r) (types.tuple (pack (projection names r.heading))) p (new_of names name r.heading can) whole_is
    (λ n. type_at-with n name (types.tuple (pack (projection names r.heading))) (rest_heading names r.heading)) (unpack_pack (projection names r.heading)) source target
  where
    heading : IsHeading (pack (wrapped_relation names name r).heading)
    heading =
        IsHeading-with name (types.tuple (pack (projection names r.heading))) (rest_heading names r.heading) named (IsHeading-filter (λ a. has_name a.0 names) r.heading p.2)
        (IsHeading-filter (λ a. not (has_attribute a.0 (projection names r.heading))) r.heading p.2)

    whole_is : IsRelation (wrapped_relation names name r)
    whole_is =
        IsRelation-relation_of (wrapped_relation names name r).heading (map (wrapped_tuple names name r) r.body) heading (wrapped_headed names name r (rows_headed r p) can heading)

    source : (u x : Tuple) → IsIn u (wrapped_relation names name r) → Contains (tuples_inside (value_at name u)) x
        → (v : Tuple) × IsIn v r × (projected_tuple names v ≡ x) × AgreeOn (rest_names names r) u v
    source u x c inside =
        let e = (wrap_by_membership names name r u p can (member_headed (wrapped_relation names name r) u whole_is c)).0 c in
        (e.0, e.1, only (projected_tuple names e.0) x (subst (λ o. Contains (tuples_inside o) x) e.3 inside), e.2)

    target : (t : Tuple) → IsIn t r
        → (u : Tuple) × IsIn u (wrapped_relation names name r) × Contains (tuples_inside (value_at name u)) (projected_tuple names t) × AgreeOn (rest_names names r) u t
    target t c =
        let has = member_headed r t p c in
        let u = wrapped_tuple names name r t in
        let x = projected_tuple names t in (
          u,
          (set_members (map (wrapped_tuple names name r) r.body) u).1 ((contains_map (wrapped_tuple names name r) r.body u).1 (t, c, refl)),
          subst (λ o. Contains (tuples_inside o) x) (sym (wrapped_part names name r p can t has)) (subst (λ y. Contains (y ∷ []) x) (sym (unpack_pack_fields x)) (contains_first x [])),
          wrapped_agrees names name r p can t has,
        )

-- ---- GROUP undone

pub ungroup_undoes_group : UngroupUndoesGroup
ungroup_undoes_group names name r p can named =
    undone_is names name r (grouped_relation names name r) (types.relation (pack (projection names r.heading))) p new whole_is types_are (unpack_pack (projection names r.heading)) source target
  where
    new : has_attribute name (rest_heading names r.heading) ≡ false
    new = new_of names name r.heading can

    key_heading : (keys names name r p can).heading ≡ rest_heading names r.heading
    key_heading = rest_of_names (λ n. not (has_attribute n (projection names r.heading))) r.heading p.2

    whole_is : IsRelation (grouped_relation names name r)
    whole_is =
        IsRelation-extended (addition names name r p can ∷ []) (keys names name r p can) (keys_are names name r p can) (addition_new names name r p can) (
          (
            named,
            IsHeading-filter (λ a. has_name a.0 names) r.heading p.2,
            (λ u c. (
              IsRelation-projected names (restriction (agree_on (rest_names names r) u) r)
                  (IsRelation-restriction (agree_on (rest_names names r) u) r p),
              refl,
            )),
          ),
          tt,
        )

    types_are : (n : List ℕ) → type_at n (grouped_relation names name r).heading
        ≡ (if same_name name n then Some (types.relation (pack (projection names r.heading))) else type_at n (rest_heading names r.heading))
    types_are n =
        type_at-union n (keys names name r p can).heading ((name, types.relation (pack (projection names r.heading))) ∷ [])
        ∙ ap (λ h. if has_attribute n h then type_at n h else (if same_name name n then Some (types.relation (pack (projection names r.heading))) else None)) key_heading
        ∙ by_name (same_name name n) refl (type_at n (rest_heading names r.heading)) refl
      where
        by_name : (b : Bool) → same_name name n ≡ b → (o : Option Type') → type_at n (rest_heading names r.heading) ≡ o
            → (if is_some o then o else (if b then Some (types.relation (pack (projection names r.heading))) else None))
            ≡ (if b then Some (types.relation (pack (projection names r.heading))) else o)
        by_name true e None f = refl
        by_name true e (Some k) f =
            absurd (true≢false (sym (ap is_some f) ∙ ap (λ m. has_attribute m (rest_heading names r.heading)) (sym (same_text name n (sym e))) ∙ new))
        by_name false e None f = refl
        by_name false e (Some k) f = refl

    source : (u x : Tuple) → IsIn u (grouped_relation names name r) → Contains (tuples_inside (value_at name u)) x
        → (v : Tuple) × IsIn v r × (projected_tuple names v ≡ x) × AgreeOn (rest_names names r) u v
    source u x c inside =
        let e = (group_by_membership names name r u p can (member_headed (grouped_relation names name r) u whole_is c)).0 c in
        let in_group : IsIn x e.1 = subst (λ ts. Contains ts x) (unpack_pack_rows e.1.body) (subst (λ o. Contains (tuples_inside o) x) e.4 inside) in
        let f = (e.5.1 x).0 in_group in
        (f.0, f.1, sym f.3, f.2)

    target : (t : Tuple) → IsIn t r
        → (u : Tuple) × IsIn u (grouped_relation names name r) × Contains (tuples_inside (value_at name u)) (projected_tuple names t) × AgreeOn (rest_names names r) u t
    target t c =
        let k = projected_tuple (rest_names names r) t in
        let k_there : IsIn k (keys names name r p can) =
        (set_members (map (projected_tuple (rest_names names r)) r.body) k).1 ((contains_map (projected_tuple (rest_names names r)) r.body k).1 (t, c, refl)) in
        let headed = member_headed (keys names name r p can) k (keys_are names name r p can) k_there in
        let u = extended_tuple (addition names name r p can ∷ []) k in
        let u_there : IsIn u (grouped_relation names name r) =
        (set_members (map (extended_tuple (addition names name r p can ∷ [])) (keys names name r p can).body) u).1
        ((contains_map (extended_tuple (addition names name r p can ∷ [])) (keys names name r p can).body u).1 (k, k_there, refl)) in
        let values = extended_values (addition names name r p can ∷ []) (keys names name r p can).heading k headed (addition_new names name r p can).0 (addition_new names name r p can).1 in
        let named_in : (n : List ℕ) → has_name n (tuple_names k) ≡ has_attribute n (rest_heading names r.heading) =
        λ n. has_name-heading (keys names name r p can).heading k headed n ∙ ap (has_attribute n) key_heading in
        let group : value_at name u ≡ Some (relation_value (group_of names r k)) =
        values name ∙ ap (λ b. if b then value_at name k else (if same_name name name then Some (relation_value (group_of names r k)) else None)) (named_in name ∙ new)
        ∙ ap (λ b. if b then Some (relation_value (group_of names r k)) else None) (same_name-itself name) in
        let in_group : IsIn (projected_tuple names t) (group_of names r k) =
        ((is_group names name r p can k k headed (λ n f. refl)).1 (projected_tuple names t)).1 (t, c, (λ n f. kept t n f), refl) in (
          u,
          u_there,
          subst (λ o. Contains (tuples_inside o) (projected_tuple names t)) (sym group) (subst (λ ts. Contains ts (projected_tuple names t)) (sym (unpack_pack_rows (group_of names r k).body)) in_group),
          (λ n f. values n ∙ ap (λ b. if b then value_at n k else (if same_name name n then Some (relation_value (group_of names r k)) else None))
              (named_in n ∙ has_attribute-names n (rest_heading names r.heading) ∙ f) ∙ kept t n f),
        )
      where
        kept : (t : Tuple) (n : List ℕ) → has_name n (rest_names names r) ≡ true → value_at n (projected_tuple (rest_names names r) t) ≡ value_at n t
        kept t n f = value_of_projection (rest_names names r) t n ∙ ap (λ b. if b then value_at n t else None) f
