-- Which tuples GROUP gives.
use Rattle.std.proofs.Common.{◌≡◌, ◌∙◌, ap, arith, sym, refl, subst, ℕ, Bool, true, false, List, [], ◌∷◌, Some, map}
use Rattle.std.specs.Prelude.{◌&&◌, not}
use Rattle.std.proofs.lemmas.List.Elements.{All-from_recursion}
use Rattle.td_types.specs.model.Headings.{has_attribute, has_name, has_projection, projection}
use Rattle.td_types.specs.model.Types.{attribute_names, pack}
use Rattle.td_types.specs.model.Types as types
use Rattle.td_value.specs.model.Agreement.{AgreeOn, agree_on}
use Rattle.td_value.specs.model.Values.{IsRelation, IsTupleOf, Relation, Tuple, projected_tuple, relation_value, value_at}
use Rattle.td_value.proofs.Agreement.{agreement_of_values, value_of_projection}
use Rattle.td_value.proofs.Members.{by_members, set_members}
use Rattle.td_algebra.specs.laws.Membership.{AreNew, IsIn}
use Rattle.td_algebra.specs.model.Operators.{Addition, projected_relation, relation_names, restriction, new_attribute}
use Rattle.td_algebra.proofs.Entries.{values_of_fields}
use Rattle.td_algebra.proofs.Extensions.{extension_members}
use Rattle.td_algebra.proofs.Lists.{contains_filter, contains_map}
use Rattle.td_algebra.proofs.Members.{second_true}
use Rattle.td_algebra.proofs.Projections.{projection_members}
use Rattle.td_algebra.proofs.Relations.{IsRelation-restriction, member_headed}
use Rattle.td_algebra.proofs.Results.{IsRelation-projected}
use Rattle.td_group.specs.laws.Membership.{GroupByMembership, IsGroupOf}
use Rattle.td_group.specs.model.Nesting.{can_nest, group_of, grouped_relation, rest_heading, rest_names}
use Rattle.td_group.proofs.Grouped.{rest_lacks}
use Rattle.td_group.proofs.Nested.{value_in}
use Rattle.td_group.proofs.Rests.{rest_of_names}

and_true : (b : Bool) → (b && true) ≡ b
and_true true = refl
and_true false = refl

module _ (names : List (List ℕ)) (name : List ℕ) (r : Relation) (p : IsRelation r) (can : can_nest names name r.heading ≡ true) where
  abbrev pub keys : Relation
  keys = projected_relation (rest_names names r) r

  abbrev pub addition : Addition
  addition = new_attribute name (types.relation (pack (projection names r.heading))) (λ t. relation_value (group_of names r t))

  pub keys_are : IsRelation keys
  keys_are = IsRelation-projected (rest_names names r) r p

  -- the keys have the names of the rest
  key_names : relation_names keys ≡ rest_names names r
  key_names = ap attribute_names (rest_of_names (λ n. not (has_attribute n (projection names r.heading))) r.heading p.2)

  pub addition_new : AreNew (addition ∷ []) keys
  addition_new = (
    refl,
    and_true (not (has_attribute name keys.heading)) ∙ rest_lacks (projection names r.heading) r.heading name
        (second_true (has_projection names r.heading) (not (has_attribute name (rest_heading names r.heading))) can),
  )

  -- the group of a tuple is that of a key which agrees with it on the rest
  pub is_group : (t k : Tuple) → IsTupleOf keys.heading k → AgreeOn (rest_names names r) t k → IsGroupOf names r t (group_of names r k)
  is_group t k q agrees = (refl, λ x. (there x, back x))
    where
      there : (x : Tuple) → IsIn x (group_of names r k) → (u : Tuple) × IsIn u r × AgreeOn (rest_names names r) t u × (x ≡ projected_tuple names u)
      there x c =
          let d = (contains_map (projected_tuple names) (restriction (agree_on (rest_names names r) k) r).body x).0
          ((set_members (map (projected_tuple names) (restriction (agree_on (rest_names names r) k) r).body) x).0 c) in
          let e = (contains_filter (agree_on (rest_names names r) k) r.body d.0).0 d.1 in
          let agreed = (agreement_of_values (rest_names names r) k d.0 q.0 (member_headed r d.0 p e.0).0).0 e.1 in
          (d.0, e.0, (λ n f. agrees n f ∙ agreed n f), sym d.2)

      back : (x : Tuple) → (u : Tuple) × IsIn u r × AgreeOn (rest_names names r) t u × (x ≡ projected_tuple names u) → IsIn x (group_of names r k)
      back x d =
          let agreed = (agreement_of_values (rest_names names r) k d.0 q.0 (member_headed r d.0 p d.1).0).1 (λ n f. sym (agrees n f) ∙ d.2 n f) in
          let kept = (contains_filter (agree_on (rest_names names r) k) r.body d.0).1 (d.1, agreed) in
          (set_members (map (projected_tuple names) (restriction (agree_on (rest_names names r) k) r).body) x).1
          ((contains_map (projected_tuple names) (restriction (agree_on (rest_names names r) k) r).body x).1 (d.0, kept, sym d.3))

  -- two such sets are one
  one_group : (t : Tuple) (g h : Relation) → IsRelation g → IsRelation h → IsGroupOf names r t g → IsGroupOf names r t h → g ≡ h
  one_group t g h a b d e = by_members g h a b (d.0 ∙ sym e.0) (λ x. ((λ c. (e.1 x).1 ((d.1 x).0 c)), (λ c. (d.1 x).1 ((e.1 x).0 c))))

  pub group_there : (t : Tuple) → IsTupleOf (grouped_relation names name r).heading t → IsIn t (grouped_relation names name r)
      → (u : Tuple) × (g : Relation) × IsIn u r × AgreeOn (rest_names names r) t u × (value_at name t ≡ Some (relation_value g)) × IsGroupOf names r t g
  group_there t q c =
      let d = (extension_members (addition ∷ []) keys t keys_are addition_new q).0 c in
      let k = d.0 in
      let headed = member_headed keys k keys_are d.1 in
      let agrees : AgreeOn (rest_names names r) t k = subst (λ ns. AgreeOn ns t k) key_names d.2.0 in
      let e = (projection_members (rest_names names r) r k p headed).0 d.1 in
      (e.0, group_of names r k, e.1, (λ n f. agrees n f ∙ e.2 n f), d.2.1 0 addition (omega arith), is_group t k headed agrees)

  pub group_back : (t : Tuple) → IsTupleOf (grouped_relation names name r).heading t
      → (u : Tuple) × (g : Relation) × IsIn u r × AgreeOn (rest_names names r) t u × (value_at name t ≡ Some (relation_value g)) × IsGroupOf names r t g
      → IsIn t (grouped_relation names name r)
  group_back t q d =
      let k = projected_tuple (rest_names names r) d.0 in
      let in_keys : IsIn k keys =
      (set_members (map (projected_tuple (rest_names names r)) r.body) k).1 ((contains_map (projected_tuple (rest_names names r)) r.body k).1 (d.0, d.2, refl)) in
      let headed = member_headed keys k keys_are in_keys in
      let agrees : AgreeOn (rest_names names r) t k = λ n f. d.3 n f ∙ sym (kept n f) in
      let group_is : IsRelation (group_of names r k) =
      IsRelation-projected names (restriction (agree_on (rest_names names r) k) r) (IsRelation-restriction (agree_on (rest_names names r) k) r p) in
      let same : d.1 ≡ group_of names r k = one_group t d.1 (group_of names r k) (value_in name t (relation_value d.1) (values_of_fields t q.0.0) d.4) group_is d.5 (is_group t k headed agrees) in
      (extension_members (addition ∷ []) keys t keys_are addition_new q).1 (
        k,
        in_keys,
        (
          subst (λ ns. AgreeOn ns t k) (sym key_names) agrees,
          All-from_recursion (λ (a : Addition). value_at a.name t ≡ Some (a.value k)) (addition ∷ []) (d.4 ∙ ap (λ g. Some (relation_value g)) same, tt),
        ),
      )
    where
      kept : (n : List ℕ) → has_name n (rest_names names r) ≡ true → value_at n (projected_tuple (rest_names names r) d.0) ≡ value_at n d.0
      kept n f = value_of_projection (rest_names names r) d.0 n ∙ rw f refl

pub group_by_membership : GroupByMembership
group_by_membership names name r t p can q = (group_there names name r p can t q, group_back names name r p can t q)
