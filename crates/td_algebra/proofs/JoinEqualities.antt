-- Equalities of joins and their kin, by their tuples.
use Rattle.std.proofs.Common.{◌≡◌, ◌∙◌, ap, sym, refl, subst, ℕ, Bool, true, false, List, [], ◌∷◌, Option, None, Some, filter, map, true≢false}
use Rattle.std.specs.Prelude.{◌&&◌, ◌||◌, not, if◌then◌else◌, is_some}
use Rattle.std.specs.List.{Contains, list_any}
use Rattle.std.specs.Ordering.{eq_by_cmp}
use Rattle.td_types.specs.model.Headings.{agree, has_attribute, has_name, have_no_common, heading_union, projection}
use Rattle.td_types.specs.model.Types.{Type', Heading, IsAscending, attribute_names, same_name, type_at}
use Rattle.td_types.proofs.HeadingLaws.{IsHeading-filter, IsAscending-projection, IsAscending-union, agreement_is_one_type, ascending_from_heading, has_attribute-names, same_name-itself, type_at-projection, type_at-union, types_determine_heading}
use Rattle.td_value.specs.model.Agreement.{AgreeOn}
use Rattle.std.proofs.lemmas.Cmp.{eq_by_cmp_equiv}
use Rattle.std.proofs.lemmas.Map.Views.{Contains-from_any, list_any-from_Contains}
use Rattle.td_value.specs.model.Sets.{has}
use Rattle.td_value.specs.code.ValueOrder.{tuple_Decides, tuple_order_total}
use Rattle.td_value.specs.model.Values.{Val, IsRelation, IsTuple, IsTupleOf, Relation, Tuple, projected_tuple, tuple_cmp, value_at, relation_view}
use Rattle.td_value.proofs.Agreement.{tuples_of_values, value_of_projection}
use Rattle.td_value.proofs.Kept.{IsTuple-filter}
use Rattle.td_value.proofs.Members.{by_members}
use Rattle.td_algebra.specs.laws.Equalities.{DifferenceIsSemidifference, IntersectionIsJoin, JoinIsAssociative, JoinIsCommutative, ProductIsJoin, RestrictionOfJoin, SemijoinIsProjectedJoin}
use Rattle.td_algebra.specs.laws.Membership.{AreJoinable, IsIn}
use Rattle.td_algebra.specs.model.Operators.{are_partners, common_names, intersection, join, product, projected_relation, relation_names, restriction, semijoin, united_tuple}
use Rattle.td_algebra.proofs.Entries.{no_value_outside, same_on_heading}
use Rattle.td_algebra.proofs.Extensions.{apart}
use Rattle.td_algebra.proofs.Joined.{apart_agree, product_join}
use Rattle.td_algebra.proofs.JoinMembers.{IsRelation-join, agree_from_partners, join_members, join_of_pairs, partners_from_agree, semijoin_members, value_in_united}
use Rattle.td_algebra.proofs.Lists.{contains_filter, contains_first, contains_later, contains_map}
use Rattle.td_algebra.proofs.PartnersByValues.{has_common}
use Rattle.td_algebra.proofs.Projections.{IsTupleOf-projected, projection_members}
use Rattle.td_algebra.proofs.Relations.{All-from_members, IsRelation-relation_of, IsRelation-restriction, member_headed}

-- two relations of one heading, each with the tuples of the other, are one
one_relation : (a b : Relation) → IsRelation a → IsRelation b → a.heading ≡ b.heading → ((t : Tuple) → IsTupleOf a.heading t → IsIn t a → IsIn t b)
    → ((t : Tuple) → IsTupleOf b.heading t → IsIn t b → IsIn t a) → a ≡ b
one_relation a b p q e there back = by_members a b p q e (λ t. (λ c. there t (member_headed a t p c) c, λ c. back t (member_headed b t q c) c))

ascends : (r : Relation) → IsRelation r → IsAscending r.heading
ascends r p = ascending_from_heading r.heading p.2

-- ---- headings

some_of : {A : Type 0} (o : Option A) → is_some o ≡ true → (a : A) × (o ≡ Some a)
some_of None e = absurd (true≢false (sym e))
some_of (Some a) e = (a, refl)

-- a name of both headings has one type
one_type : (g h : Heading) → IsAscending g → agree g h ≡ true → (n : List ℕ) → has_attribute n g ≡ true → has_attribute n h ≡ true → type_at n g ≡ type_at n h
one_type g h up a n e f =
    let s = some_of (type_at n g) e in
    let t = some_of (type_at n h) f in
    s.1 ∙ ap Some ((agreement_is_one_type g h up).0 a n s.0 t.0 s.1 t.1) ∙ sym t.1

agree_turned : (g h : Heading) → IsAscending g → IsAscending h → agree g h ≡ true → agree h g ≡ true
agree_turned g h up down a = (agreement_is_one_type h g down).1 (λ n s t e f. sym ((agreement_is_one_type g h up).0 a n t s f e))

has_union : (n : List ℕ) (g h : Heading) → has_attribute n (heading_union g h) ≡ (has_attribute n g || has_attribute n h)
has_union n g h = ap is_some (type_at-union n g h) ∙ by_test (type_at n g)
  where
    by_test : (o : Option Type') → is_some (if is_some o then o else type_at n h) ≡ (is_some o || is_some (type_at n h))
    by_test None = refl
    by_test (Some t) = refl

union_turned : (g h : Heading) → IsAscending g → IsAscending h → agree g h ≡ true → heading_union g h ≡ heading_union h g
union_turned g h up down a =
    types_determine_heading (heading_union g h) (heading_union h g) (IsAscending-union g h up) (IsAscending-union h g down)
    (λ n. type_at-union n g h ∙ by_types (type_at n g) (type_at n h) (λ e f. one_type g h up a n e f) ∙ sym (type_at-union n h g))
  where
    by_types : (s t : Option Type') → (is_some s ≡ true → is_some t ≡ true → s ≡ t) → (if is_some s then s else t) ≡ (if is_some t then t else s)
    by_types None None h = refl
    by_types None (Some t) h = refl
    by_types (Some s) None h = refl
    by_types (Some s) (Some t) h = h refl refl

union_joined : (g h k : Heading) → IsAscending g → IsAscending h → heading_union (heading_union g h) k ≡ heading_union g (heading_union h k)
union_joined g h k up down =
    types_determine_heading (heading_union (heading_union g h) k) (heading_union g (heading_union h k)) (IsAscending-union (heading_union g h) k (IsAscending-union g h up))
    (IsAscending-union g (heading_union h k) up)
    (λ n. type_at-union n (heading_union g h) k ∙ (λ i. if is_some (type_at-union n g h i) then type_at-union n g h i else type_at n k)
    ∙ by_types (type_at n g) (type_at n h) (type_at n k) ∙ (λ i. if is_some (type_at n g) then type_at n g else sym (type_at-union n h k) i) ∙ sym (type_at-union n g (heading_union h k)))
  where
    by_types : (s t u : Option Type') → (if is_some (if is_some s then s else t) then (if is_some s then s else t) else u) ≡ (if is_some s then s else (if is_some t then t else u))
    by_types None t u = refl
    by_types (Some s) t u = refl

union_itself : (g : Heading) → IsAscending g → heading_union g g ≡ g
union_itself g up =
    types_determine_heading (heading_union g g) g (IsAscending-union g g up) up (λ n. type_at-union n g g ∙ by_type (type_at n g))
  where
    by_type : (o : Option Type') → (if is_some o then o else o) ≡ o
    by_type None = refl
    by_type (Some t) = refl

agree_itself : (g : Heading) → IsAscending g → agree g g ≡ true
agree_itself g up = (agreement_is_one_type g g up).1 same
  where
    same : (n : List ℕ) (s t : Type') → type_at n g ≡ Some s → type_at n g ≡ Some t → s ≡ t
    same n s t e f = some_is s t (sym e ∙ f)
      where
        some_is : (s t : Type') → Some s ≡ Some t → s ≡ t
        some_is s t e = cc

-- the first one's attributes of a union
first_of_union : (g h : Heading) → IsAscending g → projection (attribute_names g) (heading_union g h) ≡ g
first_of_union g h up =
    types_determine_heading (projection (attribute_names g) (heading_union g h)) g (IsAscending-projection (attribute_names g) (heading_union g h) (IsAscending-union g h up)) up
    (λ n. type_at-projection (attribute_names g) n (heading_union g h) ∙ (λ i. if sym (has_attribute-names n g) i then type_at-union n g h i else None) ∙ by_type (type_at n g) (type_at n h))
  where
    by_type : (s t : Option Type') → (if is_some s then (if is_some s then s else t) else None) ≡ s
    by_type None t = refl
    by_type (Some s) t = refl

-- ---- parts of tuples

part_value : (f : Heading) (t : Tuple) (n : List ℕ) → value_at n (projected_tuple (attribute_names f) t) ≡ (if has_attribute n f then value_at n t else None)
part_value f t n = value_of_projection (attribute_names f) t n ∙ ap (λ b. if b then value_at n t else None) (sym (has_attribute-names n f))

-- a tuple of the heading is its own part
pub whole_part : (g : Heading) (t : Tuple) → IsTupleOf g t → projected_tuple (attribute_names g) t ≡ t
whole_part g t p =
    tuples_of_values (projected_tuple (attribute_names g) t) t (IsTuple-filter (λ e. has_name e.0 (attribute_names g)) t p.0) p.0
    (λ n. part_value g t n ∙ by_test (has_attribute n g) (value_at n t) (λ e. no_value_outside g t p n e))
  where
    by_test : (b : Bool) (x : Option Val) → (b ≡ false → x ≡ None) → (if b then x else None) ≡ x
    by_test true x e = refl
    by_test false x e = sym (e refl)

-- a part of a part
part_of_part : (f g : Heading) (t : Tuple) → IsTuple t → ((n : List ℕ) → has_attribute n f ≡ true → has_attribute n g ≡ true)
    → projected_tuple (attribute_names f) (projected_tuple (attribute_names g) t) ≡ projected_tuple (attribute_names f) t
part_of_part f g t p within =
    tuples_of_values (projected_tuple (attribute_names f) (projected_tuple (attribute_names g) t)) (projected_tuple (attribute_names f) t)
    (IsTuple-filter (λ e. has_name e.0 (attribute_names f)) (projected_tuple (attribute_names g) t) (IsTuple-filter (λ e. has_name e.0 (attribute_names g)) t p))
    (IsTuple-filter (λ e. has_name e.0 (attribute_names f)) t p)
    (λ n. part_value f (projected_tuple (attribute_names g) t) n ∙ ap (λ v. if has_attribute n f then v else None) (part_value g t n)
    ∙ by_tests (has_attribute n f) (has_attribute n g) (value_at n t) (within n) ∙ sym (part_value f t n))
  where
    by_tests : (b c : Bool) (x : Option Val) → (b ≡ true → c ≡ true) → (if b then (if c then x else None) else None) ≡ (if b then x else None)
    by_tests true true x e = refl
    by_tests true false x e = absurd (true≢false (sym (e refl)))
    by_tests false c x e = refl

-- ---- the equalities

turned_joinable : (r s : Relation) → AreJoinable r s → AreJoinable s r
turned_joinable r s j = (j.1, j.0, agree_turned r.heading s.heading (ascends r j.0) (ascends s j.1) j.2)

pub join_commutes : JoinIsCommutative
join_commutes r s j =
    let k = turned_joinable r s j in
    one_relation (join r s) (join s r) (IsRelation-join r s j.0 j.1) (IsRelation-join s r j.1 j.0) (union_turned r.heading s.heading (ascends r j.0) (ascends s j.1) j.2)
    (turned r s j k (union_turned r.heading s.heading (ascends r j.0) (ascends s j.1) j.2)) (turned s r k j (union_turned s.heading r.heading (ascends s j.1) (ascends r j.0) k.2))
  where
    turned : (a b : Relation) → AreJoinable a b → AreJoinable b a → heading_union a.heading b.heading ≡ heading_union b.heading a.heading
        → (t : Tuple) → IsTupleOf (heading_union a.heading b.heading) t → IsIn t (join a b) → IsIn t (join b a)
    turned a b j k e t p c =
        let both = (join_members a b t j p).0 c in
        (join_members b a t k (subst (λ h. IsTupleOf h t) e p)).1 (both.1, both.0)

-- a heading has nothing in common with one that has none of its names
none_in_common : (g h : Heading) → ((n : List ℕ) → has_attribute n h ≡ true → has_attribute n g ≡ false) → have_no_common h g ≡ true
none_in_common g [] lack = refl
none_in_common g (a ∷ h) lack = rw (lack a.0 (rw (same_name-itself a.0) refl)) (none_in_common g h (λ n there. lack n (later n there (same_name a.0 n))))
  where
    later : (n : List ℕ) → has_attribute n h ≡ true → (b : Bool) → is_some (if b then Some a.1 else type_at n h) ≡ true
    later n there true = refl
    later n there false = there

pub apart_turned : (g h : Heading) → have_no_common g h ≡ true → have_no_common h g ≡ true
apart_turned g h e = none_in_common g h (apart g h e)

pub product_commutes : (r s : Relation) → IsRelation r → IsRelation s → have_no_common r.heading s.heading ≡ true → product s r ≡ product r s
product_commutes r s p q e =
    product_join s r (apart_turned r.heading s.heading e) ∙ sym (join_commutes r s (p, q, apart_agree r.heading s.heading e)) ∙ sym (product_join r s e)

pub product_is_join : ProductIsJoin
product_is_join r s e = product_join r s e

-- what a restriction asks of r's attributes it asks of a tuple's part
pub join_restricted : RestrictionOfJoin
join_restricted p r s j asked =
    let kept = IsRelation-restriction p r j.0 in
    one_relation (restriction p (join r s)) (join (restriction p r) s) (IsRelation-restriction p (join r s) (IsRelation-join r s j.0 j.1)) (IsRelation-join (restriction p r) s kept j.1) refl
    (λ t h c. (let d = (contains_filter p (join r s).body t).0 c in
    let both = (join_members r s t j h).0 d.0 in
    (join_members (restriction p r) s t (kept, j.1, j.2) h).1
    ((contains_filter p r.body (projected_tuple (relation_names r) t)).1 (both.0, sym (asked t) ∙ d.1), both.1)))
    (λ t h c. (let both = (join_members (restriction p r) s t (kept, j.1, j.2) h).0 c in
    let d = (contains_filter p r.body (projected_tuple (relation_names r) t)).0 both.0 in
    (contains_filter p (join r s).body t).1 ((join_members r s t j h).1 (d.0, both.1), asked t ∙ d.1)))

-- ---- three operands

agree_union : (g h k : Heading) → IsAscending g → IsAscending h → agree g k ≡ true → agree h k ≡ true → agree (heading_union g h) k ≡ true
agree_union g h k up down a b = (agreement_is_one_type (heading_union g h) k (IsAscending-union g h up)).1 one
  where
    one : (n : List ℕ) (s t : Type') → type_at n (heading_union g h) ≡ Some s → type_at n k ≡ Some t → s ≡ t
    one n s t e f = by_test (has_attribute n g) (sym (type_at-union n g h) ∙ e)
      where
        by_test : (b : Bool) → (if b then type_at n g else type_at n h) ≡ Some s → s ≡ t
        by_test true d = (agreement_is_one_type g k up).0 a n s t d f
        by_test false d = (agreement_is_one_type h k down).0 b n s t d f

part_headed : (f g : Heading) (t : Tuple) → projection (attribute_names f) g ≡ f → IsTupleOf g t → IsTupleOf f (projected_tuple (attribute_names f) t)
part_headed f g t e p = subst (λ h. IsTupleOf h (projected_tuple (attribute_names f) t)) e (IsTupleOf-projected (attribute_names f) g t p)

in_first : (g h : Heading) (n : List ℕ) → has_attribute n g ≡ true → has_attribute n (heading_union g h) ≡ true
in_first g h n e = has_union n g h ∙ rw e refl

in_second : (g h : Heading) (n : List ℕ) → has_attribute n h ≡ true → has_attribute n (heading_union g h) ≡ true
in_second g h n e = has_union n g h ∙ rw e (or_true (has_attribute n g))
  where
    or_true : (b : Bool) → (b || true) ≡ true
    or_true true = refl
    or_true false = refl

module _ (r s q : Relation) (a : AreJoinable r s) (b : AreJoinable r q) (c : AreJoinable s q) where
  first_two : AreJoinable (join r s) q
  first_two = (IsRelation-join r s a.0 a.1, c.1, agree_union r.heading s.heading q.heading (ascends r a.0) (ascends s a.1) b.2 c.2)

  others_first : agree (heading_union s.heading q.heading) r.heading ≡ true
  others_first =
      agree_union s.heading q.heading r.heading (ascends s c.0) (ascends q c.1) (agree_turned r.heading s.heading (ascends r a.0) (ascends s a.1) a.2)
      (agree_turned r.heading q.heading (ascends r b.0) (ascends q b.1) b.2)

  last_two : AreJoinable r (join s q)
  last_two = (
    a.0,
    IsRelation-join s q c.0 c.1,
    agree_turned (heading_union s.heading q.heading) r.heading (IsAscending-union s.heading q.heading (ascends s c.0)) (ascends r a.0) others_first,
  )

  one_heading : heading_union (heading_union r.heading s.heading) q.heading ≡ heading_union r.heading (heading_union s.heading q.heading)
  one_heading = union_joined r.heading s.heading q.heading (ascends r a.0) (ascends s a.1)

  last_part : projection (attribute_names (heading_union s.heading q.heading)) (heading_union r.heading (heading_union s.heading q.heading)) ≡ heading_union s.heading q.heading
  last_part =
      ap (projection (attribute_names (heading_union s.heading q.heading)))
      (union_turned r.heading (heading_union s.heading q.heading) (ascends r a.0) (IsAscending-union s.heading q.heading (ascends s c.0)) last_two.2)
      ∙ first_of_union (heading_union s.heading q.heading) r.heading (IsAscending-union s.heading q.heading (ascends s c.0))

  -- the part on two of the relations, and on one of these
  part_in : (f g : Heading) (x : Relation) (t : Tuple) → IsTuple t → ((n : List ℕ) → has_attribute n f ≡ true → has_attribute n g ≡ true)
      → IsIn (projected_tuple (attribute_names f) (projected_tuple (attribute_names g) t)) x → IsIn (projected_tuple (attribute_names f) t) x
  part_in f g x t p within d = subst (Contains x.body) (part_of_part f g t p within) d

  in_part : (f g : Heading) (x : Relation) (t : Tuple) → IsTuple t → ((n : List ℕ) → has_attribute n f ≡ true → has_attribute n g ≡ true)
      → IsIn (projected_tuple (attribute_names f) t) x → IsIn (projected_tuple (attribute_names f) (projected_tuple (attribute_names g) t)) x
  in_part f g x t p within d = subst (Contains x.body) (sym (part_of_part f g t p within)) d

  to_last : (t : Tuple) → IsTupleOf (heading_union (heading_union r.heading s.heading) q.heading) t → IsIn t (join (join r s) q) → IsIn t (join r (join s q))
  to_last t h d =
      let outer = (join_members (join r s) q t first_two h).0 d in
      let two = projected_tuple (attribute_names (heading_union r.heading s.heading)) t in
      let inner = (join_members r s two a (member_headed (join r s) two first_two.0 outer.0)).0 outer.0 in
      let h' = subst (λ f. IsTupleOf f t) one_heading h in
      let last = projected_tuple (attribute_names (heading_union s.heading q.heading)) t in
      let of_r = part_in r.heading (heading_union r.heading s.heading) r t h.0 (in_first r.heading s.heading) inner.0 in
      let of_s = part_in s.heading (heading_union r.heading s.heading) s t h.0 (in_second r.heading s.heading) inner.1 in
      (join_members r (join s q) t last_two h').1 (
        of_r,
        (join_members s q last c (part_headed (heading_union s.heading q.heading) (heading_union r.heading (heading_union s.heading q.heading)) t last_part h')).1 (
          in_part s.heading (heading_union s.heading q.heading) s t h.0 (in_first s.heading q.heading) of_s,
          in_part q.heading (heading_union s.heading q.heading) q t h.0 (in_second s.heading q.heading) outer.1,
        ),
      )

  to_first : (t : Tuple) → IsTupleOf (heading_union r.heading (heading_union s.heading q.heading)) t → IsIn t (join r (join s q)) → IsIn t (join (join r s) q)
  to_first t h d =
      let outer = (join_members r (join s q) t last_two h).0 d in
      let last = projected_tuple (attribute_names (heading_union s.heading q.heading)) t in
      let inner = (join_members s q last c (member_headed (join s q) last last_two.1 outer.1)).0 outer.1 in
      let h' = subst (λ f. IsTupleOf f t) (sym one_heading) h in
      let two = projected_tuple (attribute_names (heading_union r.heading s.heading)) t in
      let of_s = part_in s.heading (heading_union s.heading q.heading) s t h.0 (in_first s.heading q.heading) inner.0 in
      let of_q = part_in q.heading (heading_union s.heading q.heading) q t h.0 (in_second s.heading q.heading) inner.1 in
      (join_members (join r s) q t first_two h').1 (
        (join_members r s two a (part_headed (heading_union r.heading s.heading) (heading_union (heading_union r.heading s.heading) q.heading) t
            (first_of_union (heading_union r.heading s.heading) q.heading (IsAscending-union r.heading s.heading (ascends r a.0))) h')).1 (
              in_part r.heading (heading_union r.heading s.heading) r t h.0 (in_first r.heading s.heading) outer.0,
              in_part s.heading (heading_union r.heading s.heading) s t h.0 (in_second r.heading s.heading) of_s,
            ),
        of_q,
      )

  pub joined_either_way : join (join r s) q ≡ join r (join s q)
  joined_either_way =
      one_relation (join (join r s) q) (join r (join s q)) (IsRelation-join (join r s) q first_two.0 first_two.1) (IsRelation-join r (join s q) last_two.0 last_two.1)
      one_heading to_last to_first

pub join_associates : JoinIsAssociative
join_associates r s q a b c = joined_either_way r s q a b c

-- ---- INTERSECT, MATCHING and MINUS

pub intersection_joins : IntersectionIsJoin
intersection_joins r s a =
    one_relation (intersection r s) (join r s) (IsRelation-restriction (λ t. has tuple_cmp t s.body) r a.0) (IsRelation-join r s a.0 a.1) heading there back
  where
    heading : r.heading ≡ heading_union r.heading s.heading
    heading = sym (union_itself r.heading (ascends r a.0)) ∙ ap (heading_union r.heading) a.2

    joinable : AreJoinable r s
    joinable = (a.0, a.1, subst (λ h. agree r.heading h ≡ true) a.2 (agree_itself r.heading (ascends r a.0)))

    there : (t : Tuple) → IsTupleOf r.heading t → IsIn t (intersection r s) → IsIn t (join r s)
    there t h c =
        let d = (contains_filter (λ u. has tuple_cmp u s.body) r.body t).0 c in
        let other : Contains s.body t = Contains-from_any (λ x y e. (tuple_Decides x y).0 e) t s.body d.1 in
        (join_members r s t joinable (subst (λ f. IsTupleOf f t) heading h)).1
        (subst (Contains r.body) (sym (whole_part r.heading t h)) d.0, subst (Contains s.body) (sym (whole_part s.heading t (subst (λ f. IsTupleOf f t) a.2 h))) other)

    back : (t : Tuple) → IsTupleOf (heading_union r.heading s.heading) t → IsIn t (join r s) → IsIn t (intersection r s)
    back t h c =
        let own = subst (λ f. IsTupleOf f t) (sym heading) h in
        let both = (join_members r s t joinable h).0 c in
        let first = subst (Contains r.body) (whole_part r.heading t own) both.0 in
        let second = subst (Contains s.body) (whole_part s.heading t (subst (λ f. IsTupleOf f t) a.2 own)) both.1 in
        (contains_filter (λ u. has tuple_cmp u s.body) r.body t).1 (first, list_any-from_Contains (eq_by_cmp_equiv tuple_order_total) t s.body second)

pub semijoin_projects : SemijoinIsProjectedJoin
semijoin_projects r s j =
    one_relation (semijoin r s) (projected_relation (relation_names r) (join r s)) (IsRelation-restriction (λ t. list_any (are_partners r s t) s.body) r j.0) projected
    (sym (first_of_union r.heading s.heading (ascends r j.0))) there back
  where
    joined : IsRelation (join r s)
    joined = IsRelation-join r s j.0 j.1

    headed : (t : Tuple) → Contains (map (projected_tuple (relation_names r)) (join r s).body) t → IsTupleOf (projection (relation_names r) (heading_union r.heading s.heading)) t
    headed t c =
        let d = (contains_map (projected_tuple (relation_names r)) (join r s).body t).0 c in
        subst (IsTupleOf (projection (relation_names r) (heading_union r.heading s.heading))) d.2
        (IsTupleOf-projected (relation_names r) (heading_union r.heading s.heading) d.0 (member_headed (join r s) d.0 joined d.1))

    projected : IsRelation (projected_relation (relation_names r) (join r s))
    projected =
        IsRelation-relation_of (projection (relation_names r) (heading_union r.heading s.heading)) (map (projected_tuple (relation_names r)) (join r s).body)
        (IsHeading-filter (λ a. has_name a.0 (relation_names r)) (heading_union r.heading s.heading) joined.2)
        (All-from_members (IsTupleOf (projection (relation_names r) (heading_union r.heading s.heading))) (map (projected_tuple (relation_names r)) (join r s).body) headed)

    among : (n : List ℕ) → has_name n (relation_names r) ≡ true → has_attribute n r.heading ≡ true
    among n e = has_attribute-names n r.heading ∙ e

    there : (t : Tuple) → IsTupleOf r.heading t → IsIn t (semijoin r s) → IsIn t (projected_relation (relation_names r) (join r s))
    there t h c =
        let d = (semijoin_members r s t j.0 j.1).0 c in
        let w = d.1 in
        let q = member_headed s w.0 j.1 w.1 in
        (projection_members (relation_names r) (join r s) t joined (subst (λ f. IsTupleOf f t) (sym (first_of_union r.heading s.heading (ascends r j.0))) h)).1 (
          united_tuple t w.0,
          (join_of_pairs r s (united_tuple t w.0)).1 (t, w.0, d.0, w.1, partners_from_agree r s t w.0 h q w.2, refl),
          λ n e. sym (value_in_united r.heading s.heading t w.0 h q n ∙ rw (among n e) refl),
        )

    back : (t : Tuple) → IsTupleOf (projection (relation_names r) (heading_union r.heading s.heading)) t → IsIn t (projected_relation (relation_names r) (join r s)) → IsIn t (semijoin r s)
    back t h c =
        let own = subst (λ f. IsTupleOf f t) (first_of_union r.heading s.heading (ascends r j.0)) h in
        let x = (projection_members (relation_names r) (join r s) t joined h).0 c in
        let d = (join_of_pairs r s x.0).0 x.1 in
        let p = member_headed r d.0 j.0 d.2 in
        let q = member_headed s d.1 j.1 d.3 in
        let is : t ≡ d.0 =
        same_on_heading r.heading t d.0 own p (λ n e. x.2 n (sym (has_attribute-names n r.heading) ∙ e) ∙ ap (value_at n) (sym d.5) ∙ value_in_united r.heading s.heading d.0 d.1 p q n ∙ rw e refl) in
        (semijoin_members r s t j.0 j.1).1
        (subst (Contains r.body) (sym is) d.2, (d.1, d.3, subst (λ u. AgreeOn (common_names r s) u d.1) (sym is) (agree_from_partners r s d.0 d.1 p q d.4)))

kept_same : {X : Type 0} (f g : X → Bool) (xs : List X) → ((x : X) → Contains xs x → f x ≡ g x) → filter f xs ≡ filter g xs
kept_same f g [] h = refl
kept_same f g (x ∷ xs) h =
    rw (h x (contains_first x xs), kept_same f g xs (λ y c. h y (contains_later x xs y c))) refl

any_same : {X : Type 0} (f g : X → Bool) (xs : List X) → ((x : X) → Contains xs x → f x ≡ g x) → list_any f xs ≡ list_any g xs
any_same f g [] h = refl
any_same f g (x ∷ xs) h = λ i. h x (contains_first x xs) i || any_same f g xs (λ y c. h y (contains_later x xs y c)) i

pub difference_lacks : DifferenceIsSemidifference
difference_lacks r s a =
    ap (relation_view r.heading)
    (kept_same (λ t. not (has tuple_cmp t s.body)) (λ t. not (list_any (are_partners r s t) s.body)) r.body
    (λ t c. ap not (any_same (eq_by_cmp tuple_cmp t) (are_partners r s t) s.body
    (λ u d. (λ i. eq_by_cmp tuple_cmp (sym (common_part_is t (member_headed r t a.0 c)) i)
    (sym (common_part_is u (subst (λ f. IsTupleOf f u) (sym a.2) (member_headed s u a.1 d))) i))))))
  where
    names : (n : List ℕ) → has_name n (common_names r s) ≡ has_name n (attribute_names r.heading)
    names n = has_common r s n ∙ ap (λ h. has_attribute n r.heading && has_attribute n h) (sym a.2) ∙ twice (has_attribute n r.heading) ∙ has_attribute-names n r.heading
      where
        twice : (b : Bool) → (b && b) ≡ b
        twice true = refl
        twice false = refl

    common_part_is : (t : Tuple) → IsTupleOf r.heading t → projected_tuple (common_names r s) t ≡ t
    common_part_is t p = (λ i. filter (λ e. names e.0 i) t) ∙ whole_part r.heading t p
