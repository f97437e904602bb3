-- The tuples of joins and their kin.
use Rattle.std.proofs.Common.{◌≡◌, ◌∙◌, ap, sym, refl, subst, ℕ, Bool, true, false, List, [], ◌++◌, Option, None, ◌⊎◌, inl, inr, filter, true≢false}
use Rattle.std.specs.Prelude.{◌&&◌, ◌||◌, ◌↔◌, not, if◌then◌else◌, is_some, IsTrue}
use Rattle.std.specs.List.{Contains, list_any}
use Rattle.td_types.specs.model.Headings.{has_attribute, has_name, heading_union, outside}
use Rattle.td_types.specs.model.Types.{Heading, attribute_names, same_name, type_at}
use Rattle.td_types.proofs.HeadingLaws.{has_attribute-names, type_at-union}
use Rattle.std.proofs.lemmas.List.Folds.{list_any-append}
use Rattle.td_value.specs.model.Agreement.{AgreeOn}
use Rattle.td_value.specs.model.Values.{Val, HaveSameMembers, IsRelation, IsTuple, IsTupleOf, Relation, Tuple, projected_tuple, value_at}
use Rattle.td_value.proofs.Agreement.{agreement_of_values, tuples_of_values, value_of_projection}
use Rattle.td_value.proofs.Kept.{IsTuple-filter}
use Rattle.td_value.proofs.Members.{set_members}
use Rattle.td_algebra.specs.laws.Membership.{CompositionByMembership, IsComposed, IsIn, IsInBoth, JoinByMembership, ProductByMembership, SemidifferenceByMembership, SemijoinByMembership}
use Rattle.td_algebra.specs.model.Operators.{are_partners, common_names, composition, join, own_names, relation_names, semidifference, semijoin, united_tuple}
use Rattle.td_algebra.specs.code.Pairs.{pairs_with, partners_paired}
use Rattle.td_algebra.proofs.Entries.{has_name-heading, no_value_outside}
use Rattle.td_algebra.proofs.Joined.{IsOfPair, apart_agree, join_pairs, joined_headed, pair_members, product_join}
use Rattle.td_algebra.proofs.Lists.{contains_any, contains_filter}
use Rattle.td_algebra.proofs.PartnersByValues.{has_common}
use Rattle.td_algebra.proofs.Projections.{projection_members}
use Rattle.td_algebra.proofs.Relations.{IsRelation-relation_of, member_headed, rows_headed}
use Rattle.td_algebra.proofs.Sources.{has_attribute-outside}
use Rattle.td_algebra.proofs.United.{IsHeading-union, IsTupleOf-united, value_at-united}

-- ---- a united tuple

module _ (g h : Heading) (u w : Tuple) (p : IsTupleOf g u) (q : IsTupleOf h w) where
  -- the value of a name by the headings alone
  pub value_in_united : (n : List ℕ) → value_at n (united_tuple u w) ≡ (if has_attribute n g then value_at n u else value_at n w)
  value_in_united n = value_at-united u w p.0 q.0 n ∙ ap (λ b. if b then value_at n u else value_at n w) (has_name-heading g u p n)

  part_value : (f : Heading) (n : List ℕ)
      → value_at n (projected_tuple (attribute_names f) (united_tuple u w)) ≡ (if has_attribute n f then (if has_attribute n g then value_at n u else value_at n w) else None)
  part_value f n =
      value_of_projection (attribute_names f) (united_tuple u w) n
      ∙ (λ i. if sym (has_attribute-names n f) i then value_in_united n i else None)

  united_tuple_is : IsTuple (united_tuple u w)
  united_tuple_is = (IsTupleOf-united g h u w p q).0

  -- its part on the first one's names is the first
  pub first_part : projected_tuple (attribute_names g) (united_tuple u w) ≡ u
  first_part =
      tuples_of_values (projected_tuple (attribute_names g) (united_tuple u w)) u (IsTuple-filter (λ e. has_name e.0 (attribute_names g)) (united_tuple u w) united_tuple_is) p.0
      (λ n. part_value g n ∙ by_test (has_attribute n g) (value_at n u) (value_at n w) (λ e. no_value_outside g u p n e))
    where
      by_test : (b : Bool) (x y : Option Val) → (b ≡ false → x ≡ None) → (if b then (if b then x else y) else None) ≡ x
      by_test true x y e = refl
      by_test false x y e = sym (e refl)

  -- and on the second one's names the second, where the two agree on the names of both
  pub second_part : ((n : List ℕ) → has_attribute n g ≡ true → has_attribute n h ≡ true → value_at n u ≡ value_at n w)
      → projected_tuple (attribute_names h) (united_tuple u w) ≡ w
  second_part same =
      tuples_of_values (projected_tuple (attribute_names h) (united_tuple u w)) w (IsTuple-filter (λ e. has_name e.0 (attribute_names h)) (united_tuple u w) united_tuple_is) q.0
      (λ n. part_value h n ∙ by_tests (has_attribute n g) (has_attribute n h) (value_at n u) (value_at n w) (λ a b. same n a b) (λ e. no_value_outside h w q n e))
    where
      by_tests : (b c : Bool) (x y : Option Val) → (b ≡ true → c ≡ true → x ≡ y) → (c ≡ false → y ≡ None) → (if c then (if b then x else y) else None) ≡ y
      by_tests true true x y s e = s refl refl
      by_tests false true x y s e = refl
      by_tests true false x y s e = sym (e refl)
      by_tests false false x y s e = sym (e refl)

-- ---- partners

both_true : (b c : Bool) → (b && c) ≡ true → (b ≡ true) × (c ≡ true)
both_true true c e = (refl, e)
both_true false c e = absurd (cc)

module _ (r s : Relation) (u w : Tuple) (p : IsTupleOf r.heading u) (q : IsTupleOf s.heading w) where
  pub agree_from_partners : IsTrue (are_partners r s u w) → AgreeOn (common_names r s) u w
  agree_from_partners = (agreement_of_values (common_names r s) u w p.0 q.0).0

  pub partners_from_agree : AgreeOn (common_names r s) u w → IsTrue (are_partners r s u w)
  partners_from_agree = (agreement_of_values (common_names r s) u w p.0 q.0).1

  pub same_on_common : AgreeOn (common_names r s) u w → (n : List ℕ) → has_attribute n r.heading ≡ true → has_attribute n s.heading ≡ true → value_at n u ≡ value_at n w
  same_on_common a n e f = a n (has_common r s n ∙ rw (e, f) refl)

-- ---- JOIN

-- a tuple of a join is two partners united
pub join_of_pairs : (r s : Relation) (t : Tuple) → IsIn t (join r s) ↔ IsOfPair (are_partners r s) united_tuple r.body s.body t
join_of_pairs r s t =
    let set = set_members (pairs_with (λ u. filter (are_partners r s u) s.body) united_tuple r.body) t in
    let pairs = pair_members (are_partners r s) united_tuple r.body s.body t in
    (λ c. pairs.0 (set.0 c), λ c. set.1 (pairs.1 c))

pub join_members : JoinByMembership
join_members r s t j h = (in_both, from_both)
  where
    in_both : IsIn t (join r s) → IsInBoth r s t
    in_both c =
        let d = (join_of_pairs r s t).0 c in
        let p = member_headed r d.0 j.0 d.2 in
        let q = member_headed s d.1 j.1 d.3 in
        let first : projected_tuple (relation_names r) t ≡ d.0 = ap (projected_tuple (relation_names r)) (sym d.5) ∙ first_part r.heading s.heading d.0 d.1 p q in
        let second : projected_tuple (relation_names s) t ≡ d.1 =
        ap (projected_tuple (relation_names s)) (sym d.5)
        ∙ second_part r.heading s.heading d.0 d.1 p q (same_on_common r s d.0 d.1 p q (agree_from_partners r s d.0 d.1 p q d.4)) in
        (subst (Contains r.body) (sym first) d.2, subst (Contains s.body) (sym second) d.3)

    from_both : IsInBoth r s t → IsIn t (join r s)
    from_both c =
        let u = projected_tuple (relation_names r) t in
        let w = projected_tuple (relation_names s) t in
        let p = member_headed r u j.0 c.0 in
        let q = member_headed s w j.1 c.1 in
        let partners = partners_from_agree r s u w p q (λ n e. shared n e) in
        (join_of_pairs r s t).1 (u, w, c.0, c.1, partners, whole p q)
      where
        kept : (f : Heading) (n : List ℕ) → value_at n (projected_tuple (attribute_names f) t) ≡ (if has_attribute n f then value_at n t else None)
        kept f n = value_of_projection (attribute_names f) t n ∙ ap (λ b. if b then value_at n t else None) (sym (has_attribute-names n f))

        shared : (n : List ℕ) → has_name n (common_names r s) ≡ true → value_at n (projected_tuple (relation_names r) t) ≡ value_at n (projected_tuple (relation_names s) t)
        shared n e =
            let there = both_true (has_attribute n r.heading) (has_attribute n s.heading) (sym (has_common r s n) ∙ e) in
            kept r.heading n ∙ rw (there.0, there.1) refl ∙ sym (kept s.heading n)

        by_tests : (b c : Bool) (x : Option Val) → ((b || c) ≡ false → x ≡ None) → (if b then (if b then x else None) else (if c then x else None)) ≡ x
        by_tests true c x e = refl
        by_tests false true x e = refl
        by_tests false false x e = sym (e refl)

        in_union : (n : List ℕ) → (has_attribute n r.heading || has_attribute n s.heading) ≡ false → has_attribute n (heading_union r.heading s.heading) ≡ false
        in_union n e = ap is_some (type_at-union n r.heading s.heading) ∙ neither (has_attribute n r.heading) e
          where
            neither : (b : Bool) → (b || has_attribute n s.heading) ≡ false → is_some (if b then type_at n r.heading else type_at n s.heading) ≡ false
            neither true f = absurd (true≢false f)
            neither false f = f

        whole : IsTupleOf r.heading (projected_tuple (relation_names r) t) → IsTupleOf s.heading (projected_tuple (relation_names s) t)
            → united_tuple (projected_tuple (relation_names r) t) (projected_tuple (relation_names s) t) ≡ t
        whole p q =
            tuples_of_values (united_tuple (projected_tuple (relation_names r) t) (projected_tuple (relation_names s) t)) t
            (IsTupleOf-united r.heading s.heading (projected_tuple (relation_names r) t) (projected_tuple (relation_names s) t) p q).0 h.0
            (λ n. value_in_united r.heading s.heading (projected_tuple (relation_names r) t) (projected_tuple (relation_names s) t) p q n
            ∙ (λ i. if has_attribute n r.heading then kept r.heading n i else kept s.heading n i)
            ∙ by_tests (has_attribute n r.heading) (has_attribute n s.heading) (value_at n t)
            (λ e. no_value_outside (heading_union r.heading s.heading) t h n (in_union n e)))

-- ---- TIMES

pub product_members : ProductByMembership
product_members r s t p q e h =
    let members = join_members r s t (p, q, apart_agree r.heading s.heading e) h in
    (λ c. members.0 (subst (IsIn t) (product_join r s e) c), λ c. subst (IsIn t) (sym (product_join r s e)) (members.1 c))

-- ---- MATCHING

pub semijoin_members : SemijoinByMembership
semijoin_members r s t p q = (has_partner, there)
  where
    has_partner : IsIn t (semijoin r s) → IsIn t r × ((w : Tuple) × IsIn w s × AgreeOn (common_names r s) t w)
    has_partner c =
        let kept = (contains_filter (λ u. list_any (are_partners r s u) s.body) r.body t).0 c in
        let w = (contains_any (are_partners r s t) s.body).0 kept.1 in
        (kept.0, (w.0, w.1, agree_from_partners r s t w.0 (member_headed r t p kept.0) (member_headed s w.0 q w.1) w.2))

    there : IsIn t r × ((w : Tuple) × IsIn w s × AgreeOn (common_names r s) t w) → IsIn t (semijoin r s)
    there c =
        let w = c.1 in
        (contains_filter (λ u. list_any (are_partners r s u) s.body) r.body t).1 (
          c.0,
          (contains_any (are_partners r s t) s.body).1
              (w.0, w.1, partners_from_agree r s t w.0 (member_headed r t p c.0) (member_headed s w.0 q w.1) w.2),
        )

-- ---- NOT MATCHING

is_not : (b : Bool) → not b ≡ true → b ≡ true → ⊥
is_not true e f = absurd (cc)
is_not false e f = absurd (cc)

not_is : (b : Bool) → (b ≡ true → ⊥) → not b ≡ true
not_is true f = absurd (f refl)
not_is false f = refl

pub semidifference_members : SemidifferenceByMembership
semidifference_members r s t p q = (has_none, there)
  where
    has_none : IsIn t (semidifference r s) → IsIn t r × ((w : Tuple) → IsIn w s → AgreeOn (common_names r s) t w → ⊥)
    has_none c =
        let kept = (contains_filter (λ u. not (list_any (are_partners r s u) s.body)) r.body t).0 c in (
          kept.0,
          λ w d a. is_not (list_any (are_partners r s t) s.body) kept.1
              ((contains_any (are_partners r s t) s.body).1 (w, d, partners_from_agree r s t w (member_headed r t p kept.0) (member_headed s w q d) a)),
        )

    there : IsIn t r × ((w : Tuple) → IsIn w s → AgreeOn (common_names r s) t w → ⊥) → IsIn t (semidifference r s)
    there c =
        (contains_filter (λ u. not (list_any (are_partners r s u) s.body)) r.body t).1
        (c.0, not_is (list_any (are_partners r s t) s.body) none)
      where
        none : list_any (are_partners r s t) s.body ≡ true → ⊥
        none e =
            let w = (contains_any (are_partners r s t) s.body).0 e in
            c.1 w.0 w.1 (agree_from_partners r s t w.0 (member_headed r t p c.0) (member_headed s w.0 q w.1) w.2)

-- ---- COMPOSE

pub IsRelation-join : (r s : Relation) → IsRelation r → IsRelation s → IsRelation (join r s)
IsRelation-join r s p q =
    IsRelation-relation_of (heading_union r.heading s.heading) (pairs_with (λ t. filter (are_partners r s t) s.body) united_tuple r.body) (IsHeading-union r.heading s.heading p.2 q.2)
    (joined_headed r s (pairs_with (λ t. filter (are_partners r s t) s.body) united_tuple r.body) (rows_headed r p) (rows_headed s q)
    (subst (λ ts. HaveSameMembers ts (partners_paired [] r s)) (join_pairs r s) (λ t. (λ c. c, λ c. c))))

has_own : (r s : Relation) (n : List ℕ) → has_name n (own_names r s) ≡ (has_attribute n r.heading && not (has_attribute n s.heading))
has_own r s n = sym (has_attribute-names n (outside s.heading r.heading)) ∙ has_attribute-outside s.heading r.heading n

not_there : (b : Bool) → not b ≡ true → b ≡ false
not_there true e = absurd (cc)
not_there false e = refl

pub composition_members : CompositionByMembership
composition_members r s t j h = (of_pair, from_pair)
  where
    projected : IsIn t (composition r s) ↔ ((u : Tuple) × IsIn u (join r s) × AgreeOn (own_names r s ++ own_names s r) t u)
    projected = projection_members (own_names r s ++ own_names s r) (join r s) t (IsRelation-join r s j.0 j.1) h

    either_side : (n : List ℕ) → has_name n (own_names r s) ≡ true → has_name n (own_names r s ++ own_names s r) ≡ true
    either_side n e = list_any-append (λ m. same_name m n) (own_names r s) (own_names s r) ∙ rw e refl

    other_side : (n : List ℕ) → has_name n (own_names s r) ≡ true → has_name n (own_names r s ++ own_names s r) ≡ true
    other_side n e = list_any-append (λ m. same_name m n) (own_names r s) (own_names s r) ∙ rw e (or_true (has_name n (own_names r s)))
      where
        or_true : (b : Bool) → (b || true) ≡ true
        or_true true = refl
        or_true false = refl

    own_value : (u w : Tuple) → IsTupleOf r.heading u → IsTupleOf s.heading w → (n : List ℕ) → has_name n (own_names r s) ≡ true → value_at n (united_tuple u w) ≡ value_at n u
    own_value u w p q n e =
        let there = both_true (has_attribute n r.heading) (not (has_attribute n s.heading)) (sym (has_own r s n) ∙ e) in
        value_in_united r.heading s.heading u w p q n ∙ rw there.0 refl

    other_value : (u w : Tuple) → IsTupleOf r.heading u → IsTupleOf s.heading w → (n : List ℕ) → has_name n (own_names s r) ≡ true → value_at n (united_tuple u w) ≡ value_at n w
    other_value u w p q n e =
        let there = both_true (has_attribute n s.heading) (not (has_attribute n r.heading)) (sym (has_own s r n) ∙ e) in
        value_in_united r.heading s.heading u w p q n ∙ rw (not_there (has_attribute n r.heading) there.1) refl

    of_pair : IsIn t (composition r s) → (u : Tuple) × (w : Tuple) × IsIn u r × IsIn w s × IsComposed r s u w t
    of_pair c =
        let x = projected.0 c in
        let d = (join_of_pairs r s x.0).0 x.1 in
        let p = member_headed r d.0 j.0 d.2 in
        let q = member_headed s d.1 j.1 d.3 in (
          d.0,
          d.1,
          d.2,
          d.3,
          (
            agree_from_partners r s d.0 d.1 p q d.4,
            λ n e. x.2 n (either_side n e) ∙ ap (value_at n) (sym d.5) ∙ own_value d.0 d.1 p q n e,
            λ n e. x.2 n (other_side n e) ∙ ap (value_at n) (sym d.5) ∙ other_value d.0 d.1 p q n e,
          ),
        )

    split : (b c : Bool) → (b || c) ≡ true → (b ≡ true) ⊎ (c ≡ true)
    split true c e = inl refl
    split false c e = inr e

    from_pair : (u : Tuple) × (w : Tuple) × IsIn u r × IsIn w s × IsComposed r s u w t → IsIn t (composition r s)
    from_pair d =
        let p = member_headed r d.0 j.0 d.2 in
        let q = member_headed s d.1 j.1 d.3 in
        let joined = (join_of_pairs r s (united_tuple d.0 d.1)).1 (d.0, d.1, d.2, d.3, partners_from_agree r s d.0 d.1 p q d.4.0, refl) in
        projected.1 (united_tuple d.0 d.1, joined, λ n e. by_side n p q (split (has_name n (own_names r s)) (has_name n (own_names s r)) (sym (list_any-append (λ m. same_name m n) (own_names r s) (own_names s r)) ∙ e)))
      where
        by_side : (n : List ℕ) → IsTupleOf r.heading d.0 → IsTupleOf s.heading d.1 → (has_name n (own_names r s) ≡ true) ⊎ (has_name n (own_names s r) ≡ true)
            → value_at n t ≡ value_at n (united_tuple d.0 d.1)
        by_side n p q (inl e) = d.4.1 n e ∙ sym (own_value d.0 d.1 p q n e)
        by_side n p q (inr e) = d.4.2 n e ∙ sym (other_value d.0 d.1 p q n e)
