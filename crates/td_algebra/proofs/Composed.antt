-- Compositions by the pairs of partners that they are made of.
use Rattle.std.proofs.Common.{◌≡◌, ◌∙◌, ap, sym, refl, subst, ℕ, Bool, true, false, List, ◌++◌, Option, None, Some, filter, map, true≢false}
use Rattle.std.specs.Prelude.{◌&&◌, ◌||◌, not, if◌then◌else◌, is_some}
use Rattle.std.specs.List.{All, Contains}
use Rattle.std.proofs.lemmas.List.Elements.{All-contains}
use Rattle.std.proofs.lemmas.List.Folds.{list_any-append}
use Rattle.td_types.specs.model.Headings.{agree, are_distinct, has_attribute, has_name, heading_union, outside, projection}
use Rattle.td_types.specs.model.Types.{Heading, IsAscending, same_name, type_at}
use Rattle.td_types.proofs.HeadingLaws.{IsAscending-filter, IsAscending-projection, IsAscending-union, has_attribute-names, type_at-outside, type_at-projection, type_at-union, types_determine_heading}
use Rattle.td_value.specs.model.Sets.{set_of}
use Rattle.td_value.specs.model.Values.{Val, HaveSameMembers, IsTuple, IsTupleOf, Relation, Tuple, projected_tuple, tuple_cmp, tuple_names, value_at}
use Rattle.td_value.proofs.Agreement.{tuples_of_values, value_at-filter, value_of_projection}
use Rattle.td_value.proofs.Kept.{IsTuple-filter}
use Rattle.td_value.proofs.Maps.{value_at-tuple_of}
use Rattle.td_value.proofs.Members.{set_members}
use Rattle.td_algebra.specs.model.Operators.{are_partners, composition, join, own_names, united_tuple}
use Rattle.td_algebra.specs.code.Pairs.{paired_tuple, pairs_with, partners_paired}
use Rattle.td_algebra.proofs.Entries.{IsTuple-tuple_of, distinct_append, fields_append, has_name-heading, has_value, no_value_outside, tuple_distinct, value_at-append}
use Rattle.td_algebra.proofs.Joined.{apart_agree, pair_members, sets_alike}
use Rattle.td_algebra.proofs.Lists.{contains_map}
use Rattle.td_algebra.proofs.Projections.{IsTupleOf-projected}
use Rattle.td_algebra.proofs.Members.{first_true}
use Rattle.td_algebra.proofs.Relations.{All-from_members}
use Rattle.td_algebra.proofs.Settings.{none_left}
use Rattle.td_algebra.proofs.Sources.{has_attribute-outside}
use Rattle.td_algebra.proofs.United.{IsTupleOf-united, value_at-united}

-- the names that one of two relations has
abbrev pub either_names : Relation → Relation → List (List ℕ)
either_names r s = own_names r s ++ own_names s r

pub has_either : (r s : Relation) (n : List ℕ) → has_name n (either_names r s)
    ≡ ((has_attribute n r.heading && not (has_attribute n s.heading)) || (has_attribute n s.heading && not (has_attribute n r.heading)))
has_either r s n =
    list_any-append (λ m. same_name m n) (own_names r s) (own_names s r)
    ∙ (λ i. own r s i || own s r i)
  where
    own : (p q : Relation) → has_name n (own_names p q) ≡ (has_attribute n p.heading && not (has_attribute n q.heading))
    own p q = sym (has_attribute-names n (outside q.heading p.heading)) ∙ has_attribute-outside q.heading p.heading n

-- the attributes that one of two headings has
pub composed_heading_is : (r s : Relation) → IsAscending r.heading
    → heading_union (outside s.heading r.heading) (outside r.heading s.heading) ≡ projection (either_names r s) (heading_union r.heading s.heading)
composed_heading_is r s up =
    types_determine_heading (heading_union (outside s.heading r.heading) (outside r.heading s.heading)) (projection (either_names r s) (heading_union r.heading s.heading))
    (IsAscending-union (outside s.heading r.heading) (outside r.heading s.heading) (IsAscending-filter (λ n. not (has_attribute n s.heading)) r.heading up))
    (IsAscending-projection (either_names r s) (heading_union r.heading s.heading) (IsAscending-union r.heading s.heading up))
    (λ n. type_at-union n (outside s.heading r.heading) (outside r.heading s.heading) ∙ (λ i. if has_attribute-outside s.heading r.heading n i then type_at-outside n s.heading r.heading i else type_at-outside n r.heading s.heading i)
    ∙ by_cases (has_attribute n r.heading) (has_attribute n s.heading) (type_at n r.heading) (type_at n s.heading) (λ e. none_of (type_at n s.heading) e)
    ∙ (λ i. if sym (has_either r s n) i then sym (type_at-union n r.heading s.heading) i else None)
    ∙ sym (type_at-projection (either_names r s) n (heading_union r.heading s.heading)))
  where
    none_of : {A : Type 0} (o : Option A) → is_some o ≡ false → o ≡ None
    none_of None e = refl
    none_of (Some a) e = absurd (true≢false e)

    by_cases : {A : Type 0} (g h : Bool) (a b : Option A) → (h ≡ false → b ≡ None)
        → (if g && not h then (if h then None else a) else (if g then None else b)) ≡ (if (g && not h) || (h && not g) then (if g then a else b) else None)
    by_cases true true a b e = refl
    by_cases true false a b e = refl
    by_cases false true a b e = refl
    by_cases false false a b e = e refl

-- ---- the tuple of a pair without the common attributes

module _ (r s : Relation) (t u : Tuple) (p : IsTupleOf r.heading t) (q : IsTupleOf s.heading u) where
  abbrev own_part : Tuple
  own_part = filter (λ e. not (has_attribute e.0 s.heading)) t

  abbrev other_part : Tuple
  other_part = filter (λ e. not (has_name e.0 (tuple_names t))) u

  own_tuple : IsTuple own_part
  own_tuple = IsTuple-filter (λ e. not (has_attribute e.0 s.heading)) t p.0

  other_tuple : IsTuple other_part
  other_tuple = IsTuple-filter (λ e. not (has_name e.0 (tuple_names t))) u q.0

  own_value : (n : List ℕ) → value_at n own_part ≡ (if not (has_attribute n s.heading) then value_at n t else None)
  own_value n = value_at-filter (λ m. not (has_attribute m s.heading)) n t

  other_value : (n : List ℕ) → value_at n other_part ≡ (if not (has_name n (tuple_names t)) then value_at n u else None)
  other_value n = value_at-filter (λ m. not (has_name m (tuple_names t))) n u

  own_has : (n : List ℕ) → has_name n (tuple_names own_part) ≡ (not (has_attribute n s.heading) && has_name n (tuple_names t))
  own_has n = sym (has_value n own_part) ∙ ap is_some (own_value n) ∙ by_test (not (has_attribute n s.heading)) ∙ ap (λ b. not (has_attribute n s.heading) && b) (has_value n t)
    where
      by_test : (b : Bool) → is_some (if b then value_at n t else None) ≡ (b && is_some (value_at n t))
      by_test true = refl
      by_test false = refl

  parts_apart : (n : List ℕ) → has_name n (tuple_names own_part) ≡ true → has_name n (tuple_names other_part) ≡ false
  parts_apart n e =
      let there : has_name n (tuple_names t) ≡ true = second (not (has_attribute n s.heading)) (has_name n (tuple_names t)) (sym (own_has n) ∙ e) in
      sym (has_value n other_part) ∙ ap is_some (other_value n) ∙ rw there refl
    where
      second : (b c : Bool) → (b && c) ≡ true → c ≡ true
      second true c f = f
      second false c f = absurd (cc)

  abbrev parts : Tuple
  parts = own_part ++ other_part

  parts_distinct : are_distinct (tuple_names parts) ≡ true
  parts_distinct = distinct_append own_part other_part (tuple_distinct own_part own_tuple) (tuple_distinct other_part other_tuple) parts_apart

  parts_tuple : IsTuple (paired_tuple s.heading t u)
  parts_tuple = IsTuple-tuple_of parts (fields_append own_part other_part own_tuple.0 other_tuple.0) parts_distinct

  value_at-paired : (n : List ℕ) → value_at n (paired_tuple s.heading t u) ≡ value_at n (projected_tuple (either_names r s) (united_tuple t u))
  value_at-paired n =
      value_at-tuple_of n parts parts_distinct ∙ value_at-append n own_part other_part
      ∙ (λ i. if (own_has n ∙ ap (λ b. not (has_attribute n s.heading) && b) (has_name-heading r.heading t p n)) i then own_value n i
      else (other_value n ∙ ap (λ b. if not b then value_at n u else None) (has_name-heading r.heading t p n)) i)
      ∙ by_cases (has_attribute n r.heading) (has_attribute n s.heading) (value_at n t) (value_at n u) (λ e. no_value_outside s.heading u q n e)
      ∙ (λ i. if sym (has_either r s n) i then (ap (λ b. if b then value_at n t else value_at n u) (sym (has_name-heading r.heading t p n)) ∙ sym (value_at-united t u p.0 q.0 n)) i else None)
      ∙ sym (value_of_projection (either_names r s) (united_tuple t u) n)
    where
      by_cases : (g h : Bool) (a b : Option Val) → (h ≡ false → b ≡ None)
          → (if not h && g then (if not h then a else None) else (if not g then b else None)) ≡ (if (g && not h) || (h && not g) then (if g then a else b) else None)
      by_cases true true a b e = refl
      by_cases true false a b e = refl
      by_cases false true a b e = refl
      by_cases false false a b e = e refl

  -- is the united tuple's projection
  pub composed_is : paired_tuple s.heading t u ≡ projected_tuple (either_names r s) (united_tuple t u)
  composed_is =
      tuples_of_values (paired_tuple s.heading t u) (projected_tuple (either_names r s) (united_tuple t u)) parts_tuple
      (IsTuple-filter (λ e. has_name e.0 (either_names r s)) (united_tuple t u) (IsTupleOf-united r.heading s.heading t u p q).0) value_at-paired

  pub composed_headed : IsTupleOf (projection (either_names r s) (heading_union r.heading s.heading)) (paired_tuple s.heading t u)
  composed_headed =
      subst (IsTupleOf (projection (either_names r s) (heading_union r.heading s.heading))) (sym composed_is)
      (IsTupleOf-projected (either_names r s) (heading_union r.heading s.heading) (united_tuple t u) (IsTupleOf-united r.heading s.heading t u p q))

-- ---- the composition

module _ (r s : Relation) (rows : List Tuple) (firsts : All (IsTupleOf r.heading) r.body) (seconds : All (IsTupleOf s.heading) s.body)
    (same : HaveSameMembers rows (partners_paired s.heading r s)) where
  pub all_composed : All (IsTupleOf (projection (either_names r s) (heading_union r.heading s.heading))) rows
  all_composed =
      All-from_members (IsTupleOf (projection (either_names r s) (heading_union r.heading s.heading))) rows headed
    where
      headed : (y : Tuple) → Contains rows y → IsTupleOf (projection (either_names r s) (heading_union r.heading s.heading)) y
      headed y c =
          let d = (pair_members (are_partners r s) (paired_tuple s.heading) r.body s.body y).0 ((same y).0 c) in
          subst (IsTupleOf (projection (either_names r s) (heading_union r.heading s.heading))) d.5
          (composed_headed r s d.0 d.1 (All-contains (IsTupleOf r.heading) r.body d.0 firsts d.2) (All-contains (IsTupleOf s.heading) s.body d.1 seconds d.3))

  pair_is : (t u : Tuple) → Contains r.body t → Contains s.body u → paired_tuple s.heading t u ≡ projected_tuple (either_names r s) (united_tuple t u)
  pair_is t u c d = composed_is r s t u (All-contains (IsTupleOf r.heading) r.body t firsts c) (All-contains (IsTupleOf s.heading) s.body u seconds d)

  same_composed : HaveSameMembers rows (map (projected_tuple (either_names r s)) (join r s).body)
  same_composed y = (there, back)
    where
      there : Contains rows y → Contains (map (projected_tuple (either_names r s)) (join r s).body) y
      there c =
          let d = (pair_members (are_partners r s) (paired_tuple s.heading) r.body s.body y).0 ((same y).0 c) in
          let joined = (pair_members (are_partners r s) united_tuple r.body s.body (united_tuple d.0 d.1)).1 (d.0, d.1, d.2, d.3, d.4, refl) in
          (contains_map (projected_tuple (either_names r s)) (join r s).body y).1
          (united_tuple d.0 d.1, (set_members (pairs_with (λ t. filter (are_partners r s t) s.body) united_tuple r.body) (united_tuple d.0 d.1)).1 joined, sym (pair_is d.0 d.1 d.2 d.3) ∙ d.5)

      back : Contains (map (projected_tuple (either_names r s)) (join r s).body) y → Contains rows y
      back c =
          let a = (contains_map (projected_tuple (either_names r s)) (join r s).body y).0 c in
          let d = (pair_members (are_partners r s) united_tuple r.body s.body a.0).0 ((set_members (pairs_with (λ t. filter (are_partners r s t) s.body) united_tuple r.body) a.0).0 a.1) in
          (same y).1 ((pair_members (are_partners r s) (paired_tuple s.heading) r.body s.body y).1
          (d.0, d.1, d.2, d.3, d.4, pair_is d.0 d.1 d.2 d.3 ∙ ap (projected_tuple (either_names r s)) d.5 ∙ a.2))

  pub composed_set : set_of tuple_cmp rows ≡ (composition r s).body
  composed_set = sets_alike rows (map (projected_tuple (either_names r s)) (join r s).body) same_composed

-- what each of two headings has alone has no name in common
pub rests_agree : (g h : Heading) → agree (outside h g) (outside g h) ≡ true
rests_agree g h =
    apart_agree (outside h g) (outside g h)
    (none_left (outside h g) g h (λ n there. first_true (has_attribute n g) (not (has_attribute n h)) (sym (has_attribute-outside h g n) ∙ there)))
