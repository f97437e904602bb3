-- Joins by the pairs of partners that they are made of.
use Rattle.std.proofs.Common.{◌≡◌, ◌∙◌, ap, sym, refl, subst, arith, ℕ, suc, Bool, true, false, List, [], ◌∷◌, ◌++◌, Option, None, Some, filter, get_or, length, map, Result, Ok}
use Rattle.std.specs.Prelude.{◌&&◌, ◌↔◌, not, is_some, IsTrue}
use Rattle.std.specs.List.{All, Contains, flat_map}
use Rattle.std.specs.List.Sorted.{IsPermutation}
use Rattle.std.specs.Ordering.{eq_by_cmp}
use Rattle.std.proofs.lemmas.Cmp.{eq_by_cmp_equiv}
use Rattle.std.proofs.lemmas.List.Elements.{All-contains}
use Rattle.std.proofs.lemmas.Map.Views.{Contains-from_any, list_any-from_Contains}
use Rattle.td_tree.specs.model.Outcomes.{Answers}
use Rattle.td_tree.specs.declared.cause.Cause.TheVariants as causes
use Rattle.td_tree.specs.declared.fault.Fault.{Fault}
use Rattle.td_types.specs.model.Headings.{agree, common_part, has_attribute, has_name, have_no_common, heading_union, united_heading, is_type_or_none}
use Rattle.td_types.specs.model.Types.{Type', Heading, attribute_names, type_at}
use Rattle.td_value.specs.model.Sets.{has, set_of}
use Rattle.td_value.specs.code.ValueOrder.{tuple_Decides, tuple_order_same, tuple_order_total}
use Rattle.td_value.specs.model.Values.{HaveSameMembers, IsTupleOf, Relation, Tuple, projected_tuple, tuple_cmp}
use Rattle.td_value.proofs.SetLaws.{has-set_of, is_set_of, set_of-ascends}
use Rattle.td_algebra.specs.code.Layouts.{Sources}
use Rattle.td_algebra.specs.model.Operators.{are_partners, common_names, join, product, united_tuple}
use Rattle.td_algebra.specs.code.Pairs.{IsPaired, paired_tuple, pair_sources, pair_tuple, pairs_with, partners_paired}
use Rattle.td_algebra.proofs.Lists.{all_kept, contains_filter, contains_flat_map, contains_map}
use Rattle.td_algebra.proofs.Members.{second_true}
use Rattle.td_algebra.proofs.Taken.{value_of_answer}
use Rattle.td_algebra.proofs.Pairs.{is_paired, is_turned, pair_is, turned_is, united_is}
use Rattle.td_algebra.proofs.PartnersByValues.{has_common}
use Rattle.td_algebra.proofs.Relations.{All-from_members}
use Rattle.td_algebra.proofs.United.{IsTupleOf-united}

-- ---- sets of the same members

one_test : (b c : Bool) → (b ≡ true → c ≡ true) → (c ≡ true → b ≡ true) → b ≡ c
one_test true c f g = sym (f refl)
one_test false true f g = g refl
one_test false false f g = refl

-- lists of the same members have one set
pub sets_alike : (xs ys : List Tuple) → HaveSameMembers xs ys → set_of tuple_cmp xs ≡ set_of tuple_cmp ys
sets_alike xs ys same =
    is_set_of tuple_cmp tuple_order_total tuple_order_same (set_of tuple_cmp xs) ys (set_of-ascends tuple_cmp tuple_order_total tuple_order_same xs)
    (λ t. has-set_of tuple_cmp tuple_order_total tuple_order_same t xs ∙ one_test (has tuple_cmp t xs) (has tuple_cmp t ys)
    (λ h. list_any-from_Contains (eq_by_cmp_equiv tuple_order_total) t ys ((same t).0 (Contains-from_any (λ s u e. (tuple_Decides s u).0 e) t xs h)))
    (λ h. list_any-from_Contains (eq_by_cmp_equiv tuple_order_total) t xs ((same t).1 (Contains-from_any (λ s u e. (tuple_Decides s u).0 e) t ys h))))

-- ---- pairs

map_alike : {X Y : Type 0} (f g : X → Y) (xs : List X) → All (λ x. f x ≡ g x) xs → map f xs ≡ map g xs
map_alike f g [] h = refl
map_alike f g (x ∷ xs) h = λ i. h 0 x (omega arith) i ∷ map_alike f g xs (λ k d l. h (suc k) d (omega (arith, l))) i

-- functions that agree on the pairs make the same tuples
pub pairs_alike : (partners : Tuple → List Tuple) (f g : Tuple → Tuple → Tuple) (ts : List Tuple) → All (λ t. All (λ u. f t u ≡ g t u) (partners t)) ts
    → pairs_with partners f ts ≡ pairs_with partners g ts
pairs_alike partners f g [] h = refl
pairs_alike partners f g (t ∷ ts) h =
    λ i. map_alike (f t) (g t) (partners t) (h 0 t (omega arith)) i ++ pairs_alike partners f g ts (λ k d l. h (suc k) d (omega (arith, l))) i

-- a tuple is among those of pairs where it is that of some two partners
abbrev pub IsOfPair : (Tuple → Tuple → Bool) → (Tuple → Tuple → Tuple) → List Tuple → List Tuple → Tuple → Type 0
IsOfPair partnered f ts us y = (t : Tuple) × (u : Tuple) × Contains ts t × Contains us u × IsTrue (partnered t u) × (f t u ≡ y)

pub pair_members : (partnered : Tuple → Tuple → Bool) (f : Tuple → Tuple → Tuple) (ts us : List Tuple) (y : Tuple)
    → Contains (pairs_with (λ t. filter (partnered t) us) f ts) y ↔ IsOfPair partnered f ts us y
pair_members partnered f ts us y = (some_pair, pair_there)
  where
    some_pair : Contains (pairs_with (λ t. filter (partnered t) us) f ts) y → IsOfPair partnered f ts us y
    some_pair c =
        let a = (contains_flat_map (λ t. map (f t) (filter (partnered t) us)) ts y).0 c in
        let b = (contains_map (f a.0) (filter (partnered a.0) us) y).0 a.2 in
        let d = (contains_filter (partnered a.0) us b.0).0 b.1 in
        (a.0, b.0, a.1, d.0, d.1, b.2)

    pair_there : IsOfPair partnered f ts us y → Contains (pairs_with (λ t. filter (partnered t) us) f ts) y
    pair_there c =
        (contains_flat_map (λ t. map (f t) (filter (partnered t) us)) ts y).1
        (c.0, c.2, (contains_map (f c.0) (filter (partnered c.0) us) y).1 (c.1, (contains_filter (partnered c.0) us c.1).1 (c.3, c.4), c.5))

-- partners are so the other way round
pub partners_turned : (r s : Relation) (t u : Tuple) → are_partners s r u t ≡ are_partners r s t u
partners_turned r s t u =
    (λ i. eq_by_cmp tuple_cmp (filter (λ e. names e.0 i) u) (filter (λ e. names e.0 i) t))
    ∙ (eq_by_cmp_equiv tuple_order_total).symm (projected_tuple (common_names r s) u) (projected_tuple (common_names r s) t)
  where
    turned : (b c : Bool) → (b && c) ≡ (c && b)
    turned true true = refl
    turned true false = refl
    turned false true = refl
    turned false false = refl

    names : (n : List ℕ) → has_name n (common_names s r) ≡ has_name n (common_names r s)
    names n = has_common s r n ∙ turned (has_attribute n s.heading) (has_attribute n r.heading) ∙ sym (has_common r s n)

module _ (left_out : Heading) (r s : Relation) (g h : Heading) (eg : g ≡ r.heading) (eh : h ≡ s.heading) (n m : ℕ) (en : n ≡ length g) (em : m ≡ length h)
    (firsts : All (IsTupleOf r.heading) r.body) (seconds : All (IsTupleOf s.heading) s.body) (layout : Sources) where
  -- a layout with the values of the first before those of the second
  module _ (laid : IsPermutation (pair_sources left_out 0 g n h) layout) where
    own_laid : IsPermutation (pair_sources left_out 0 r.heading (length r.heading) s.heading) layout
    own_laid = subst (λ ss. IsPermutation ss layout) (λ i. pair_sources left_out 0 (eg i) ((en ∙ ap length eg) i) (eh i)) laid

    pub first_paired : (t u : Tuple) → IsTupleOf r.heading t → IsTupleOf s.heading u → IsPaired layout t u
    first_paired t u p q = is_paired left_out r.heading s.heading t u p q layout own_laid

    pub from_first : pairs_with (λ t. filter (are_partners r s t) s.body) (pair_tuple layout) r.body ≡ partners_paired left_out r s
    from_first =
        pairs_alike (λ t. filter (are_partners r s t) s.body) (pair_tuple layout) (paired_tuple left_out) r.body
        (λ k d l. All-from_members (λ u. pair_tuple layout (get_or r.body k d) u ≡ paired_tuple left_out (get_or r.body k d) u) (filter (are_partners r s (get_or r.body k d)) s.body)
        (λ u c. pair_is left_out r.heading s.heading (get_or r.body k d) u (firsts k d l)
        (All-contains (IsTupleOf s.heading) s.body u seconds ((contains_filter (are_partners r s (get_or r.body k d)) s.body u).0 c).0) layout own_laid))

  -- a layout with the values of the second before those of the first
  module _ (laid : IsPermutation (pair_sources left_out m g 0 h) layout) where
    other_laid : IsPermutation (pair_sources left_out (length s.heading) r.heading 0 s.heading) layout
    other_laid = subst (λ ss. IsPermutation ss layout) (λ i. pair_sources left_out ((em ∙ ap length eh) i) (eg i) 0 (eh i)) laid

    pub second_paired : (u t : Tuple) → IsTupleOf s.heading u → IsTupleOf r.heading t → IsPaired layout u t
    second_paired u t q p = is_turned left_out r.heading s.heading t u p q layout other_laid

    turned_pairs : pairs_with (λ u. filter (are_partners s r u) r.body) (pair_tuple layout) s.body
        ≡ pairs_with (λ u. filter (are_partners s r u) r.body) (λ u t. paired_tuple left_out t u) s.body
    turned_pairs =
        pairs_alike (λ u. filter (are_partners s r u) r.body) (pair_tuple layout) (λ u t. paired_tuple left_out t u) s.body
        (λ k d l. All-from_members (λ t. pair_tuple layout (get_or s.body k d) t ≡ paired_tuple left_out t (get_or s.body k d)) (filter (are_partners s r (get_or s.body k d)) r.body)
        (λ t c. turned_is left_out r.heading s.heading t (get_or s.body k d)
        (All-contains (IsTupleOf r.heading) r.body t firsts ((contains_filter (are_partners s r (get_or s.body k d)) r.body t).0 c).0) (seconds k d l) layout other_laid))

    pub from_second : HaveSameMembers (pairs_with (λ u. filter (are_partners s r u) r.body) (pair_tuple layout) s.body) (partners_paired left_out r s)
    from_second y = (there, back)
      where
        there : Contains (pairs_with (λ u. filter (are_partners s r u) r.body) (pair_tuple layout) s.body) y → Contains (partners_paired left_out r s) y
        there c =
            let p = (pair_members (are_partners s r) (λ u t. paired_tuple left_out t u) s.body r.body y).0 (subst (λ ts. Contains ts y) turned_pairs c) in
            (pair_members (are_partners r s) (paired_tuple left_out) r.body s.body y).1 (p.1, p.0, p.3, p.2, sym (partners_turned r s p.1 p.0) ∙ p.4, p.5)

        back : Contains (partners_paired left_out r s) y → Contains (pairs_with (λ u. filter (are_partners s r u) r.body) (pair_tuple layout) s.body) y
        back c =
            let p = (pair_members (are_partners r s) (paired_tuple left_out) r.body s.body y).0 c in
            subst (λ ts. Contains ts y) (sym turned_pairs)
            ((pair_members (are_partners s r) (λ u t. paired_tuple left_out t u) s.body r.body y).1 (p.1, p.0, p.3, p.2, partners_turned r s p.0 p.1 ∙ p.4, p.5))

-- ---- the join

-- the heading that a union of two answers
pub united_answer : (a b g h : Heading) (r : Result Heading Fault) (x : Heading) → a ≡ g → b ≡ h → r ≡ Ok x → Answers (λ v. v) r (united_heading a b) → x ≡ heading_union g h
united_answer a b g h r x ea eb is answers =
    value_of_answer r x (heading_union a b) (agree a b) causes.Heading answers is ∙ (λ i. heading_union (ea i) (eb i))

pub join_pairs : (r s : Relation) → partners_paired [] r s ≡ flat_map (λ t. map (united_tuple t) (filter (are_partners r s t) s.body)) r.body
join_pairs r s = λ i. flat_map (λ t. map (λ u. united_is t u i) (filter (are_partners r s t) s.body)) r.body

-- the tuples of pairs of partners have the united heading
pub joined_headed : (r s : Relation) (rows : List Tuple) → All (IsTupleOf r.heading) r.body → All (IsTupleOf s.heading) s.body → HaveSameMembers rows (partners_paired [] r s)
    → All (IsTupleOf (heading_union r.heading s.heading)) rows
joined_headed r s rows firsts seconds same =
    All-from_members (IsTupleOf (heading_union r.heading s.heading)) rows headed
  where
    headed : (y : Tuple) → Contains rows y → IsTupleOf (heading_union r.heading s.heading) y
    headed y c =
        let p = (pair_members (are_partners r s) (paired_tuple []) r.body s.body y).0 ((same y).0 c) in
        subst (IsTupleOf (heading_union r.heading s.heading)) (sym (united_is p.0 p.1) ∙ p.5)
        (IsTupleOf-united r.heading s.heading p.0 p.1 (All-contains (IsTupleOf r.heading) r.body p.0 firsts p.2) (All-contains (IsTupleOf s.heading) s.body p.1 seconds p.3))

pub joined_set : (r s : Relation) (rows : List Tuple) → HaveSameMembers rows (partners_paired [] r s) → set_of tuple_cmp rows ≡ (join r s).body
joined_set r s rows same = sets_alike rows (partners_paired [] r s) same ∙ ap (set_of tuple_cmp) (join_pairs r s)

-- ---- TIMES

first_lacking : (b c : Bool) → (not b && c) ≡ true → b ≡ false
first_lacking true c f = absurd (cc)
first_lacking false c f = refl

-- headings with no common attribute agree
pub apart_agree : (g h : Heading) → have_no_common g h ≡ true → agree g h ≡ true
apart_agree [] h e = refl
apart_agree (a ∷ g) h e =
    rw (lacking a.1 (type_at a.0 h) (first_lacking (has_attribute a.0 h) (have_no_common g h) e)) (apart_agree g h (second_true (not (has_attribute a.0 h)) (have_no_common g h) e))
  where
    lacking : (t : Type') (o : Option Type') → is_some o ≡ false → is_type_or_none t o ≡ true
    lacking t None f = refl
    lacking t (Some s) f = absurd (cc)

none_common : (g h : Heading) → have_no_common g h ≡ true → common_part g h ≡ []
none_common [] h e = refl
none_common (a ∷ g) h e =
    let lacks : has_attribute a.0 h ≡ false = first_lacking (has_attribute a.0 h) (have_no_common g h) e in
    rw lacks (none_common g h (second_true (not (has_attribute a.0 h)) (have_no_common g h) e))

nothing_kept : (t : Tuple) → projected_tuple [] t ≡ []
nothing_kept [] = refl
nothing_kept (e ∷ t) = nothing_kept t

-- and all their tuples are partners
pub product_join : (r s : Relation) → have_no_common r.heading s.heading ≡ true → product r s ≡ join r s
product_join r s e =
    λ i. record { heading = heading_union r.heading s.heading; body = set_of tuple_cmp (flat_map (λ t. map (united_tuple t) (sym (all_partners t) i)) r.body) }
  where
    are : (t u : Tuple) → are_partners r s t u ≡ true
    are t u =
        (λ i. eq_by_cmp tuple_cmp (projected_tuple (attribute_names (none_common r.heading s.heading e i)) t) (projected_tuple (attribute_names (none_common r.heading s.heading e i)) u))
        ∙ (λ i. eq_by_cmp tuple_cmp (nothing_kept t i) (nothing_kept u i))

    all_partners : (t : Tuple) → filter (are_partners r s t) s.body ≡ s.body
    all_partners t = all_kept (are_partners r s t) s.body (are t)
