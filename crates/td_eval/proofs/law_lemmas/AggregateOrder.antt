-- What aggregates and SUMMARIZE give does not depend on the order in which tuples are taken.
use Rattle.std.proofs.Common.{◌≡◌, ◌∙◌, ◌+◌, ℕ, suc, pos, negsuc, Bool, true, false, cond, List, [], ◌∷◌, ap, arith, filter, length, map, refl, subst, sym, true≢false}
use Rattle.std.specs.Prelude.{ℤ, ◌+ℤ◌, ◌-ℤ◌, ◌↔◌, eqb}
use Rattle.std.specs.declared.cmp.Ordering.{Ordering}
use Rattle.std.specs.declared.cmp.Ordering.TheVariants.{Less, Equal, Greater}
use Rattle.std.specs.List.{Contains, list_all, sum_by}
use Rattle.std.specs.List.Sorted.{IsPermutation}
use Rattle.std.specs.Ordering.{is_lt, ordering_reverse}
use Rattle.std.proofs.lemmas.Int.{ints}
use Rattle.std.proofs.lemmas.List.Folds.{sum_by-zero}
use Rattle.std.proofs.lemmas.List.Sorted.{Contains-permutation, IsPermutation-sym, sum_by-IsPermutation}
use Rattle.std.proofs.lemmas.List.Sums.{sum_by-cons}
use Rattle.td_algebra.specs.model.Operators.{common_names, restriction}
use Rattle.td_algebra.proofs.Lists.{contains_filter, contains_first, contains_map, contains_none}
use Rattle.td_group.specs.model.Aggregates.{aggregate, greatest_value, least_value, sum_of, summand}
use Rattle.td_group.specs.model.Groups.{groups}
use Rattle.td_group.specs.declared.aggregates.Agg.{Agg}
use Rattle.td_group.specs.declared.aggregates.Agg.TheVariants as asked
use Rattle.td_group.proofs.Extremes.{greatest_is_a_member, least_is_a_member}
use Rattle.td_tree.specs.declared.cause.Cause.{Cause}
use Rattle.td_tree.specs.declared.cause.Cause.TheVariants as causes
use Rattle.td_tree.specs.model.Outcomes.{Only, Outcome, Valued, Refused, gathered, value_if, with_value}
use Rattle.td_types.specs.model.Headings.{is_part}
use Rattle.td_types.specs.model.Types.{Attribute}
use Rattle.td_types.proofs.OutcomeLaws.{valued_is, values_of_both}
use Rattle.td_value.specs.model.Agreement.{agree_on}
use Rattle.td_value.specs.code.ValueOrder.{order_same, order_total}
use Rattle.td_value.specs.model.Values.{Val, HaveSameMembers, Relation, Tuple, of_number, value_cmp, relation_view}
use Rattle.td_eval.specs.model.AggregateValues.{Summand, aggregate_of, aggregated_value, group_values, group_with, summarized_value, summary_in, takes}
use Rattle.td_eval.specs.model.OperatorValues.{extended_value, value_or_false}
use Rattle.td_eval.specs.laws.ValueLaws.{AreOneOutcome, TupleOrderDoesNotCount}
use Rattle.td_eval.proofs.law_lemmas.AlikeRows.{AreAlikeIn, extended_alike}
use Rattle.td_eval.proofs.code_lemmas.KeepsExtension.{gathered_member}
use Rattle.td_eval.proofs.law_lemmas.TupleOrder.{AreAlike, Refuses, extended, follows, gathered_alike, one_itself, one_order, restricted, settings}

-- ---- lists of the same items

-- the same members, and the same sum of whatever number each has
record AreSame {X : Type 0} (xs ys : List X) : Type 0 where
  members : (x : X) → Contains xs x ↔ Contains ys x
  sums : (f : X → ℕ) → sum_by f ys ≡ sum_by f xs

permuted : {X : Type 0} (xs ys : List X) → IsPermutation xs ys → AreSame xs ys
permuted xs ys p =
    record {
      members = λ x. (Contains-permutation xs ys x p, Contains-permutation ys xs x (IsPermutation-sym xs ys p));
      sums = λ f. sum_by-IsPermutation f xs ys p;
    }

module _ {X Y : Type 0} (g : X → Y) where
  sum_by_map : (f : Y → ℕ) (xs : List X) → sum_by f (map g xs) ≡ sum_by (λ x. f (g x)) xs
  sum_by_map f [] = refl
  sum_by_map f (x ∷ xs) =
      sum_by-cons f (g x) (map g xs) ∙ ap (λ n. f (g x) + n) (sum_by_map f xs) ∙ sym (sum_by-cons (λ y. f (g y)) x xs)

  mapped : (xs ys : List X) → AreSame xs ys → AreSame (map g xs) (map g ys)
  mapped xs ys same =
      record {
        members = λ y. (
          λ c. let at = (contains_map g xs y).0 c in (contains_map g ys y).1 (at.0, (same.members at.0).0 at.1, at.2),
          λ c. let at = (contains_map g ys y).0 c in (contains_map g xs y).1 (at.0, (same.members at.0).1 at.1, at.2),
        );
        sums = λ f. sum_by_map f ys ∙ same.sums (λ x. f (g x)) ∙ sym (sum_by_map f xs);
      }

module _ {X : Type 0} (p : X → Bool) where
  sum_by_filter : (f : X → ℕ) (xs : List X) → sum_by f (filter p xs) ≡ sum_by (λ x. cond (p x) (f x) 0) xs
  sum_by_filter f [] = refl
  sum_by_filter f (x ∷ xs) = by_test (p x) refl (sum_by_filter f xs) ∙ sym (sum_by-cons (λ y. cond (p y) (f y) 0) x xs)
    where
      by_test : (b : Bool) → p x ≡ b → sum_by f (filter p xs) ≡ sum_by (λ y. cond (p y) (f y) 0) xs
          → sum_by f (filter p (x ∷ xs)) ≡ cond (p x) (f x) 0 + sum_by (λ y. cond (p y) (f y) 0) xs
      by_test true is rest =
          let kept : filter p (x ∷ xs) ≡ x ∷ filter p xs = rw is refl in
          let one : cond (p x) (f x) 0 ≡ f x = rw is refl in
          ap (sum_by f) kept ∙ sum_by-cons f x (filter p xs) ∙ (λ i. sym one i + rest i)
      by_test false is rest =
          let kept : filter p (x ∷ xs) ≡ filter p xs = rw is refl in
          let none : cond (p x) (f x) 0 ≡ 0 = rw is refl in
          ap (sum_by f) kept ∙ rest ∙ omega (arith, none)

  filtered : (xs ys : List X) → AreSame xs ys → AreSame (filter p xs) (filter p ys)
  filtered xs ys same =
      record {
        members = λ x. (
          λ c. let at = (contains_filter p xs x).0 c in (contains_filter p ys x).1 ((same.members x).0 at.0, at.1),
          λ c. let at = (contains_filter p ys x).0 c in (contains_filter p xs x).1 ((same.members x).1 at.0, at.1),
        );
        sums = λ f. sum_by_filter f ys ∙ same.sums (λ x. cond (p x) (f x) 0) ∙ sym (sum_by_filter f xs);
      }

  -- all of both pass a test, or not all of either
  as_sum : (xs : List X) → list_all p xs ≡ eqb (sum_by (λ x. cond (p x) 0 1) xs) 0
  as_sum xs = (λ i. list_all (λ x. as_number (p x) i) xs) ∙ sym (sum_by-zero (λ x. cond (p x) 0 1) xs)
    where
      as_number : (b : Bool) → b ≡ eqb (cond b 0 1) 0
      as_number true = refl
      as_number false = refl

  all_alike : (xs ys : List X) → AreSame xs ys → list_all p xs ≡ list_all p ys
  all_alike xs ys same = as_sum xs ∙ ap (λ n. eqb n 0) (sym (same.sums (λ x. cond (p x) 0 1))) ∙ sym (as_sum ys)

-- ---- COUNT

length_is : {X : Type 0} (xs : List X) → length xs ≡ sum_by (λ (x : X). 1) xs
length_is [] = refl
length_is (x ∷ xs) = let rest = length_is xs in let more = sum_by-cons (λ y. 1) x xs in omega (arith, rest, more)

-- ---- SUM

-- a number is what it has above zero less what it has below
abbrev above : ℤ → ℕ
above (pos n) = n
above (negsuc n) = 0

abbrev below : ℤ → ℕ
below (pos n) = 0
below (negsuc n) = suc n

one_term : (z : ℤ) (m n : ℕ) → (z +ℤ (pos m -ℤ pos n)) ≡ (pos (above z + m) -ℤ pos (below z + n))
one_term (pos k) m n = omega (arith, ints)
one_term (negsuc k) m n = omega (arith, ints)

sum_is : (vs : List Val) → sum_of vs ≡ (pos (sum_by (λ v. above (summand v)) vs) -ℤ pos (sum_by (λ v. below (summand v)) vs))
sum_is [] = refl
sum_is (v ∷ vs) =
    ap (λ z. summand v +ℤ z) (sum_is vs)
    ∙ one_term (summand v) (sum_by (λ u. above (summand u)) vs) (sum_by (λ u. below (summand u)) vs)
    ∙ (λ i. pos (sym (sum_by-cons (λ u. above (summand u)) v vs) i) -ℤ pos (sym (sum_by-cons (λ u. below (summand u)) v vs) i))

sum_alike : (vs ws : List Val) → AreSame vs ws → sum_of vs ≡ sum_of ws
sum_alike vs ws same =
    sum_is vs ∙ (λ i. pos (sym (same.sums (λ v. above (summand v))) i) -ℤ pos (sym (same.sums (λ v. below (summand v))) i))
    ∙ sym (sum_is ws)

-- ---- MAX and MIN

neither_below : (v w : Val) → is_lt (value_cmp v w) ≡ false → is_lt (value_cmp w v) ≡ false → v ≡ w
neither_below v w p q = by_order (value_cmp v w) refl
  where
    by_order : (o : Ordering) → value_cmp v w ≡ o → v ≡ w
    by_order Less e = absurd (true≢false (ap is_lt (sym e) ∙ p))
    by_order Equal e = order_same v w e
    by_order Greater e = absurd (true≢false (sym (ap is_lt (order_total.antisymm w v ∙ ap ordering_reverse e)) ∙ q))

module _ (v : Val) (vs : List Val) (w : Val) (ws : List Val) (same : AreSame (v ∷ vs) (w ∷ ws)) where
  greatest_alike : greatest_value v vs ≡ greatest_value w ws
  greatest_alike =
      let first = greatest_is_a_member v vs in
      let second = greatest_is_a_member w ws in
      neither_below (greatest_value v vs) (greatest_value w ws)
      (first.1 (greatest_value w ws) ((same.members (greatest_value w ws)).1 second.0))
      (second.1 (greatest_value v vs) ((same.members (greatest_value v vs)).0 first.0))

  least_alike : least_value v vs ≡ least_value w ws
  least_alike =
      let first = least_is_a_member v vs in
      let second = least_is_a_member w ws in
      neither_below (least_value v vs) (least_value w ws)
      (second.1 (least_value v vs) ((same.members (least_value v vs)).0 first.0))
      (first.1 (least_value w ws) ((same.members (least_value w ws)).1 second.0))

-- ---- aggregates

not_empty : (v : Val) (vs : List Val) → AreSame [] (v ∷ vs) → ⊥
not_empty v vs same = contains_none v ((same.members v).1 (contains_first v vs))

not_filled : (v : Val) (vs : List Val) → AreSame (v ∷ vs) [] → ⊥
not_filled v vs same = contains_none v ((same.members v).0 (contains_first v vs))

aggregate_alike : (a : Agg) (vs ws : List Val) → AreSame vs ws → aggregate a vs ≡ aggregate a ws
aggregate_alike asked.Count vs ws same =
    ap (λ n. of_number (pos n)) (length_is vs ∙ sym (same.sums (λ v. 1)) ∙ sym (length_is ws))
aggregate_alike asked.Sum vs ws same = ap of_number (sum_alike vs ws same)
aggregate_alike asked.Max [] [] same = refl
aggregate_alike asked.Max [] (w ∷ ws) same = absurd (not_empty w ws same)
aggregate_alike asked.Max (v ∷ vs) [] same = absurd (not_filled v vs same)
aggregate_alike asked.Max (v ∷ vs) (w ∷ ws) same = ap Valued (greatest_alike v vs w ws same)
aggregate_alike asked.Min [] [] same = refl
aggregate_alike asked.Min [] (w ∷ ws) same = absurd (not_empty w ws same)
aggregate_alike asked.Min (v ∷ vs) [] same = absurd (not_filled v vs same)
aggregate_alike asked.Min (v ∷ vs) (w ∷ ws) same = ap Valued (least_alike v vs w ws same)

aggregate_of_alike : (a : Agg) (vs ws : List Val) → AreSame vs ws → aggregate_of a vs ≡ aggregate_of a ws
aggregate_of_alike a vs ws same =
    by_test (list_all (takes a) vs)
    ∙ ap (λ b. with_value (value_if b ws causes.TypeMismatch) (aggregate a)) (all_alike (takes a) vs ws same)
  where
    by_test : (b : Bool) → with_value (value_if b vs causes.TypeMismatch) (aggregate a)
        ≡ with_value (value_if b ws causes.TypeMismatch) (aggregate a)
    by_test true = aggregate_alike a vs ws same
    by_test false = refl

-- ---- of the values of an expression

-- what is gathered are the values
gathered_is : (f : Tuple → Outcome Val) (ts : List Tuple) (vs : List Val) → gathered (map f ts) ≡ Valued vs
    → vs ≡ map (λ t. value_or_false (f t)) ts
gathered_is f [] vs e = sym (valued_is [] vs e)
gathered_is f (t ∷ ts) vs e =
    let is = values_of_both (f t) (gathered (map f ts)) (λ x xs. Valued (x ∷ xs)) vs e in
    let first = ap value_or_false is.2 in
    let rest = gathered_is f ts is.1 is.3 in
    sym (valued_is (is.0 ∷ is.1) vs is.4) ∙ (λ i. sym first i ∷ rest i)

values_same : (f : Tuple → Outcome Val) (ts us : List Tuple) (vs ws : List Val) → AreSame ts us
    → gathered (map f ts) ≡ Valued vs → gathered (map f us) ≡ Valued ws
    → AreSame vs ws
values_same f ts us vs ws same e g =
    subst (λ xs. AreSame xs ws) (sym (gathered_is f ts vs e))
    (subst (AreSame (map (λ t. value_or_false (f t)) ts)) (sym (gathered_is f us ws g)) (mapped (λ t. value_or_false (f t)) ts us same))

one_outcome : (o p : Outcome Val) → o ≡ p → AreOneOutcome o p
one_outcome o p e = subst (AreOneOutcome o) e (one_itself o)

aggregated : (a : Agg) (f : Tuple → Outcome Val) (r : Relation) (us : List Tuple) → AreSame r.body us
    → AreOneOutcome (aggregated_value a f r) (aggregated_value a f (relation_view r.heading us))
aggregated a f r us same =
    follows (gathered (map f r.body)) (gathered (map f us)) (aggregate_of a) (aggregate_of a)
    (one_order f r.body us same.members)
    (λ vs ws e g. one_outcome (aggregate_of a vs) (aggregate_of a ws) (aggregate_of_alike a vs ws (values_same f r.body us vs ws same e g)))

-- ---- SUMMARIZE

-- of the same tuples, where each has the same causes twice
two_orders : {A : Type 0} (f g : Tuple → Outcome A) (ts us : List Tuple) → HaveSameMembers ts us
    → ((t : Tuple) (c : Cause) → Refuses (f t) c ↔ Refuses (g t) c)
    → (c : Cause) → Refuses (gathered (map f ts)) c ↔ Refuses (gathered (map g us)) c
two_orders f g ts us same alike c =
    let first = one_order f ts us same c in
    let second = gathered_alike (map f us) (map g us) (each us) c in
    (λ h. second.0 (first.0 h), λ h. first.1 (second.1 h))
  where
    each : (us : List Tuple) → AreAlike (map f us) (map g us)
    each [] = tt
    each (u ∷ us) = (alike u, each us)

map_twice : {X Y Z : Type 0} (f : Y → Z) (g : X → Y) (xs : List X) → map f (map g xs) ≡ map (λ x. f (g x)) xs
map_twice f g [] = refl
map_twice f g (x ∷ xs) = ap (λ zs. f (g x) ∷ zs) (map_twice f g xs)

-- the values in groups, tuple by tuple of PER
values_by_tuple : (r p : Relation) (item : Summand)
    → group_values (groups r p) item ≡ gathered (map (λ w. gathered (map item.1 (group_with r p w).body)) p.body)
values_by_tuple r p item =
    ap gathered
    (map_twice (λ (g : Tuple × Relation). gathered (map item.1 g.1.body))
    (λ w. (w, restriction (agree_on (common_names p r) w) r)) p.body)

module _ (r p : Relation) (ts us : List Tuple) (same : AreSame r.body ts) (alike : HaveSameMembers p.body us) where
  abbrev r' : Relation
  r' = relation_view r.heading ts

  abbrev p' : Relation
  p' = relation_view p.heading us

  -- the group of a tuple
  group_same : (w : Tuple) → AreSame (group_with r p w).body (group_with r' p' w).body
  group_same w = filtered (agree_on (common_names p r) w) r.body ts same

  group_refuses : (item : Summand) (c : Cause)
      → Refuses (group_values (groups r p) item) c ↔ Refuses (group_values (groups r' p') item) c
  group_refuses item c =
      let both = two_orders (λ w. gathered (map item.1 (group_with r p w).body))
      (λ w. gathered (map item.1 (group_with r' p' w).body)) p.body us alike
      (λ w d. one_order item.1 (group_with r p w).body (group_with r' p' w).body (group_same w).members d) c in
      let first = values_by_tuple r p item in
      let second = values_by_tuple r' p' item in (
        λ h. subst (λ o. Refuses o c) (sym second) (both.0 (subst (λ o. Refuses o c) first h)),
        λ h. subst (λ o. Refuses o c) (sym first) (both.1 (subst (λ o. Refuses o c) second h)),
      )

  groups_refuse : (items : List Summand)
      → AreAlike (map (group_values (groups r p)) items) (map (group_values (groups r' p')) items)
  groups_refuse [] = tt
  groups_refuse (item ∷ items) = (group_refuses item, groups_refuse items)

  -- where the values of all are given, what the items give of the group of a tuple is the same
  item_same : (item : Summand) (first second : List (List Val)) → group_values (groups r p) item ≡ Valued first
      → group_values (groups r' p') item ≡ Valued second
      → (w : Tuple) → Contains p.body w → summary_in r p item w ≡ summary_in r' p' item w
  item_same item first second e g w c =
      let here = gathered_member (λ w. gathered (map item.1 (group_with r p w).body)) p.body first
      (sym (values_by_tuple r p item) ∙ e) w c in
      let there = gathered_member (λ w. gathered (map item.1 (group_with r' p' w).body)) us second
      (sym (values_by_tuple r' p' item) ∙ g) w ((alike w).0 c) in
      ap (λ o. with_value o (aggregate_of item.0)) here.1
      ∙ aggregate_of_alike item.0 here.0 there.0
      (values_same item.1 (group_with r p w).body (group_with r' p' w).body here.0 there.0 (group_same w) here.1 there.1)
      ∙ sym (ap (λ o. with_value o (aggregate_of item.0)) there.1)

  items_same : (items : List Summand) (first second : List (List (List Val)))
      → gathered (map (group_values (groups r p)) items) ≡ Valued first
      → gathered (map (group_values (groups r' p')) items) ≡ Valued second
      → AreAlikeIn p (map (summary_in r p) items) (map (summary_in r' p') items)
  items_same [] first second e g = tt
  items_same (item ∷ items) first second e g =
      let here = values_of_both (group_values (groups r p) item) (gathered (map (group_values (groups r p)) items))
      (λ x xs. Valued (x ∷ xs)) first e in
      let there = values_of_both (group_values (groups r' p') item) (gathered (map (group_values (groups r' p')) items))
      (λ x xs. Valued (x ∷ xs)) second g in
      (item_same item here.0 there.0 here.2 there.2, items_same items here.1 there.1 here.3 there.3)

  summarized : (types : Outcome (List Attribute)) (items : List Summand)
      → AreOneOutcome (summarized_value types items r p) (summarized_value types items r' p')
  summarized types items = by_test (is_part p.heading r.heading)
    where
      by_test : (b : Bool)
          → AreOneOutcome
          (with_value (value_if b (groups r p) causes.Heading)
          (λ gs. with_value (gathered (map (group_values gs) items)) (λ values. extended_value types (map (summary_in r p) items) p)))
          (with_value (value_if b (groups r' p') causes.Heading)
          (λ gs. with_value (gathered (map (group_values gs) items)) (λ values. extended_value types (map (summary_in r' p') items) p')))
      by_test false = one_itself (Refused (Only causes.Heading))
      by_test true =
          follows (gathered (map (group_values (groups r p)) items)) (gathered (map (group_values (groups r' p')) items))
          (λ values. extended_value types (map (summary_in r p) items) p)
          (λ values. extended_value types (map (summary_in r' p') items) p')
          (gathered_alike (map (group_values (groups r p)) items) (map (group_values (groups r' p')) items) (groups_refuse items))
          (λ first second e g. subst (λ o. AreOneOutcome o (extended_value types (map (summary_in r' p') items) p'))
          (sym (extended_alike p types (map (summary_in r p) items) (map (summary_in r' p') items) (items_same items first second e g)))
          (extended types (map (summary_in r' p') items) p us alike))

pub tuple_order_does_not_count : TupleOrderDoesNotCount
tuple_order_does_not_count =
    record {
      restricted = restricted;
      extended = extended;
      set = settings;
      values = λ a vs ws p. aggregate_alike a vs ws (permuted vs ws p);
      aggregated = λ a f r ts p. aggregated a f r ts (permuted r.body ts p);
      summarized = λ types items r q ts us p same. summarized r q ts us (permuted r.body ts p) same types items;
    }
