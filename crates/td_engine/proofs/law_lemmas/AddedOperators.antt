-- The operators of images keep what came in, and the questions that are asked of images are answered by it.
use Rattle.std.proofs.Common.{◌≡◌, ◌∙◌, ◌⊎◌, inl, inr, Bool, true, false, List, [], ◌∷◌, ap, length, map, not, refl, subst, sym, true≢false}
use Rattle.std.specs.Prelude.{◌↔◌, IsTrue, nat_eq}
use Rattle.std.specs.List.{Contains, list_all, list_any}
use Rattle.td_algebra.proofs.JoinMembers.{join_of_pairs}
use Rattle.td_algebra.proofs.Lists.{contains_filter, contains_map, contains_none}
use Rattle.td_algebra.specs.laws.Membership.{IsIn}
use Rattle.td_algebra.specs.model.Operators.{difference, extended_relation, extended_tuple, added_attributes, intersection, is_subset, join, projected_relation, renamed_relation, renamed_tuple, restriction, semidifference, semijoin, set_relation, set_tuple, united_tuple}
use Rattle.td_body.specs.model.Bodies.{after_change}
use Rattle.td_check.specs.model.OperatorTypes.{extended_by, renaming_pairs, same_heading, set_heading}
use Rattle.td_engine.proofs.law_lemmas.AddedOutcomes.{both_one, causes_of_additions, given_keep, made_additions, on_relations_keep, valued_is, where_keeps}
use Rattle.td_engine.proofs.law_lemmas.Emptiness.{both_empty, not_empty}
use Rattle.td_engine.proofs.law_lemmas.ImageTests.{one_test, tested, tests}
use Rattle.td_engine.specs.laws.Additions.{AsksAdditions, GiveAdditions, GivesOfFirst, GivesOfSecond, IsOfAdditions, KeepsAdditions, OperatorsKeepAdditions}
use Rattle.td_eval.proofs.code_lemmas.OpValues.{relation_unpacked}
use Rattle.td_eval.proofs.law_lemmas.TupleOrder.{AreAlike, gathered_alike, one_itself}
use Rattle.td_eval.specs.model.OperatorValues.{additions_of, column_values, columns_values, comparison_value, extended_by_settings, extended_value, is_true, listed_names, measure_value, of_relation, of_truth, on_relation, on_relations, operator_value, postfix_value, projected_names, relation_where, restricted_value, set_value, truth_value, value_of_type}
use Rattle.td_eval.specs.laws.ValueLaws.{AreOneOutcome}
use Rattle.td_tree.specs.declared.cause.Cause.TheVariants as causes
use Rattle.td_tree.specs.declared.operator.Comparison.TheVariants as comparisons
use Rattle.td_tree.specs.declared.operator.Measure.TheVariants as measures
use Rattle.td_tree.specs.declared.operator.Operator.{Operator}
use Rattle.td_tree.specs.declared.operator.Operator.TheVariants as operators
use Rattle.td_tree.specs.declared.operator.Style.{Style}
use Rattle.td_tree.specs.model.Outcomes.{Outcome, Refused, Valued, gathered, value_if, with_value}
use Rattle.td_tree.specs.model.Trees.{Attributes, Renaming, project, rename}
use Rattle.td_types.proofs.OutcomeLaws.{value_of_with, values_of_both}
use Rattle.td_types.specs.model.Headings.{agree, can_rename, common_part, has_projection, heading_union, outside, projection, renamed_attributes}
use Rattle.td_types.specs.model.Types.{Attribute, Heading, attribute_names, unpack}
use Rattle.td_value.proofs.Members.{contained, found, joined_members, set_members}
use Rattle.td_value.specs.model.Agreement.{agree_on}
use Rattle.td_value.specs.model.Sets.{has}
use Rattle.td_value.specs.model.Values.{Relation, Tuple, Val, boolean, char, integer, projected_tuple, relation, relation_of, relation_value, tuple, tuple_cmp, unpack_rows, user, relation_view}

-- ---- a change

changed : (old out add : Relation) → add.heading ≡ old.heading → IsOfAdditions old (after_change out add old) add
changed old out add headed =
    record {
      headings = (refl, headed);
      there = λ t c. (joined_members (difference old out).body add.body t).1 (inr c);
      either = λ t c. by_case t ((joined_members (difference old out).body add.body t).0 c);
    }
  where
    by_case : (t : Tuple) → Contains (difference old out).body t ⊎ Contains add.body t → IsIn t old ⊎ IsIn t add
    by_case t (inl c) = inl ((contains_filter (λ u. not (has tuple_cmp u out.body)) old.body t).0 c).0
    by_case t (inr c) = inr c

-- ---- a tuple of each

module _ (new : Heading → Heading) (each : Heading → Tuple → Tuple) where
  abbrev made : Relation → Relation
  made q = relation_of (new q.heading) (map (each q.heading) q.body)

  pub each_keeps : (r a t : Relation) → IsOfAdditions r a t → IsOfAdditions (made r) (made a) (made t)
  each_keeps r a t is =
      made_additions made (λ x u. each r.heading x ≡ u) r a t is by_each (λ q same. ap new same)
    where
      by_each : (q : Relation) → q.heading ≡ r.heading → (u : Tuple) → IsIn u (made q) ↔ ((x : Tuple) × IsIn x q × (each r.heading x ≡ u))
      by_each q same u = (
        λ c.
            let x = (contains_map (each q.heading) q.body u).0 ((set_members (map (each q.heading) q.body) u).0 c) in
            (x.0, x.1, ap (λ h. each h x.0) (sym same) ∙ x.2),
        λ x.
            (set_members (map (each q.heading) q.body) u).1
            ((contains_map (each q.heading) q.body u).1 (x.0, x.1, ap (λ h. each h x.0) same ∙ x.2)),
      )

projected : (attributes : Attributes) → KeepsAdditions (postfix_value (project attributes))
projected attributes =
    on_relations_keep
    (λ q. relation_where (has_projection (listed_names attributes) q.heading) (projected_relation (projected_names attributes q.heading) q))
    (where_keeps (has_projection (listed_names attributes)) (λ q. projected_relation (projected_names attributes q.heading) q)
    (each_keeps (λ h. projection (projected_names attributes h) h) (λ h. projected_tuple (projected_names attributes h))))

renamed : (style : Style) (renamings : List Renaming) → KeepsAdditions (postfix_value (rename style renamings))
renamed style renamings =
    on_relations_keep
    (λ q. relation_where (can_rename (renaming_pairs renamings) q.heading) (renamed_relation (renaming_pairs renamings) q))
    (where_keeps (can_rename (renaming_pairs renamings)) (renamed_relation (renaming_pairs renamings))
    (each_keeps (λ h. heading_union [] (renamed_attributes (renaming_pairs renamings) h)) (λ h. renamed_tuple (renaming_pairs renamings))))

-- ---- the tuples that pass a test

module _ (keeps : Heading → Tuple → Bool) where
  abbrev kept : Relation → Relation
  kept q = restriction (keeps q.heading) q

  pub test_keeps : (r a t : Relation) → IsOfAdditions r a t → IsOfAdditions (kept r) (kept a) (kept t)
  test_keeps r a t is =
      made_additions kept (λ x u. (x ≡ u) × IsTrue (keeps r.heading u)) r a t is by_test (λ q same. same)
    where
      by_test : (q : Relation) → q.heading ≡ r.heading → (u : Tuple)
          → IsIn u (kept q) ↔ ((x : Tuple) × IsIn x q × ((x ≡ u) × IsTrue (keeps r.heading u)))
      by_test q same u = (
        λ c.
            let x = (contains_filter (keeps q.heading) q.body u).0 c in
            (u, x.0, (refl, subst (λ h. IsTrue (keeps h u)) same x.1)),
        λ x.
            (contains_filter (keeps q.heading) q.body u).1
            (subst (Contains q.body) x.2.0 x.1, subst (λ h. IsTrue (keeps h u)) (sym same) x.2.1),
      )

restricted : (p : Tuple → Outcome Val) → KeepsAdditions (λ v. on_relation v (restricted_value p))
restricted p = on_relations_keep (restricted_value p) keep
  where
    truths : Relation → Outcome (List Bool)
    truths q = gathered (map (λ t. truth_value (p t)) q.body)

    met : Relation → Relation
    met = restriction (λ t. is_true (p t))

    keep : (r a t : Relation) (v : Val) → IsOfAdditions r a t → restricted_value p r ≡ Valued v
        → GiveAdditions v (restricted_value p a) (restricted_value p t)
    keep r a t v is e =
        let x = value_of_with (truths r) (λ _. of_relation (met r)) v e in
        given_keep (truths a) (truths t) v (met r) (met a) (met t) (causes_of_additions (λ u. truth_value (p u)) r a t x.0 is x.1)
        (sym (valued_is (relation_value (met r)) v x.2)) (test_keeps (λ h u. is_true (p u)) r a t is)

-- ---- new attributes

-- the causes of all attributes are those of what came in
columns_alike : (attributes : List Attribute) (fs : List (Tuple → Outcome Val)) (r a t : Relation) (columns : List (List Val)) → IsOfAdditions r a t
    → gathered (columns_values attributes fs r.body) ≡ Valued columns → AreAlike (columns_values attributes fs a.body) (columns_values attributes fs t.body)
columns_alike [] fs r a t columns is e = tt
columns_alike (b ∷ attributes) [] r a t columns is e = tt
columns_alike (b ∷ attributes) (f ∷ fs) r a t columns is e =
    let x = values_of_both (column_values b.1 f r.body) (gathered (columns_values attributes fs r.body)) (λ y ys. Valued (y ∷ ys)) columns e in
    (causes_of_additions (λ u. with_value (f u) (value_of_type b.1)) r a t x.0 is x.2, columns_alike attributes fs r a t x.1 is x.3)

extended : (types : Heading → Outcome (List Attribute)) (fs : List (Tuple → Outcome Val))
    → KeepsAdditions (λ v. on_relation v (λ r. extended_value (types r.heading) fs r))
extended types fs = on_relations_keep (λ q. extended_value (types q.heading) fs q) keep
  where
    columns_in : List Attribute → Relation → Outcome (List (List Val))
    columns_in attributes q = gathered (columns_values attributes fs q.body)

    wider : List Attribute → Relation → Relation
    wider attributes q = extended_relation (additions_of attributes fs) q

    keep : (r a t : Relation) (v : Val) → IsOfAdditions r a t → extended_value (types r.heading) fs r ≡ Valued v
        → GiveAdditions v (extended_value (types a.heading) fs a) (extended_value (types t.heading) fs t)
    keep r a t v is e =
        subst (λ o. GiveAdditions v o (extended_value (types t.heading) fs t)) (sym (at a is.headings.0))
        (subst (λ o. GiveAdditions v (with_value (columns_in x.0 a) (λ _. of_relation (wider x.0 a))) o) (sym (at t is.headings.1))
        (given_keep (columns_in x.0 a) (columns_in x.0 t) v (wider x.0 r) (wider x.0 a) (wider x.0 t)
        (gathered_alike (columns_values x.0 fs a.body) (columns_values x.0 fs t.body) (columns_alike x.0 fs r a t z.0 is z.1))
        (sym (valued_is (relation_value (wider x.0 r)) v z.2))
        (each_keeps (λ h. heading_union h (added_attributes (additions_of x.0 fs))) (λ h. extended_tuple (additions_of x.0 fs)) r a t is)))
      where
        rest : Relation → List Attribute → Outcome Val
        rest q attributes =
            with_value (extended_by q.heading attributes) (λ heading. with_value (columns_in attributes q) (λ _. of_relation (wider attributes q)))

        x : (attributes : List Attribute) × (types r.heading ≡ Valued attributes) × (rest r attributes ≡ Valued v)
        x = value_of_with (types r.heading) (rest r) v e

        y : (heading : Heading) × (extended_by r.heading x.0 ≡ Valued heading) × (with_value (columns_in x.0 r) (λ _. of_relation (wider x.0 r)) ≡ Valued v)
        y = value_of_with (extended_by r.heading x.0) (λ _. with_value (columns_in x.0 r) (λ _. of_relation (wider x.0 r))) v x.2

        z : (columns : List (List Val)) × (columns_in x.0 r ≡ Valued columns) × (of_relation (wider x.0 r) ≡ Valued v)
        z = value_of_with (columns_in x.0 r) (λ _. of_relation (wider x.0 r)) v y.2

        at : (q : Relation) → q.heading ≡ r.heading
            → extended_value (types q.heading) fs q ≡ with_value (columns_in x.0 q) (λ _. of_relation (wider x.0 q))
        at q same =
            ap (λ o. with_value o (rest q)) (ap types same ∙ x.1)
            ∙ ap (λ o. with_value o (λ heading. with_value (columns_in x.0 q) (λ _. of_relation (wider x.0 q))))
            (ap (λ h. extended_by h x.0) same ∙ y.1)

-- attributes that are set
set : (types : Heading → Outcome (List Attribute)) (fs : List (Tuple → Outcome Val))
    → KeepsAdditions (λ v. on_relation v (λ r. extended_by_settings (types r.heading) fs r))
set types fs = on_relations_keep (λ q. extended_by_settings (types q.heading) fs q) keep
  where
    columns_in : List Attribute → Relation → Outcome (List (List Val))
    columns_in attributes q = gathered (columns_values attributes fs q.body)

    with_set : List Attribute → Relation → Relation
    with_set attributes q = set_relation (additions_of attributes fs) q

    regrouped : (o : Outcome (List (List Val))) (q : Relation)
        → with_value (with_value o (λ _. Valued q)) of_relation ≡ with_value o (λ _. of_relation q)
    regrouped (Valued columns) q = refl
    regrouped (Refused cs) q = refl

    keep : (r a t : Relation) (v : Val) → IsOfAdditions r a t → extended_by_settings (types r.heading) fs r ≡ Valued v
        → GiveAdditions v (extended_by_settings (types a.heading) fs a) (extended_by_settings (types t.heading) fs t)
    keep r a t v is e =
        subst (λ o. GiveAdditions v o (extended_by_settings (types t.heading) fs t)) (sym (at a is.headings.0))
        (subst (λ o. GiveAdditions v (with_value (columns_in x.0 a) (λ _. of_relation (with_set x.0 a))) o) (sym (at t is.headings.1))
        (given_keep (columns_in x.0 a) (columns_in x.0 t) v (with_set x.0 r) (with_set x.0 a) (with_set x.0 t)
        (gathered_alike (columns_values x.0 fs a.body) (columns_values x.0 fs t.body) (columns_alike x.0 fs r a t z.0 is z.1))
        (sym (valued_is (relation_value (with_set x.0 r)) v z.2))
        (each_keeps (λ h. heading_union (outside (added_attributes (additions_of x.0 fs)) h) (added_attributes (additions_of x.0 fs)))
        (λ h. set_tuple (additions_of x.0 fs)) r a t is)))
      where
        rest : Relation → List Attribute → Outcome Val
        rest q attributes = with_value (set_heading q.heading attributes) (λ heading. with_value (set_value attributes fs q) of_relation)

        x : (attributes : List Attribute) × (types r.heading ≡ Valued attributes) × (rest r attributes ≡ Valued v)
        x = value_of_with (types r.heading) (rest r) v e

        y : (heading : Heading) × (set_heading r.heading x.0 ≡ Valued heading) × (with_value (set_value x.0 fs r) of_relation ≡ Valued v)
        y = value_of_with (set_heading r.heading x.0) (λ _. with_value (set_value x.0 fs r) of_relation) v x.2

        z : (columns : List (List Val)) × (columns_in x.0 r ≡ Valued columns) × (of_relation (with_set x.0 r) ≡ Valued v)
        z = value_of_with (columns_in x.0 r) (λ _. of_relation (with_set x.0 r)) v (sym (regrouped (columns_in x.0 r) (with_set x.0 r)) ∙ y.2)

        at : (q : Relation) → q.heading ≡ r.heading
            → extended_by_settings (types q.heading) fs q ≡ with_value (columns_in x.0 q) (λ _. of_relation (with_set x.0 q))
        at q same =
            ap (λ o. with_value o (rest q)) (ap types same ∙ x.1)
            ∙ ap (λ o. with_value o (λ heading. with_value (set_value x.0 fs q) of_relation)) (ap (λ h. set_heading h x.0) same ∙ y.1)
            ∙ regrouped (columns_in x.0 q) (with_set x.0 q)

-- ---- operators of two relations

-- of the first, beside a second
module _ (fits : Heading → Heading → Bool) (both : Relation → Relation → Relation)
    (keep : (s r a t : Relation) → IsOfAdditions r a t → IsOfAdditions (both r s) (both a s) (both t s)) where
  pub first_keeps : (other : Val) → KeepsAdditions (λ v. on_relations v other (λ r s. relation_where (fits r.heading s.heading) (both r s)))
  first_keeps (relation g ss) r a t v is e =
      let s = relation_view (unpack g) (unpack_rows ss) in
      on_relations_keep (λ q. relation_where (fits q.heading s.heading) (both q s)) (where_keeps (λ h. fits h s.heading) (λ q. both q s) (keep s)) r a t v is e
  first_keeps (boolean b) r a t v is e = absurd (cc)
  first_keeps (integer z) r a t v is e = absurd (cc)
  first_keeps (char s) r a t v is e = absurd (cc)
  first_keeps (user n ps) r a t v is e = absurd (cc)
  first_keeps (tuple fs) r a t v is e = absurd (cc)

-- of the second, beside a first
module _ (fits : Heading → Heading → Bool) (both : Relation → Relation → Relation)
    (keep : (s r a t : Relation) → IsOfAdditions r a t → IsOfAdditions (both s r) (both s a) (both s t)) where
  pub second_keeps : (other : Val) → KeepsAdditions (λ v. on_relations other v (λ s r. relation_where (fits s.heading r.heading) (both s r)))
  second_keeps (relation g ss) r a t v is e =
      let s = relation_view (unpack g) (unpack_rows ss) in
      on_relations_keep (λ q. relation_where (fits s.heading q.heading) (both s q)) (where_keeps (λ h. fits s.heading h) (λ q. both s q) (keep s)) r a t v is e
  second_keeps (boolean b) r a t v is e = absurd (cc)
  second_keeps (integer z) r a t v is e = absurd (cc)
  second_keeps (char s) r a t v is e = absurd (cc)
  second_keeps (user n ps) r a t v is e = absurd (cc)
  second_keeps (tuple fs) r a t v is e = absurd (cc)

-- the tuples of a join are those of pairs
joined : (s r a t : Relation) → IsOfAdditions r a t → IsOfAdditions (join r s) (join a s) (join t s)
joined s r a t is = made_additions (λ q. join q s) IsPaired r a t is by_pairs (λ q same. ap (λ h. heading_union h s.heading) same)
  where
    are_paired : Heading → Tuple → Tuple → Bool
    are_paired h = agree_on (attribute_names (common_part h s.heading))

    IsPaired : Tuple → Tuple → Type 0
    IsPaired x u = (w : Tuple) × Contains s.body w × IsTrue (are_paired r.heading x w) × (united_tuple x w ≡ u)

    by_pairs : (q : Relation) → q.heading ≡ r.heading → (u : Tuple) → IsIn u (join q s) ↔ ((x : Tuple) × IsIn x q × IsPaired x u)
    by_pairs q same u = (
      λ c. let x = (join_of_pairs q s u).0 c in (x.0, x.2, (x.1, x.3, subst (λ h. IsTrue (are_paired h x.0 x.1)) same x.4, x.5)),
      λ x. (join_of_pairs q s u).1 (x.0, x.2.0, x.1, x.2.1, subst (λ h. IsTrue (are_paired h x.0 x.2.0)) (sym same) x.2.2, x.2.3),
    )

joined_behind : (s r a t : Relation) → IsOfAdditions r a t → IsOfAdditions (join s r) (join s a) (join s t)
joined_behind s r a t is = made_additions (λ q. join s q) IsPaired r a t is by_pairs (λ q same. ap (heading_union s.heading) same)
  where
    are_paired : Heading → Tuple → Tuple → Bool
    are_paired h = agree_on (attribute_names (common_part s.heading h))

    IsPaired : Tuple → Tuple → Type 0
    IsPaired x u = (w : Tuple) × Contains s.body w × IsTrue (are_paired r.heading w x) × (united_tuple w x ≡ u)

    by_pairs : (q : Relation) → q.heading ≡ r.heading → (u : Tuple) → IsIn u (join s q) ↔ ((x : Tuple) × IsIn x q × IsPaired x u)
    by_pairs q same u = (
      λ c. let x = (join_of_pairs s q u).0 c in (x.1, x.3, (x.0, x.2, subst (λ h. IsTrue (are_paired h x.0 x.1)) same x.4, x.5)),
      λ x. (join_of_pairs s q u).1 (x.2.0, x.0, x.2.1, x.1, subst (λ h. IsTrue (are_paired h x.2.0 x.0)) (sym same) x.2.2, x.2.3),
    )

-- the tuples of both
shared_behind : (s r a t : Relation) → IsOfAdditions r a t → IsOfAdditions (intersection s r) (intersection s a) (intersection s t)
shared_behind s r a t is = made_additions (intersection s) (λ x u. (x ≡ u) × IsIn u s) r a t is by_both (λ q same. refl)
  where
    by_both : (q : Relation) → q.heading ≡ r.heading → (u : Tuple) → IsIn u (intersection s q) ↔ ((x : Tuple) × IsIn x q × ((x ≡ u) × IsIn u s))
    by_both q same u = (
      λ c. let x = (contains_filter (λ w. has tuple_cmp w q.body) s.body u).0 c in (u, contained u q.body x.1, (refl, x.0)),
      λ x. (contains_filter (λ w. has tuple_cmp w q.body) s.body u).1 (x.2.1, found u q.body (subst (Contains q.body) x.2.0 x.1)),
    )

first : (op : Operator) (other : Val) → GivesOfFirst op → KeepsAdditions (λ v. operator_value op v other)
first operators.Intersect other is =
    first_keeps same_heading intersection (λ s. test_keeps (λ h t. has tuple_cmp t s.body)) other
first operators.Minus other is =
    first_keeps same_heading difference (λ s. test_keeps (λ h t. not (has tuple_cmp t s.body))) other
first operators.Join other is = first_keeps agree join joined other
first operators.Matching other is =
    first_keeps agree semijoin (λ s. test_keeps (λ h t. list_any (agree_on (attribute_names (common_part h s.heading)) t) s.body)) other
first operators.NotMatching other is =
    first_keeps agree semidifference (λ s. test_keeps (λ h t. not (list_any (agree_on (attribute_names (common_part h s.heading)) t) s.body))) other
first _ other is = absurd is

second : (op : Operator) (other : Val) → GivesOfSecond op → KeepsAdditions (operator_value op other)
second operators.Intersect other is = second_keeps same_heading intersection shared_behind other
second operators.Join other is = second_keeps agree join joined_behind other
second _ other is = absurd is

-- ---- questions

-- where nothing was, what is there is what came in
emptiness : AsksAdditions (measure_value measures.IsEmpty)
emptiness r a t is e =
    subst (λ o. AreOneOutcome (measure_value measures.IsEmpty (relation_value a)) o) (one_number) (one_itself (measure_value measures.IsEmpty (relation_value a)))
  where
    counted : (q : Relation) → measure_value measures.IsEmpty (relation_value q) ≡ of_truth (nat_eq (length q.body) 0)
    counted q = relation_unpacked q (λ p. of_truth (nat_eq (length p.body) 0))

    truth_is : (b : Bool) → of_truth b ≡ Valued (boolean true) → b ≡ true
    truth_is b f = cc

    none_in : (ts : List Tuple) → nat_eq (length ts) 0 ≡ true → (u : Tuple) → Contains ts u → ⊥
    none_in [] f u c = contains_none u c
    none_in (u ∷ us) f w c = true≢false (sym f ∙ not_empty u us)

    none : (u : Tuple) → IsIn u r → ⊥
    none = none_in r.body (truth_is (nat_eq (length r.body) 0) (sym (counted r) ∙ e))

    came_in : (u : Tuple) → IsIn u r ⊎ IsIn u t → IsIn u t
    came_in u (inl c) = absurd (none u c)
    came_in u (inr c) = c

    one_number : measure_value measures.IsEmpty (relation_value a) ≡ measure_value measures.IsEmpty (relation_value t)
    one_number =
        counted a ∙ ap of_truth (both_empty a.body t.body (λ u. (λ c. came_in u (is.either u c), is.there u))) ∙ sym (counted t)

-- where all passed a test, whether all do afterwards is whether what came in does
all_pass : (test : Tuple → Bool) (r a t : Relation) → IsOfAdditions r a t → list_all test r.body ≡ true → list_all test a.body ≡ list_all test t.body
all_pass test r a t is e =
    one_test (list_all test a.body) (list_all test t.body)
    (λ f. tests test t.body (λ u c. tested test a.body f u (is.there u c)))
    (λ f. tests test a.body (λ u c. by_case f u (is.either u c)))
  where
    by_case : list_all test t.body ≡ true → (u : Tuple) → IsIn u r ⊎ IsIn u t → test u ≡ true
    by_case f u (inl c) = tested test r.body e u c
    by_case f u (inr c) = tested test t.body f u c

inclusion : (other : Val) → AsksAdditions (λ v. comparison_value comparisons.LessOrEqual v other)
inclusion (boolean b) r a t is e = absurd (cc)
inclusion (integer z) r a t is e = absurd (cc)
inclusion (char s) r a t is e = absurd (cc)
inclusion (user n ps) r a t is e = absurd (cc)
inclusion (tuple fs) r a t is e = absurd (cc)
inclusion (relation g ss) r a t is e =
    let x = of_test (same_heading r.heading (unpack g)) (sym (asked r) ∙ e) in
    let at = λ (q : Relation) (same : q.heading ≡ r.heading).
    asked q ∙ ap (λ b. with_value (value_if b (is_subset q into) causes.Heading) of_truth) (ap (λ h. same_heading h (unpack g)) same ∙ x.0) in
    let one = at a is.headings.0 ∙ ap of_truth (all_pass (λ u. has tuple_cmp u into.body) r a t is x.1) ∙ sym (at t is.headings.1) in
    subst (λ o. AreOneOutcome (comparison_value comparisons.LessOrEqual (relation_value a) (relation g ss)) o) one
    (one_itself (comparison_value comparisons.LessOrEqual (relation_value a) (relation g ss)))
  where
    into : Relation
    into = relation_view (unpack g) (unpack_rows ss)

    asked : (q : Relation) → comparison_value comparisons.LessOrEqual (relation_value q) (relation g ss)
        ≡ with_value (value_if (same_heading q.heading (unpack g)) (is_subset q into) causes.Heading) of_truth
    asked q = ap (λ o. with_value o of_truth) (relation_unpacked q (λ p. value_if (same_heading p.heading (unpack g)) (is_subset p into) causes.Heading))

    truth_is : (b : Bool) → of_truth b ≡ Valued (boolean true) → b ≡ true
    truth_is b f = cc

    of_test : (b : Bool) → with_value (value_if b (is_subset r into) causes.Heading) of_truth ≡ Valued (boolean true)
        → (b ≡ true) × (is_subset r into ≡ true)
    of_test true f = (refl, truth_is (is_subset r into) f)
    of_test false f = absurd (cc)

pub operators_keep_additions : OperatorsKeepAdditions
operators_keep_additions = record {
  changed = changed;
  projected = projected;
  renamed = renamed;
  restricted = restricted;
  extended = extended;
  set = set;
  first = first;
  second = second;
  emptiness = emptiness;
  inclusion = inclusion;
  conjunction = λ a b c d. both_one a b c d (operator_value operators.And);
}
