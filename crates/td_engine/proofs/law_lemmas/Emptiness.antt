-- Where no tuple of a relation met a condition, whether one meets it after a change depends on the tuples that came in.
use Rattle.std.proofs.Common.{◌≡◌, ◌∙◌, ◌++◌, ◌⊎◌, inl, inr, Bool, true, false, List, [], ◌∷◌, Some, ap, arith, filter, length, map, not, refl, subst, sym, true≢false}
use Rattle.std.proofs.lemmas.Bool.{eqb-true}
use Rattle.std.specs.Prelude.{◌↔◌, cond, nat_eq}
use Rattle.std.specs.List.{Contains}
use Rattle.td_algebra.proofs.Lists.{contains_cases, contains_filter, contains_first, contains_later, contains_none}
use Rattle.td_algebra.specs.model.Operators.{difference, restriction}
use Rattle.td_body.specs.model.Bodies.{after_change}
use Rattle.td_engine.specs.laws.Additions.{EmptinessIsOfAdditions, emptiness}
use Rattle.td_engine.specs.model.Checks.{refusal_unless_passed}
use Rattle.td_engine.specs.model.Refusals.{Refusal, by_cause}
use Rattle.td_eval.proofs.code_lemmas.OpValues.{relation_unpacked}
use Rattle.td_eval.proofs.law_lemmas.TupleOrder.{Refuses, one_least, one_order}
use Rattle.td_eval.specs.model.OperatorValues.{is_true, measure_value, of_relation, of_truth, truth_value}
use Rattle.td_tree.proofs.law_lemmas.LeastCauses.{least_is_named}
use Rattle.td_tree.specs.declared.cause.Cause.{Cause}
use Rattle.td_tree.specs.declared.operator.Measure.TheVariants as measures
use Rattle.td_tree.specs.model.Outcomes.{Outcome, Valued, Refused, gathered, least, with_both, with_value}
use Rattle.td_value.proofs.Members.{joined_members, set_members}
use Rattle.td_value.specs.model.Sets.{has}
use Rattle.td_value.specs.model.Values.{HaveSameMembers, Relation, Tuple, Val, boolean, char, integer, relation, tuple, tuple_cmp, user}

-- ---- a test by causes and by the tuples that are kept

-- the truth values that a condition has in tuples
abbrev truths_in : (Tuple → Outcome Val) → List Tuple → List (Outcome Bool)
truths_in f ts = map (λ t. truth_value (f t)) ts

-- the tuples in which it is TRUE
abbrev met_in : (Tuple → Outcome Val) → List Tuple → List Tuple
met_in f ts = filter (λ t. is_true (f t)) ts

-- whether no tuple is kept, where there are truth values
abbrev tested : Outcome (List Bool) → List Tuple → Outcome Bool
tested o kept = with_value o (λ truths. Valued (nat_eq (length kept) 0))

-- that is what the emptiness of a restriction is
emptied : (f : Tuple → Outcome Val) (r : Relation) → emptiness f r ≡ tested (gathered (truths_in f r.body)) (met_in f r.body)
emptied f r = by_truths (gathered (truths_in f r.body))
  where
    by_truths : (o : Outcome (List Bool))
        → truth_value (with_value (with_value o (λ truths. of_relation (restriction (λ t. is_true (f t)) r))) (measure_value measures.IsEmpty))
        ≡ tested o (met_in f r.body)
    by_truths (Valued truths) = ap truth_value (relation_unpacked (restriction (λ t. is_true (f t)) r) (λ q. of_truth (nat_eq (length q.body) 0)))
    by_truths (Refused cs) = refl

-- a list that has a first tuple is not empty
pub not_empty : (t : Tuple) (ts : List Tuple) → nat_eq (length (t ∷ ts)) 0 ≡ false
not_empty t ts = by_test (nat_eq (length (t ∷ ts)) 0) refl
  where
    by_test : (b : Bool) → nat_eq (length (t ∷ ts)) 0 ≡ b → b ≡ false
    by_test true e = absurd (let none = eqb-true (length (t ∷ ts)) 0 e in omega (arith, none))
    by_test false e = refl

-- of lists with the same members none or both are empty
pub both_empty : (ts us : List Tuple) → HaveSameMembers ts us → nat_eq (length ts) 0 ≡ nat_eq (length us) 0
both_empty [] [] same = refl
both_empty [] (u ∷ us) same = absurd (contains_none u ((same u).1 (contains_first u us)))
both_empty (t ∷ ts) [] same = absurd (contains_none t ((same t).0 (contains_first t ts)))
both_empty (t ∷ ts) (u ∷ us) same = not_empty t ts ∙ sym (not_empty u us)

-- of the same causes, and of the same tuples, there is the same refusal
one_refusal : (refusal : Refusal) (o p : Outcome (List Bool)) (ts us : List Tuple) → ((c : Cause) → Refuses o c ↔ Refuses p c) → HaveSameMembers ts us
    → refusal_unless_passed refusal (tested o ts) ≡ refusal_unless_passed refusal (tested p us)
one_refusal refusal (Valued x) (Valued y) ts us alike same = ap (λ b. refusal_unless_passed refusal (Valued b)) (both_empty ts us same)
one_refusal refusal (Valued x) (Refused cs) ts us alike same = absurd ((alike (least cs)).1 (least_is_named cs).0)
one_refusal refusal (Refused bs) (Valued y) ts us alike same = absurd ((alike (least bs)).0 (least_is_named bs).0)
one_refusal refusal (Refused bs) (Refused cs) ts us alike same = ap (λ c. Some (by_cause c)) (one_least bs cs alike)

-- ---- tuples that do not meet the condition

-- a truth value is whether it is TRUE
truth_is : (o : Outcome Val) (b : Bool) → truth_value o ≡ Valued b → b ≡ is_true o
truth_is (Valued (boolean a)) b e = cc
truth_is (Valued (integer z)) b e = absurd (cc)
truth_is (Valued (char s)) b e = absurd (cc)
truth_is (Valued (user n ps)) b e = absurd (cc)
truth_is (Valued (tuple fs)) b e = absurd (cc)
truth_is (Valued (relation h rs)) b e = absurd (cc)
truth_is (Refused cs) b e = absurd (cc)

-- it is FALSE in each of them
abbrev IsUnmet : (Tuple → Outcome Val) → List Tuple → Type 0
IsUnmet f ts = (t : Tuple) → Contains ts t → truth_value (f t) ≡ Valued false

-- where the test of a list is passed, the first of its tuples does not meet the condition, and the test of the others is passed
first_unmet : (x : Outcome Bool) (b : Bool) (o : Outcome (List Bool)) (t : Tuple) (kept : List Tuple) → ((c : Bool) → x ≡ Valued c → c ≡ b)
    → tested (with_both x o (λ c cs. Valued (c ∷ cs))) (cond b (t ∷ kept) kept) ≡ Valued true → (x ≡ Valued false) × (tested o kept ≡ Valued true)
first_unmet (Valued true) true (Valued cs) t kept is e =
    let empty : nat_eq (length (t ∷ kept)) 0 ≡ true = cc in
    absurd (true≢false (sym empty ∙ not_empty t kept))
first_unmet (Valued true) false (Valued cs) t kept is e = absurd (true≢false (is true refl))
first_unmet (Valued false) true (Valued cs) t kept is e = absurd (true≢false (sym (is false refl)))
first_unmet (Valued false) false (Valued cs) t kept is e = (refl, e)
first_unmet (Valued c) b (Refused cs) t kept is e = absurd (cc)
first_unmet (Refused bs) b (Valued cs) t kept is e = absurd (cc)
first_unmet (Refused bs) b (Refused cs) t kept is e = absurd (cc)

-- so where the test is passed, none of the tuples meets the condition
unmet : (f : Tuple → Outcome Val) (ts : List Tuple) → tested (gathered (truths_in f ts)) (met_in f ts) ≡ Valued true → IsUnmet f ts
unmet f [] e t c = absurd (contains_none t c)
unmet f (u ∷ us) e t c =
    let both = first_unmet (truth_value (f u)) (is_true (f u)) (gathered (truths_in f us)) u (met_in f us) (λ b is. truth_is (f u) b is) e in
    by_case both.0 (λ d. unmet f us both.1 t d) (contains_cases u us t c)
  where
    by_case : truth_value (f u) ≡ Valued false → (Contains us t → truth_value (f t) ≡ Valued false) → (u ≡ t) ⊎ Contains us t
        → truth_value (f t) ≡ Valued false
    by_case first rest (inl is) = subst (λ s. truth_value (f s) ≡ Valued false) is first
    by_case first rest (inr there) = rest there

-- they add no causes
no_causes : (f : Tuple → Outcome Val) (ts us : List Tuple) (c : Cause) → IsUnmet f ts
    → Refuses (gathered (truths_in f (ts ++ us))) c ↔ Refuses (gathered (truths_in f us)) c
no_causes f [] us c h = (λ x. x, λ x. x)
no_causes f (t ∷ ts) us c h =
    rw (h t (contains_first t ts)) (by_rest (gathered (truths_in f (ts ++ us))) (no_causes f ts us c (λ u d. h u (contains_later t ts u d))))
  where
    by_rest : (o : Outcome (List Bool)) → Refuses o c ↔ Refuses (gathered (truths_in f us)) c
        → Refuses (with_both (Valued false) o (λ b bs. Valued (b ∷ bs))) c ↔ Refuses (gathered (truths_in f us)) c
    by_rest (Valued bs) same = same
    by_rest (Refused cs) same = same

-- ---- a condition that has the same values

module _ (f g : Tuple → Outcome Val) where
  -- it has the same truth values
  pub same_truths : (ts : List Tuple) → ((t : Tuple) → Contains ts t → f t ≡ g t) → truths_in f ts ≡ truths_in g ts
  same_truths [] h = refl
  same_truths (t ∷ ts) h = λ i. truth_value (h t (contains_first t ts) i) ∷ same_truths ts (λ u c. h u (contains_later t ts u c)) i

  -- it is met in the same tuples
  pub same_met : (ts : List Tuple) → ((t : Tuple) → Contains ts t → f t ≡ g t) → met_in f ts ≡ met_in g ts
  same_met [] h = refl
  same_met (t ∷ ts) h =
      let rest = same_met ts (λ u c. h u (contains_later t ts u c)) in
      λ i. cond (is_true (h t (contains_first t ts) i)) (t ∷ rest i) (rest i)

-- ---- a change

module _ (f : Tuple → Outcome Val) (old out add : Relation) (h : IsUnmet f old.body) where
  -- what is left of the relation
  abbrev left : List Tuple
  left = (difference old out).body

  -- the tuples after the change
  abbrev changed : List Tuple
  changed = (after_change out add old).body

  -- none of what is left meets the condition
  left_unmet : IsUnmet f left
  left_unmet t c = h t ((contains_filter (λ u. not (has tuple_cmp u out.body)) old.body t).0 c).0

  -- the causes are those of the tuples that came in
  causes_of_additions : (c : Cause) → Refuses (gathered (truths_in f changed)) c ↔ Refuses (gathered (truths_in f add.body)) c
  causes_of_additions c =
      let ordered = one_order (λ t. truth_value (f t)) changed (left ++ add.body) (set_members (left ++ add.body)) c in
      let fewer = no_causes f left add.body c left_unmet in
      (λ x. fewer.0 (ordered.0 x), λ x. ordered.1 (fewer.1 x))

  -- so are the tuples that meet the condition
  met_of_additions : HaveSameMembers (met_in f changed) (met_in f add.body)
  met_of_additions t =
      let whole = contains_filter (λ u. is_true (f u)) changed t in
      let new = contains_filter (λ u. is_true (f u)) add.body t in
      let either = joined_members left add.body t in
      (λ c. let at = whole.0 c in new.1 (came_in at.1 (either.0 at.0), at.1), λ c. let at = new.0 c in whole.1 (either.1 (inr at.0), at.1))
    where
      came_in : is_true (f t) ≡ true → Contains left t ⊎ Contains add.body t → Contains add.body t
      came_in met (inl c) = absurd (true≢false (sym met ∙ sym (truth_is (f t) false (left_unmet t c))))
      came_in met (inr c) = c

-- the test over the relation after the change comes to what it comes to over the tuples that came in
pub emptiness_is_of_additions : EmptinessIsOfAdditions
emptiness_is_of_additions refusal before after there old out add stays same passed =
    ap (refusal_unless_passed refusal) (emptied after (after_change out add old))
    ∙ one_refusal refusal (gathered (truths_in after (after_change out add old).body)) (gathered (truths_in after add.body))
    (met_in after (after_change out add old).body) (met_in after add.body)
    (causes_of_additions after old out add still) (met_of_additions after old out add still)
    ∙ ap (refusal_unless_passed refusal)
    ((λ i. tested (gathered (sym (same_truths there after add.body same) i)) (sym (same_met there after add.body same) i)) ∙ sym (emptied there add))
  where
    still : IsUnmet after old.body
    still t c = ap truth_value (stays t c) ∙ unmet before old.body (sym (emptied before old) ∙ passed) t c
