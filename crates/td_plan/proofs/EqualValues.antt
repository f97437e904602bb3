-- Values of restrictions by conditions that have a truth value in every tuple.
use Rattle.std.proofs.Common.{true≢false, ◌≡◌, ◌∙◌, ◌⊎◌, inl, inr, ap, sym, refl, subst, ℕ, Bool, true, false, List, [], ◌∷◌, map}
use Rattle.std.specs.Prelude.{not}
use Rattle.std.specs.List.{Contains}
use Rattle.std.specs.Ordering.{eq_by_cmp}
use Rattle.td_tree.specs.model.Outcomes.{Outcome, Valued, Refused, gathered, with_both, with_value}
use Rattle.td_check.specs.model.OperatorTypes.{equality_type, same_heading}
use Rattle.td_types.specs.model.Headings.{agree, have_no_common}
use Rattle.td_types.specs.code.TypeOrder.{heading_eq-Decides}
use Rattle.td_types.specs.model.Types.{Heading, Type', attribute_names}
use Rattle.td_value.specs.model.Agreement.{agree_on}
use Rattle.td_value.specs.model.Sets.{has}
use Rattle.td_value.specs.code.ValueOrder.{value_Decides}
use Rattle.td_value.specs.model.Values.{Val, boolean, integer, char, relation_value, user, tuple, relation, Relation, Tuple, IsRelation, projected_tuple, tuple_cmp, type_of, value_cmp}
use Rattle.td_value.proofs.Members.{joined_members}
use Rattle.td_algebra.specs.model.Operators.{difference, intersection, join, product, relation_names, restriction, union}
use Rattle.td_algebra.proofs.JoinMembers.{IsRelation-join, join_members}
use Rattle.td_algebra.proofs.Joined.{apart_agree, product_join}
use Rattle.td_algebra.proofs.Lists.{contains_filter, contains_first, contains_later}
use Rattle.td_algebra.proofs.Relations.{member_headed}
use Rattle.td_algebra.proofs.SetEqualities.{restriction_of_difference, restriction_of_intersection, restriction_of_union}
use Rattle.td_body.specs.model.Bodies.{agreeing}
use Rattle.td_eval.proofs.code_lemmas.OpValues.{relation_unpacked}
use Rattle.td_plan.specs.laws.Equalities.{AsksOnlyOf}
use Rattle.td_plan.specs.laws.EqualitiesOfValues.{AndIsOfBoth, EqualityIsOfOneValue, Gives, IsAnsweredBy, IsHeadedAndAnswered, IsTotalIn, TotalConditionsRestrict, WhereAfterLookUp, WhereOfIntersectOnLeft, WhereOfJoinOnLeft, WhereOfJoinOnRight, WhereOfMinus, WhereOfTimesOnLeft, WhereOfTimesOnRight, WhereOfUnion, where_value}
use Rattle.td_eval.specs.model.OperatorValues.{is_true, of_relation, of_truth, on_relation, on_relations, relation_where, restricted_value, truth_value}
use Rattle.td_plan.proofs.EqualLookUps.{restricted_after_look_up}
use Rattle.td_plan.proofs.EqualRestrictions.{join_restricted_left, join_restricted_right, product_restricted_left, product_restricted_right}

-- ---- conditions

-- the truth value of a condition in a tuple
abbrev truth : (Tuple → Outcome Val) → Tuple → Bool
truth p t = is_true (p t)

-- a condition that has a truth value has this one
truth_is : (p : Tuple → Outcome Val) (t : Tuple) → (b : Bool) × (p t ≡ of_truth b) → p t ≡ of_truth (truth p t)
truth_is p t h = h.1 ∙ ap (λ b. of_truth b) (ap is_true (sym h.1))

all_given : (p : Tuple → Outcome Val) (ts : List Tuple) → ((t : Tuple) → Contains ts t → (b : Bool) × (p t ≡ of_truth b))
    → gathered (map (λ t. truth_value (p t)) ts) ≡ Valued (map (truth p) ts)
all_given p [] h = refl
all_given p (t ∷ ts) h =
    (λ i. with_both (truth_value (truth_is p t (h t (contains_first t ts)) i)) (all_given p ts (λ u c. h u (contains_later t ts u c)) i) (λ b bs. Valued (b ∷ bs)))

pub total_restricts : TotalConditionsRestrict
total_restricts p r h =
    ap (λ o. with_value o (λ truths. of_relation (restriction (truth p) r))) (all_given p r.body h)

-- so where a restriction by the truth values is another relation
restricts_to : (p : Tuple → Outcome Val) (r q : Relation) → IsTotalIn p r → restriction (truth p) r ≡ q → restricted_value p r ≡ of_relation q
restricts_to p r q h e = total_restricts p r h ∙ ap of_relation e

-- ---- relations as values

both_unpacked : (r s : Relation) (f : Relation → Relation → Outcome Val) → on_relations (relation_value r) (relation_value s) f ≡ f r s
both_unpacked r s f = relation_unpacked r (λ q. on_relation (relation_value s) (f q)) ∙ relation_unpacked s (f r)

where_given : (p : Tuple → Outcome Val) (r : Relation) → IsTotalIn p r → where_value p (of_relation r) ≡ of_relation (restriction (truth p) r)
where_given p r h = relation_unpacked r (restricted_value p) ∙ total_restricts p r h

-- what an operator makes of two relations where they fit
abbrev made_where : (Relation → Relation → Bool) → (Relation → Relation → Relation) → Val → Val → Outcome Val
made_where fits made v w = on_relations v w (λ r s. relation_where (fits r s) (made r s))

-- WHERE of what is given where the headings fit
where_fits : (p : Tuple → Outcome Val) (c : Bool) (q x : Relation) → (c ≡ true → where_value p (of_relation q) ≡ of_relation x)
    → where_value p (relation_where c q) ≡ relation_where c x
where_fits p true q x h = h refl
where_fits p false q x h = refl

module _ (p : Tuple → Outcome Val) (fits : Relation → Relation → Bool) (made : Relation → Relation → Relation) where
  abbrev op : Val → Val → Outcome Val
  op = made_where fits made

  where_made : (r s x : Relation) → (fits r s ≡ true → where_value p (of_relation (made r s)) ≡ of_relation x)
      → where_value p (op (relation_value r) (relation_value s)) ≡ relation_where (fits r s) x
  where_made r s x h =
      ap (where_value p) (both_unpacked r s (λ r s. relation_where (fits r s) (made r s))) ∙ where_fits p (fits r s) (made r s) x h

  made_of : (r s : Relation) → op (relation_value r) (relation_value s) ≡ relation_where (fits r s) (made r s)
  made_of r s = both_unpacked r s (λ r s. relation_where (fits r s) (made r s))

  -- the first operand is restricted
  on_left : (P Q : Relation → Type 0) (a b : Outcome Val) → ((r : Relation) → P r → IsTotalIn p r)
      → ((r s : Relation) → a ≡ of_relation r → b ≡ of_relation s → P r → Q s → fits r s ≡ true → IsTotalIn p (made r s) × (restriction (truth p) (made r s) ≡ made (restriction (truth p) r) s))
      → ((r s : Relation) → fits (restriction (truth p) r) s ≡ fits r s)
      → Gives P a → Gives Q b → where_value p (with_both a b op) ≡ with_both (where_value p a) b op
  on_left P Q (Valued v) (Valued w) total step fit g h =
      let e : Valued v ≡ of_relation g.0 = ap Valued g.1 in
      let d : Valued w ≡ of_relation h.0 = ap Valued h.1 in
      let kept = restriction (truth p) g.0 in
      (λ i. where_value p (op (g.1 i) (h.1 i)))
      ∙ where_made g.0 h.0 (made kept h.0) (λ f. let s = step g.0 h.0 e d g.2 h.2 f in relation_unpacked (made g.0 h.0) (restricted_value p) ∙ restricts_to p (made g.0 h.0) (made kept h.0) s.0 s.1)
      ∙ ap (λ c. relation_where c (made kept h.0)) (sym (fit g.0 h.0))
      ∙ sym (made_of kept h.0)
      ∙ (λ i. with_both (sym (where_given p g.0 (total g.0 g.2)) i) (Valued (sym h.1 i)) op)
      ∙ (λ i. with_both (where_value p (Valued (sym g.1 i))) (Valued w) op)
  on_left P Q (Valued v) (Refused ds) total step fit g h =
      sym ((λ i. with_both (where_value p (Valued (g.1 i))) (Refused ds) op) ∙ ap (λ o. with_both o (Refused ds) op) (where_given p g.0 (total g.0 g.2)))
  on_left P Q (Refused cs) (Valued w) total step fit g h = refl
  on_left P Q (Refused cs) (Refused ds) total step fit g h = refl

  -- the second one
  on_right : (P Q : Relation → Type 0) (a b : Outcome Val) → ((s : Relation) → Q s → IsTotalIn p s)
      → ((r s : Relation) → a ≡ of_relation r → b ≡ of_relation s → P r → Q s → fits r s ≡ true → IsTotalIn p (made r s) × (restriction (truth p) (made r s) ≡ made r (restriction (truth p) s)))
      → ((r s : Relation) → fits r (restriction (truth p) s) ≡ fits r s)
      → Gives P a → Gives Q b → where_value p (with_both a b op) ≡ with_both a (where_value p b) op
  on_right P Q (Valued v) (Valued w) total step fit g h =
      let e : Valued v ≡ of_relation g.0 = ap Valued g.1 in
      let d : Valued w ≡ of_relation h.0 = ap Valued h.1 in
      let kept = restriction (truth p) h.0 in
      (λ i. where_value p (op (g.1 i) (h.1 i)))
      ∙ where_made g.0 h.0 (made g.0 kept) (λ f. let s = step g.0 h.0 e d g.2 h.2 f in relation_unpacked (made g.0 h.0) (restricted_value p) ∙ restricts_to p (made g.0 h.0) (made g.0 kept) s.0 s.1)
      ∙ ap (λ c. relation_where c (made g.0 kept)) (sym (fit g.0 h.0))
      ∙ sym (made_of g.0 kept)
      ∙ (λ i. with_both (Valued (sym g.1 i)) (sym (where_given p h.0 (total h.0 h.2)) i) op)
      ∙ (λ i. with_both (Valued v) (where_value p (Valued (sym h.1 i))) op)
  on_right P Q (Refused cs) (Valued w) total step fit g h =
      sym ((λ i. with_both (Refused cs) (where_value p (Valued (h.1 i))) op) ∙ ap (λ o. with_both (Refused cs) o op) (where_given p h.0 (total h.0 h.2)))
  on_right P Q (Valued v) (Refused ds) total step fit g h = refl
  on_right P Q (Refused cs) (Refused ds) total step fit g h = refl

  -- both
  on_both : (P : Relation → Type 0) (a b : Outcome Val) → ((r : Relation) → P r → IsTotalIn p r)
      → ((r s : Relation) → P r → P s → fits r s ≡ true
      → IsTotalIn p (made r s) × (restriction (truth p) (made r s) ≡ made (restriction (truth p) r) (restriction (truth p) s)))
      → ((r s : Relation) → fits (restriction (truth p) r) (restriction (truth p) s) ≡ fits r s)
      → Gives P a → Gives P b → where_value p (with_both a b op) ≡ with_both (where_value p a) (where_value p b) op
  on_both P (Valued v) (Valued w) total step fit g h =
      let first = restriction (truth p) g.0 in
      let second = restriction (truth p) h.0 in
      (λ i. where_value p (op (g.1 i) (h.1 i)))
      ∙ where_made g.0 h.0 (made first second) (λ f. let s = step g.0 h.0 g.2 h.2 f in relation_unpacked (made g.0 h.0) (restricted_value p) ∙ restricts_to p (made g.0 h.0) (made first second) s.0 s.1)
      ∙ ap (λ c. relation_where c (made first second)) (sym (fit g.0 h.0))
      ∙ sym (made_of first second)
      ∙ (λ i. with_both (sym (where_given p g.0 (total g.0 g.2)) i) (sym (where_given p h.0 (total h.0 h.2)) i) op)
      ∙ (λ i. with_both (where_value p (Valued (sym g.1 i))) (where_value p (Valued (sym h.1 i))) op)
  on_both P (Valued v) (Refused ds) total step fit g h =
      sym ((λ i. with_both (where_value p (Valued (g.1 i))) (Refused ds) op) ∙ ap (λ o. with_both o (Refused ds) op) (where_given p g.0 (total g.0 g.2)))
  on_both P (Refused cs) (Valued w) total step fit g h =
      sym ((λ i. with_both (Refused cs) (where_value p (Valued (h.1 i))) op) ∙ ap (λ o. with_both (Refused cs) o op) (where_given p h.0 (total h.0 h.2)))
  on_both P (Refused cs) (Refused ds) total step fit g h = refl

-- ---- operands of one heading

abbrev one_heading : Relation → Relation → Bool
one_heading r s = same_heading r.heading s.heading

-- a part of a relation
total_kept : (p : Tuple → Outcome Val) (q : Tuple → Bool) (r : Relation) → IsTotalIn p r → IsTotalIn p (restriction q r)
total_kept p q r h t c = h t ((contains_filter q r.body t).0 c).0

pub where_of_union : WhereOfUnion
where_of_union p a b =
    on_both p one_heading union (IsAnsweredBy p) a b (λ r h. h.1)
    (λ r s g h f. (total r s g h, restriction_of_union (truth p) r s (g.0, h.0, (heading_eq-Decides r.heading s.heading).0 f)))
    (λ r s. refl)
  where
    total : (r s : Relation) → IsAnsweredBy p r → IsAnsweredBy p s → IsTotalIn p (union r s)
    total r s g h t c = by_part ((joined_members r.body s.body t).0 c)
      where
        by_part : Contains r.body t ⊎ Contains s.body t → (b : Bool) × (p t ≡ of_truth b)
        by_part (inl d) = g.1 t d
        by_part (inr d) = h.1 t d

pub where_of_intersect_left : WhereOfIntersectOnLeft
where_of_intersect_left p a b =
    on_left p one_heading intersection (IsTotalIn p) IsRelation a b (λ r h. h)
    (λ r s e d g h f. (total_kept p (λ t. has tuple_cmp t s.body) r g, restriction_of_intersection (truth p) r s)) (λ r s. refl)

pub where_of_minus : WhereOfMinus
where_of_minus p a b =
    on_left p one_heading difference (IsTotalIn p) IsRelation a b (λ r h. h)
    (λ r s e d g h f. (total_kept p (λ t. not (has tuple_cmp t s.body)) r g, restriction_of_difference (truth p) r s)) (λ r s. refl)

-- ---- joins

abbrev agreed : Relation → Relation → Bool
agreed r s = agree r.heading s.heading

abbrev apart : Relation → Relation → Bool
apart r s = have_no_common r.heading s.heading

-- what an operator gives of two relations that fit
given_of : (fits : Relation → Relation → Bool) (made : Relation → Relation → Relation) (a b : Outcome Val) (r s : Relation) → a ≡ of_relation r → b ≡ of_relation s → fits r s ≡ true
    → with_both a b (made_where fits made) ≡ of_relation (made r s)
given_of fits made a b r s e d f =
    (λ i. with_both (e i) (d i) (made_where fits made)) ∙ both_unpacked r s (λ r s. relation_where (fits r s) (made r s)) ∙ ap (λ c. relation_where c (made r s)) f

-- a condition that asks of the names of an operand alone
module _ (p : Tuple → Outcome Val) (r s : Relation) (first : IsRelation r) (second : IsRelation s) (fit : agree r.heading s.heading ≡ true) where
  total_left : IsTotalIn p r → AsksOnlyOf (relation_names r) (join r s) p → IsTotalIn p (join r s)
  total_left h asked t c =
      let d = (join_members r s t (first, second, fit) (member_headed (join r s) t (IsRelation-join r s first second) c)).0 c in
      let b = h (projected_tuple (relation_names r) t) d.0 in
      (b.0, asked t c ∙ b.1)

  total_right : IsTotalIn p s → AsksOnlyOf (relation_names s) (join r s) p → IsTotalIn p (join r s)
  total_right h asked t c =
      let d = (join_members r s t (first, second, fit) (member_headed (join r s) t (IsRelation-join r s first second) c)).0 c in
      let b = h (projected_tuple (relation_names s) t) d.1 in
      (b.0, asked t c ∙ b.1)

asked_truth : (names : List (List ℕ)) (q : Relation) (p : Tuple → Outcome Val) → AsksOnlyOf names q p → AsksOnlyOf names q (truth p)
asked_truth names q p asked t c = ap is_true (asked t c)

-- the names of the heading
named : (h : Heading) (r q : Relation) (p : Tuple → Outcome Val) → r.heading ≡ h → AsksOnlyOf (attribute_names h) q p → AsksOnlyOf (relation_names r) q p
named h r q p e asked = subst (λ g. AsksOnlyOf (attribute_names g) q p) (sym e) asked

pub where_of_join_left : WhereOfJoinOnLeft
where_of_join_left p h a b ga gb asked =
    on_left p agreed join (IsHeadedAndAnswered h p) IsRelation a b (λ r g. g.1)
    (λ r s e d g k f. let only = named h r (join r s) p g.0.1 (asked (join r s) (given_of agreed join a b r s e d f)) in
    (total_left p r s g.0.0 k f g.1 only, join_restricted_left (truth p) r s (g.0.0, k, f) (asked_truth (relation_names r) (join r s) p only)))
    (λ r s. refl) ga gb

pub where_of_join_right : WhereOfJoinOnRight
where_of_join_right p h a b ga gb asked =
    on_right p agreed join IsRelation (IsHeadedAndAnswered h p) a b (λ s g. g.1)
    (λ r s e d g k f. let only = named h s (join r s) p k.0.1 (asked (join r s) (given_of agreed join a b r s e d f)) in
    (total_right p r s g k.0.0 f k.1 only, join_restricted_right (truth p) r s (g, k.0.0, f) (asked_truth (relation_names s) (join r s) p only)))
    (λ r s. refl) ga gb

pub where_of_times_left : WhereOfTimesOnLeft
where_of_times_left p h a b ga gb asked =
    on_left p apart product (IsHeadedAndAnswered h p) IsRelation a b (λ r g. g.1)
    (λ r s e d g k f. let only = named h r (product r s) p g.0.1 (asked (product r s) (given_of apart product a b r s e d f)) in
    let is = product_join r s f in (
      subst (IsTotalIn p) (sym is) (total_left p r s g.0.0 k (apart_agree r.heading s.heading f) g.1 (subst (λ q. AsksOnlyOf (relation_names r) q p) is only)),
      product_restricted_left (truth p) r s (g.0.0, k, f) (asked_truth (relation_names r) (product r s) p only),
    ))
    (λ r s. refl) ga gb

pub where_of_times_right : WhereOfTimesOnRight
where_of_times_right p h a b ga gb asked =
    on_right p apart product IsRelation (IsHeadedAndAnswered h p) a b (λ s g. g.1)
    (λ r s e d g k f. let only = named h s (product r s) p k.0.1 (asked (product r s) (given_of apart product a b r s e d f)) in
    let is = product_join r s f in (
      subst (IsTotalIn p) (sym is) (total_right p r s g k.0.0 (apart_agree r.heading s.heading f) k.1 (subst (λ q. AsksOnlyOf (relation_names s) q p) is only)),
      product_restricted_right (truth p) r s (g, k.0.0, f) (asked_truth (relation_names s) (product r s) p only),
    ))
    (λ r s. refl) ga gb

pub gives_more : (P Q : Relation → Type 0) (a : Outcome Val) → ((r : Relation) → P r → Q r) → Gives P a → Gives Q a
gives_more P Q (Valued v) f g = (g.0, g.1, f g.0 g.2)
gives_more P Q (Refused cs) f g = g

-- ---- look-up by key

pub equality_of_one : EqualityIsOfOneValue
equality_of_one v u e = (value_Decides v u).0 (given (equality_type (type_of v) (type_of u)) e)
  where
    given : (o : Outcome Type') → with_value o (λ t. of_truth (eq_by_cmp value_cmp v u)) ≡ of_truth true → eq_by_cmp value_cmp v u ≡ true
    given (Valued t) d = ap is_true d
    given (Refused cs) d = absurd (cc)

pub and_of_both : AndIsOfBoth
and_of_both (Valued (boolean true)) (Valued (boolean c)) e = (refl, e)
and_of_both (Valued (boolean false)) (Valued (boolean c)) e = absurd (true≢false (sym (ap is_true e)))
and_of_both (Valued (boolean b)) (Valued (integer z)) e = absurd (cc)
and_of_both (Valued (boolean b)) (Valued (char s)) e = absurd (cc)
and_of_both (Valued (boolean b)) (Valued (user n ps)) e = absurd (cc)
and_of_both (Valued (boolean b)) (Valued (tuple fs)) e = absurd (cc)
and_of_both (Valued (boolean b)) (Valued (relation h rs)) e = absurd (cc)
and_of_both (Valued (integer z)) (Valued w) e = absurd (cc)
and_of_both (Valued (char s)) (Valued w) e = absurd (cc)
and_of_both (Valued (user n ps)) (Valued w) e = absurd (cc)
and_of_both (Valued (tuple fs)) (Valued w) e = absurd (cc)
and_of_both (Valued (relation h rs)) (Valued w) e = absurd (cc)
and_of_both (Valued v) (Refused ds) e = absurd (cc)
and_of_both (Refused cs) (Valued w) e = absurd (cc)
and_of_both (Refused cs) (Refused ds) e = absurd (cc)

pub where_after_look_up : WhereAfterLookUp
where_after_look_up key part p r h is fixes =
    where_given p r h.1
    ∙ ap of_relation (restricted_after_look_up key part (truth p) r h.0 is (λ t c e. fixes t c (truth_is p t (h.1 t c) ∙ ap of_truth e)))
    ∙ sym (where_given p (agreeing key part r) (total_kept p (agree_on key part) r h.1))
