-- What WHERE and EXTEND gather from the tuples of a relation does not depend on the order in which they are taken.
use Rattle.std.proofs.Common.{◌≡◌, ◌∙◌, ◌⊎◌, inl, inr, Bool, List, [], ◌∷◌, ap, arith, filter, map, refl, subst, sym}
use Rattle.std.specs.Prelude.{◌↔◌, ⊤}
use Rattle.std.specs.List.{Contains}
use Rattle.std.proofs.lemmas.List.Kept.{IsStrictlySortedBy-filter}
use Rattle.td_algebra.specs.model.Operators.{Addition, extended_relation, extended_tuple, restriction, set_relation, set_tuple}
use Rattle.td_algebra.proofs.Joined.{sets_alike}
use Rattle.td_algebra.proofs.Lists.{contains_cases, contains_filter, contains_first, contains_later, contains_map, contains_none}
use Rattle.td_algebra.proofs.Relations.{rows_ascend}
use Rattle.td_check.specs.model.OperatorTypes.{extended_by, set_heading}
use Rattle.td_tree.specs.code.CauseCode.{numbered_number}
use Rattle.td_tree.specs.model.Causes.{number_of}
use Rattle.td_tree.specs.declared.cause.Cause.{Cause}
use Rattle.td_tree.specs.model.Outcomes.{Causes, Has, Outcome, Valued, Refused, gathered, least, with_both, with_value}
use Rattle.td_tree.proofs.law_lemmas.LeastCauses.{least_is_named}
use Rattle.td_types.specs.model.Types.{Attribute, Heading}
use Rattle.td_value.specs.code.ValueOrder.{tuple_order_same, tuple_order_total}
use Rattle.td_value.specs.model.Values.{Val, HaveSameMembers, IsRelation, Relation, Tuple, relation_of, relation_value, tuple_cmp, relation_view}
use Rattle.td_value.proofs.SetLaws.{is_set_of}
use Rattle.td_eval.specs.model.OperatorValues.{additions_of, columns_values, extended_by_settings, extended_value, is_true, of_relation, restricted_value, set_value, truth_value, value_of_type}
use Rattle.td_eval.specs.laws.ValueLaws.{AreOneOutcome, restricted_in_turn}

-- ---- sets of causes

-- there is no value, for this cause among others
abbrev pub Refuses : {A : Type 0} → Outcome A → Cause → Type 0
Refuses (Valued x) c = ⊥
Refuses (Refused cs) c = Has cs c

one_number : (c d : Cause) → number_of c ≡ number_of d → c ≡ d
one_number c d e =
    let first = numbered_number c in
    let second = numbered_number d in
    cc

-- sets of the same causes have the same least one
pub one_least : (bs cs : Causes) → ((c : Cause) → Has bs c ↔ Has cs c) → least bs ≡ least cs
one_least bs cs same =
    let first = least_is_named bs in
    let second = least_is_named cs in
    one_number (least bs) (least cs)
    (omega (arith, first.1 (least cs) ((same (least cs)).1 second.0), second.1 (least bs) ((same (least bs)).0 first.0)))

-- outcomes with the same causes: what follows from their values is one outcome
pub follows : {A B : Type 0} (o : Outcome A) (p : Outcome B) (f : A → Outcome Val) (g : B → Outcome Val) → ((c : Cause) → Refuses o c ↔ Refuses p c)
    → ((x : A) (y : B) → o ≡ Valued x → p ≡ Valued y → AreOneOutcome (f x) (g y)) → AreOneOutcome (with_value o f) (with_value p g)
follows (Valued x) (Valued y) f g same h = h x y refl refl
follows (Valued x) (Refused cs) f g same h = absurd ((same (least cs)).1 (least_is_named cs).0)
follows (Refused bs) (Valued y) f g same h = absurd ((same (least bs)).0 (least_is_named bs).0)
follows (Refused bs) (Refused cs) f g same h = (same, one_least bs cs same)

pub one_itself : (o : Outcome Val) → AreOneOutcome o o
one_itself (Valued v) = refl
one_itself (Refused cs) = (λ c. (λ h. h, λ h. h), refl)

-- ---- what is gathered

module _ {A : Type 0} where
  one_more : (o : Outcome A) (p : Outcome (List A)) (c : Cause) → Refuses (with_both o p (λ x xs. Valued (x ∷ xs))) c ↔ (Refuses o c ⊎ Refuses p c)
  one_more (Valued x) (Valued xs) c = (λ h. inl h, by_case)
    where
      by_case : ⊥ ⊎ ⊥ → ⊥
      by_case (inl h) = h
      by_case (inr h) = h
  one_more (Valued x) (Refused cs) c = (λ h. inr h, by_case)
    where
      by_case : ⊥ ⊎ Has cs c → Has cs c
      by_case (inl h) = absurd h
      by_case (inr h) = h
  one_more (Refused bs) (Valued xs) c = (λ h. inl h, by_case)
    where
      by_case : Has bs c ⊎ ⊥ → Has bs c
      by_case (inl h) = h
      by_case (inr h) = absurd h
  one_more (Refused bs) (Refused cs) c = (λ h. h, λ h. h)

  -- one of the outcomes has the cause
  abbrev SomeRefuses : List (Outcome A) → Cause → Type 0
  SomeRefuses os c = (o : Outcome A) × Contains os o × Refuses o c

  -- what is gathered has the causes of all
  gathered_refuses : (os : List (Outcome A)) (c : Cause) → Refuses (gathered os) c ↔ SomeRefuses os c
  gathered_refuses [] c = (λ h. absurd h, λ h. absurd (contains_none h.0 h.1))
  gathered_refuses (o ∷ os) c =
      let rest = gathered_refuses os c in
      let first = one_more o (gathered os) c in
      (λ h. from_all rest.0 (first.0 h), λ h. first.1 (to_all rest.1 h (contains_cases o os h.0 h.1)))
    where
      from_all : (Refuses (gathered os) c → SomeRefuses os c) → Refuses o c ⊎ Refuses (gathered os) c → SomeRefuses (o ∷ os) c
      from_all rest (inl h) = (o, contains_first o os, h)
      from_all rest (inr h) = let at = rest h in (at.0, contains_later o os at.0 at.1, at.2)

      to_all : (SomeRefuses os c → Refuses (gathered os) c) → (at : SomeRefuses (o ∷ os) c) → (o ≡ at.0) ⊎ Contains os at.0 → Refuses o c ⊎ Refuses (gathered os) c
      to_all rest at (inl is) = inl (subst (λ q. Refuses q c) (sym is) at.2)
      to_all rest at (inr there) = inr (rest (at.0, there, at.2))

-- the tuples of one list are among those of another
abbrev AreAmong : List Tuple → List Tuple → Type 0
AreAmong ts us = (t : Tuple) → Contains ts t → Contains us t

module _ {A : Type 0} (f : Tuple → Outcome A) where
  causes_among : (ts us : List Tuple) (c : Cause) → AreAmong ts us → Refuses (gathered (map f ts)) c → Refuses (gathered (map f us)) c
  causes_among ts us c all h =
      let at = (gathered_refuses (map f ts) c).0 h in
      let t = (contains_map f ts at.0).0 at.1 in
      (gathered_refuses (map f us) c).1 (at.0, (contains_map f us at.0).1 (t.0, all t.0 t.1, t.2), at.2)

  -- of the same tuples, the same causes
  pub one_order : (ts us : List Tuple) → HaveSameMembers ts us → (c : Cause) → Refuses (gathered (map f ts)) c ↔ Refuses (gathered (map f us)) c
  one_order ts us same c = (causes_among ts us c (λ t. (same t).0), causes_among us ts c (λ t. (same t).1))

-- ---- WHERE

same_kept : (p : Tuple → Bool) (ts us : List Tuple) → HaveSameMembers ts us → HaveSameMembers (filter p ts) (filter p us)
same_kept p ts us same t = (
  λ c. let at = (contains_filter p ts t).0 c in (contains_filter p us t).1 ((same t).0 at.0, at.1),
  λ c. let at = (contains_filter p us t).0 c in (contains_filter p ts t).1 ((same t).1 at.0, at.1),
)

-- the tuples of a relation that pass a test, in whatever order they are taken
kept_set : (p : Tuple → Bool) (r : Relation) (us : List Tuple) → IsRelation r → HaveSameMembers r.body us
    → restriction p r ≡ relation_of r.heading (filter p us)
kept_set p r us is same =
    ap (relation_view r.heading)
    (is_set_of tuple_cmp tuple_order_total tuple_order_same (filter p r.body) (filter p r.body)
    (IsStrictlySortedBy-filter tuple_cmp p r.body (rows_ascend r is)) (λ t. refl)
    ∙ sets_alike (filter p r.body) (filter p us) (same_kept p r.body us same))

pub restricted : (p : Tuple → Outcome Val) (r : Relation) (us : List Tuple) → IsRelation r → HaveSameMembers r.body us
    → AreOneOutcome (restricted_value p r) (restricted_in_turn p r.heading us)
restricted p r us is same =
    follows (gathered (map (λ t. truth_value (p t)) r.body)) (gathered (map (λ t. truth_value (p t)) us))
    (λ truths. of_relation (restriction (λ t. is_true (p t)) r)) (λ truths. of_relation (relation_of r.heading (filter (λ t. is_true (p t)) us)))
    (one_order (λ t. truth_value (p t)) r.body us same)
    (λ x y e g. ap relation_value (kept_set (λ t. is_true (p t)) r us is same))

-- ---- EXTEND

-- outcomes by pairs, each with the causes of its other
abbrev pub AreAlike : {A : Type 0} → List (Outcome A) → List (Outcome A) → Type 0
AreAlike [] [] = ⊤
AreAlike [] (p ∷ ps) = ⊥
AreAlike (o ∷ os) [] = ⊥
AreAlike (o ∷ os) (p ∷ ps) = ((c : Cause) → Refuses o c ↔ Refuses p c) × AreAlike os ps

module _ {A : Type 0} where
  either_alike : (o p : Outcome A) (os ps : Outcome (List A)) (c : Cause) → Refuses o c ↔ Refuses p c → Refuses os c ↔ Refuses ps c
      → (Refuses o c ⊎ Refuses os c) ↔ (Refuses p c ⊎ Refuses ps c)
  either_alike o p os ps c h k = (there, back)
    where
      there : Refuses o c ⊎ Refuses os c → Refuses p c ⊎ Refuses ps c
      there (inl x) = inl (h.0 x)
      there (inr x) = inr (k.0 x)

      back : Refuses p c ⊎ Refuses ps c → Refuses o c ⊎ Refuses os c
      back (inl x) = inl (h.1 x)
      back (inr x) = inr (k.1 x)

  pub gathered_alike : (os ps : List (Outcome A)) → AreAlike os ps → (c : Cause) → Refuses (gathered os) c ↔ Refuses (gathered ps) c
  gathered_alike [] [] h c = (λ x. x, λ x. x)
  gathered_alike [] (p ∷ ps) h c = absurd h
  gathered_alike (o ∷ os) [] h c = absurd h
  gathered_alike (o ∷ os) (p ∷ ps) h c =
      let parts = either_alike o p (gathered os) (gathered ps) c (h.0 c) (gathered_alike os ps h.1 c) in
      let first = one_more o (gathered os) c in
      let second = one_more p (gathered ps) c in
      (λ x. second.1 (parts.0 (first.0 x)), λ x. first.1 (parts.1 (second.0 x)))

columns_alike : (attributes : List Attribute) (fs : List (Tuple → Outcome Val)) (ts us : List Tuple) → HaveSameMembers ts us
    → AreAlike (columns_values attributes fs ts) (columns_values attributes fs us)
columns_alike [] fs ts us same = tt
columns_alike (a ∷ attributes) [] ts us same = tt
columns_alike (a ∷ attributes) (f ∷ fs) ts us same =
    (one_order (λ u. with_value (f u) (value_of_type a.1)) ts us same, columns_alike attributes fs ts us same)

same_made : (f : Tuple → Tuple) (ts us : List Tuple) → HaveSameMembers ts us → HaveSameMembers (map f ts) (map f us)
same_made f ts us same t = (
  λ c. let at = (contains_map f ts t).0 c in (contains_map f us t).1 (at.0, (same at.0).0 at.1, at.2),
  λ c. let at = (contains_map f us t).0 c in (contains_map f ts t).1 (at.0, (same at.0).1 at.1, at.2),
)

-- the extended tuples of a relation, in whatever order they are taken
extended_set : (bs : List Addition) (r : Relation) (us : List Tuple) → HaveSameMembers r.body us
    → extended_relation bs r ≡ extended_relation bs (relation_view r.heading us)
extended_set bs r us same =
    ap (relation_view (extended_relation bs r).heading)
    (sets_alike (map (extended_tuple bs) r.body) (map (extended_tuple bs) us) (same_made (extended_tuple bs) r.body us same))

pub extended : (types : Outcome (List Attribute)) (fs : List (Tuple → Outcome Val)) (r : Relation) (us : List Tuple) → HaveSameMembers r.body us
    → AreOneOutcome (extended_value types fs r) (extended_value types fs (relation_view r.heading us))
extended (Refused cs) fs r us same = one_itself (Refused cs)
extended (Valued attributes) fs r us same = by_heading (extended_by r.heading attributes)
  where
    with_columns : AreOneOutcome (with_value (gathered (columns_values attributes fs r.body)) (λ columns. of_relation (extended_relation (additions_of attributes fs) r)))
        (with_value (gathered (columns_values attributes fs us)) (λ columns. of_relation (extended_relation (additions_of attributes fs) (relation_view r.heading us))))
    with_columns =
        follows (gathered (columns_values attributes fs r.body)) (gathered (columns_values attributes fs us))
        (λ columns. of_relation (extended_relation (additions_of attributes fs) r))
        (λ columns. of_relation (extended_relation (additions_of attributes fs) (relation_view r.heading us)))
        (gathered_alike (columns_values attributes fs r.body) (columns_values attributes fs us) (columns_alike attributes fs r.body us same))
        (λ x y e g. ap relation_value (extended_set (additions_of attributes fs) r us same))

    by_heading : (o : Outcome Heading)
        → AreOneOutcome (with_value o (λ heading. with_value (gathered (columns_values attributes fs r.body)) (λ columns. of_relation (extended_relation (additions_of attributes fs) r))))
        (with_value o (λ heading. with_value (gathered (columns_values attributes fs us)) (λ columns. of_relation (extended_relation (additions_of attributes fs) (relation_view r.heading us)))))
    by_heading (Refused cs) = one_itself (Refused cs)
    by_heading (Valued heading) = with_columns

-- the tuples of a relation with attributes set, in whatever order they are taken
set_set : (bs : List Addition) (r : Relation) (us : List Tuple) → HaveSameMembers r.body us
    → set_relation bs r ≡ set_relation bs (relation_view r.heading us)
set_set bs r us same =
    ap (relation_view (set_relation bs r).heading)
    (sets_alike (map (set_tuple bs) r.body) (map (set_tuple bs) us) (same_made (set_tuple bs) r.body us same))

pub settings : (types : Outcome (List Attribute)) (fs : List (Tuple → Outcome Val)) (r : Relation) (us : List Tuple) → HaveSameMembers r.body us
    → AreOneOutcome (extended_by_settings types fs r) (extended_by_settings types fs (relation_view r.heading us))
settings (Refused cs) fs r us same = one_itself (Refused cs)
settings (Valued attributes) fs r us same = by_heading (set_heading r.heading attributes)
  where
    regrouped : (o : Outcome (List (List Val))) (q : Relation)
        → with_value (with_value o (λ columns. Valued (set_relation (additions_of attributes fs) q))) of_relation
        ≡ with_value o (λ columns. of_relation (set_relation (additions_of attributes fs) q))
    regrouped (Valued columns) q = refl
    regrouped (Refused cs) q = refl

    with_columns : AreOneOutcome (with_value (set_value attributes fs r) of_relation) (with_value (set_value attributes fs (relation_view r.heading us)) of_relation)
    with_columns =
        let p = relation_view r.heading us in
        rw (regrouped (gathered (columns_values attributes fs r.body)) r, regrouped (gathered (columns_values attributes fs us)) p)
        (follows (gathered (columns_values attributes fs r.body)) (gathered (columns_values attributes fs us))
        (λ columns. of_relation (set_relation (additions_of attributes fs) r)) (λ columns. of_relation (set_relation (additions_of attributes fs) p))
        (gathered_alike (columns_values attributes fs r.body) (columns_values attributes fs us) (columns_alike attributes fs r.body us same))
        (λ x y e g. ap relation_value (set_set (additions_of attributes fs) r us same)))

    by_heading : (o : Outcome Heading)
        → AreOneOutcome (with_value o (λ heading. with_value (set_value attributes fs r) of_relation))
        (with_value o (λ heading. with_value (set_value attributes fs (relation_view r.heading us)) of_relation))
    by_heading (Refused cs) = one_itself (Refused cs)
    by_heading (Valued heading) = with_columns
