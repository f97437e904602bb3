-- What came in, as values and causes: of relations that are made of others, and of what is asked of them.
use Rattle.std.proofs.Common.{◌≡◌, ◌∙◌, ◌⊎◌, inl, inr, Bool, true, false, List, [], ◌∷◌, ap, map, refl, subst, sym}
use Rattle.std.specs.Prelude.{◌↔◌}
use Rattle.std.specs.List.{Contains}
use Rattle.td_algebra.proofs.Lists.{contains_cases, contains_first, contains_later, contains_none}
use Rattle.td_algebra.specs.laws.Membership.{IsIn}
use Rattle.td_engine.specs.laws.Additions.{GiveAdditions, IsOfAdditions, KeepsAdditions}
use Rattle.td_eval.proofs.code_lemmas.OpValues.{relation_unpacked}
use Rattle.td_eval.proofs.law_lemmas.TupleOrder.{Refuses, one_itself, one_least}
use Rattle.td_eval.specs.model.OperatorValues.{of_relation, on_relation, relation_where}
use Rattle.td_eval.specs.laws.ValueLaws.{AreOneOutcome}
use Rattle.td_tree.proofs.law_lemmas.LeastCauses.{least_is_named}
use Rattle.td_tree.specs.declared.cause.Cause.{Cause}
use Rattle.td_tree.specs.model.Outcomes.{Causes, Has, Outcome, Refused, Union, Valued, gathered, least, with_both, with_value}
use Rattle.td_types.specs.model.Types.{Heading}
use Rattle.td_value.specs.model.Values.{Relation, Tuple, Val, relation_value}

pub valued_is : {A : Type 0} (x y : A) → Valued x ≡ Valued y → x ≡ y
valued_is x y e = cc

-- ---- relations that are made of others

-- where each tuple of what is made is by some tuple that it is made of, what is made of additions is of additions
pub made_additions : (made : Relation → Relation) (IsBy : Tuple → Tuple → Type 0) (r a t : Relation) → IsOfAdditions r a t
    → ((q : Relation) → q.heading ≡ r.heading → (u : Tuple) → IsIn u (made q) ↔ ((x : Tuple) × IsIn x q × IsBy x u))
    → ((q : Relation) → q.heading ≡ r.heading → (made q).heading ≡ (made r).heading)
    → IsOfAdditions (made r) (made a) (made t)
made_additions made IsBy r a t is by headed =
    record {
      headings = (headed a is.headings.0, headed t is.headings.1);
      there = λ u c. let x = (by t is.headings.1 u).0 c in (by a is.headings.0 u).1 (x.0, is.there x.0 x.1, x.2);
      either = λ u c. let x = (by a is.headings.0 u).0 c in by_case u x.0 x.2 (is.either x.0 x.1);
    }
  where
    by_case : (u x : Tuple) → IsBy x u → IsIn x r ⊎ IsIn x t → IsIn u (made r) ⊎ IsIn u (made t)
    by_case u x p (inl c) = inl ((by r refl u).1 (x, c, p))
    by_case u x p (inr c) = inr ((by t is.headings.1 u).1 (x, c, p))

-- what is answered of the relation that a value is
pub on_relations_keep : (h : Relation → Outcome Val)
    → ((r a t : Relation) (v : Val) → IsOfAdditions r a t → h r ≡ Valued v → GiveAdditions v (h a) (h t))
    → KeepsAdditions (λ w. on_relation w h)
on_relations_keep h keeps r a t v is e =
    subst (λ o. GiveAdditions v o (on_relation (relation_value t) h)) (sym (relation_unpacked a h))
    (subst (λ o. GiveAdditions v (h a) o) (sym (relation_unpacked t h)) (keeps r a t v is (sym (relation_unpacked r h) ∙ e)))

-- a relation where the headings fit
pub where_keeps : (fits : Heading → Bool) (made : Relation → Relation)
    → ((r a t : Relation) → IsOfAdditions r a t → IsOfAdditions (made r) (made a) (made t))
    → (r a t : Relation) (v : Val) → IsOfAdditions r a t → relation_where (fits r.heading) (made r) ≡ Valued v
    → GiveAdditions v (relation_where (fits a.heading) (made a)) (relation_where (fits t.heading) (made t))
where_keeps fits made keeps r a t v is e =
    let x = of_test (fits r.heading) e in
    let first : fits a.heading ≡ true = ap fits is.headings.0 ∙ x.0 in
    let second : fits t.heading ≡ true = ap fits is.headings.1 ∙ x.0 in
    subst (λ b. GiveAdditions v (relation_where b (made a)) (relation_where (fits t.heading) (made t))) (sym first)
    (subst (λ b. GiveAdditions v (relation_where true (made a)) (relation_where b (made t))) (sym second)
    (made r, made a, made t, sym x.1, refl, refl, keeps r a t is))
  where
    of_test : (b : Bool) → relation_where b (made r) ≡ Valued v → (b ≡ true) × (relation_value (made r) ≡ v)
    of_test true f = (refl, valued_is (relation_value (made r)) v f)
    of_test false f = absurd (cc)

-- a relation that is made where something has a value
pub given_keep : {A : Type 0} (o p : Outcome A) (v : Val) (q a t : Relation) → ((c : Cause) → Refuses o c ↔ Refuses p c) → v ≡ relation_value q
    → IsOfAdditions q a t → GiveAdditions v (with_value o (λ _. of_relation a)) (with_value p (λ _. of_relation t))
given_keep (Valued x) (Valued y) v q a t same e is = (q, a, t, e, refl, refl, is)
given_keep (Valued x) (Refused cs) v q a t same e is = absurd ((same (least cs)).1 (least_is_named cs).0)
given_keep (Refused bs) (Valued y) v q a t same e is = absurd ((same (least bs)).0 (least_is_named bs).0)
given_keep (Refused bs) (Refused cs) v q a t same e is = (same, one_least bs cs same)

-- ---- causes that are gathered from tuples

module _ {A : Type 0} (f : Tuple → Outcome A) where
  some_refuses : (o : Outcome A) (p : Outcome (List A)) (c : Cause) → Refuses (with_both o p (λ x xs. Valued (x ∷ xs))) c → Refuses o c ⊎ Refuses p c
  some_refuses (Valued x) (Valued xs) c h = absurd h
  some_refuses (Valued x) (Refused cs) c h = inr h
  some_refuses (Refused bs) (Valued xs) c h = inl h
  some_refuses (Refused bs) (Refused cs) c h = h

  first_refuses : (o : Outcome A) (p : Outcome (List A)) (c : Cause) → Refuses o c → Refuses (with_both o p (λ x xs. Valued (x ∷ xs))) c
  first_refuses (Valued x) p c h = absurd h
  first_refuses (Refused bs) (Valued xs) c h = h
  first_refuses (Refused bs) (Refused cs) c h = inl h

  rest_refuses : (o : Outcome A) (p : Outcome (List A)) (c : Cause) → Refuses p c → Refuses (with_both o p (λ x xs. Valued (x ∷ xs))) c
  rest_refuses o (Valued xs) c h = absurd h
  rest_refuses (Valued x) (Refused cs) c h = h
  rest_refuses (Refused bs) (Refused cs) c h = inr h

  -- there is a cause where some tuple has it
  abbrev SomeRefuses : List Tuple → Cause → Type 0
  SomeRefuses ts c = (t : Tuple) × Contains ts t × Refuses (f t) c

  from_tuples : (ts : List Tuple) (c : Cause) → Refuses (gathered (map f ts)) c → SomeRefuses ts c
  from_tuples [] c h = absurd h
  from_tuples (u ∷ us) c h = by_case (from_tuples us c) (some_refuses (f u) (gathered (map f us)) c h)
    where
      by_case : (Refuses (gathered (map f us)) c → SomeRefuses us c) → Refuses (f u) c ⊎ Refuses (gathered (map f us)) c → SomeRefuses (u ∷ us) c
      by_case rest (inl g) = (u, contains_first u us, g)
      by_case rest (inr g) = let x = rest g in (x.0, contains_later u us x.0 x.1, x.2)

  to_tuples : (ts : List Tuple) (c : Cause) (t : Tuple) → Contains ts t → Refuses (f t) c → Refuses (gathered (map f ts)) c
  to_tuples [] c t d h = absurd (contains_none t d)
  to_tuples (u ∷ us) c t d h = by_case (to_tuples us c t) (contains_cases u us t d)
    where
      by_case : (Contains us t → Refuses (f t) c → Refuses (gathered (map f us)) c) → (u ≡ t) ⊎ Contains us t → Refuses (gathered (map f (u ∷ us))) c
      by_case rest (inl is) = first_refuses (f u) (gathered (map f us)) c (subst (λ s. Refuses (f s) c) (sym is) h)
      by_case rest (inr e) = rest_refuses (f u) (gathered (map f us)) c (rest e h)

  -- where there was none before, those after a change are those of what came in
  pub causes_of_additions : (r a t : Relation) (xs : List A) → IsOfAdditions r a t → gathered (map f r.body) ≡ Valued xs
      → (c : Cause) → Refuses (gathered (map f a.body)) c ↔ Refuses (gathered (map f t.body)) c
  causes_of_additions r a t xs is e c = (there, back)
    where
      by_case : (u : Tuple) → Refuses (f u) c → IsIn u r ⊎ IsIn u t → Refuses (gathered (map f t.body)) c
      by_case u h (inl d) = absurd (subst (λ o. Refuses o c) e (to_tuples r.body c u d h))
      by_case u h (inr d) = to_tuples t.body c u d h

      there : Refuses (gathered (map f a.body)) c → Refuses (gathered (map f t.body)) c
      there h = let x = from_tuples a.body c h in by_case x.0 x.2 (is.either x.0 x.1)

      back : Refuses (gathered (map f t.body)) c → Refuses (gathered (map f a.body)) c
      back h = let x = from_tuples t.body c h in to_tuples a.body c x.0 (is.there x.0 x.1) x.2

-- ---- what follows of additions

module _ (P : Outcome Val → Outcome Val → Type 0) (refused : (bs cs : Causes) → AreOneOutcome (Refused bs) (Refused cs) → P (Refused bs) (Refused cs))
    (before after added : Outcome Val) (f g k : Val → Outcome Val) (x : Val) where
  -- of an operand that had a value
  pub follows_of : ((v : Val) → before ≡ Valued v → GiveAdditions v after added)
      → ((r a t : Relation) → before ≡ Valued (relation_value r) → after ≡ Valued (relation_value a) → added ≡ Valued (relation_value t)
      → IsOfAdditions r a t → f (relation_value r) ≡ Valued x → P (g (relation_value a)) (k (relation_value t)))
      → with_value before f ≡ Valued x → P (with_value after g) (with_value added k)
  follows_of operand step e = by_before before refl e
    where
      by_outcomes : (v : Val) → before ≡ Valued v → f v ≡ Valued x → (o p : Outcome Val) → after ≡ o → added ≡ p → GiveAdditions v o p
          → P (with_value o g) (with_value p k)
      by_outcomes v i j (Valued w) (Valued y) m n h =
          let last = step h.0 h.1 h.2 (i ∙ ap Valued h.3) (m ∙ ap Valued h.4) (n ∙ ap Valued h.5) h.6 (ap f (sym h.3) ∙ j) in
          subst (λ z. P (g z) (k y)) (sym h.4) (subst (λ z. P (g (relation_value h.1)) (k z)) (sym h.5) last)
      by_outcomes v i j (Valued w) (Refused cs) m n h = absurd h
      by_outcomes v i j (Refused bs) (Valued y) m n h = absurd h
      by_outcomes v i j (Refused bs) (Refused cs) m n h = refused bs cs h

      by_before : (o : Outcome Val) → before ≡ o → with_value o f ≡ Valued x → P (with_value after g) (with_value added k)
      by_before (Valued v) i j = by_outcomes v i j after added refl refl (operand v i)
      by_before (Refused cs) i j = absurd (cc)

-- ---- two questions

-- of outcomes that are one each, what follows of both is one
pub both_one : (a b c d : Outcome Val) (f : Val → Val → Outcome Val) → AreOneOutcome a c → AreOneOutcome b d
    → AreOneOutcome (with_both a b f) (with_both c d f)
both_one (Valued v) (Valued w) (Valued x) (Valued y) f h k = subst (λ o. AreOneOutcome (f v w) o) (λ i. f (h i) (k i)) (one_itself (f v w))
both_one (Valued v) (Valued w) (Valued x) (Refused ds) f h k = absurd k
both_one (Valued v) (Valued w) (Refused cs) d f h k = absurd h
both_one (Valued v) (Refused bs) (Valued x) (Valued y) f h k = absurd k
both_one (Valued v) (Refused bs) (Valued x) (Refused ds) f h k = k
both_one (Valued v) (Refused bs) (Refused cs) d f h k = absurd h
both_one (Refused bs) b (Valued x) d f h k = absurd h
both_one (Refused bs) (Valued w) (Refused cs) (Valued y) f h k = h
both_one (Refused bs) (Valued w) (Refused cs) (Refused ds) f h k = absurd k
both_one (Refused bs) (Refused cs) (Refused ds) (Valued y) f h k = absurd k
both_one (Refused bs) (Refused cs) (Refused ds) (Refused es) f h k = (same, one_least (Union bs cs) (Union ds es) same)
  where
    same : (c : Cause) → Has (Union bs cs) c ↔ Has (Union ds es) c
    same c = (there, back)
      where
        there : Has bs c ⊎ Has cs c → Has ds c ⊎ Has es c
        there (inl x) = inl ((h.0 c).0 x)
        there (inr x) = inr ((k.0 c).0 x)

        back : Has ds c ⊎ Has es c → Has bs c ⊎ Has cs c
        back (inl x) = inl ((h.0 c).1 x)
        back (inr x) = inr ((k.0 c).1 x)
