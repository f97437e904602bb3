-- SUMMARIZE's operand with its items, in two scopes that agree on what is mentioned.
use Rattle.std.proofs.Common.{◌≡◌, ◌∙◌, ◌++◌, ℕ, List, Option, Some, None, ap, refl, subst, sym}
use Rattle.td_check.specs.model.Mentions.{in_tuples}
use Rattle.td_check.specs.model.OperatorTypes.{Item, mismatch}
use Rattle.td_check.specs.model.Scopes.{Scope}
use Rattle.td_check.specs.model.StaticTypes.{with_items}
use Rattle.td_tree.specs.model.Outcomes.{Outcome, Valued, with_both, with_value}
use Rattle.td_types.specs.model.Types.{Attrs, Heading, Type', boolean, char, integer, relation, tuple, unpack, user}
use Rattle.td_types.proofs.OutcomeLaws.{value_of_with, values_of_both}
use Rattle.td_check.proofs.CarriedLaws.{Carries, CarriesWithin, Each, Follows, names_within}

abbrev pub Items : Type 0
Items = List (List ℕ × Item)

abbrev pub HeadingItems : Type 0
HeadingItems = Heading × Items

-- the first's value, where it is some, is the second's, P holds of it, and these are the same names, those before the items
-- and those in them
pub record CarriesSome {A : Type 0} (P : A → Type 0) (first second : Outcome (Option A)) (before after before_in after_in : List (List ℕ)) : Type 0 where
  pub carried : (x : A) → first ≡ Valued (Some x) → (second ≡ Valued (Some x)) × P x × (after ≡ before) × (after_in ≡ before_in)

some_is : {A : Type 0} (x y : A) → Valued (Some x) ≡ Valued (Some y) → x ≡ y
some_is x y e = cc

abbrev pub Both : (Heading → Type 0) → (Items → Type 0) → HeadingItems → Type 0
Both H Q both = H both.0 × Q both.1

module _ (first second : Scope) (G : Type' → Type 0) (R : List ℕ → Type 0) (mentioned : Scope → List (List ℕ)) where
  module _ (H : Heading → Type 0) (in_relation : (xs : Attrs) → G (relation xs) → H (unpack xs)) (Q : Items → Type 0) (f g : Heading → Outcome Items) where
    pub items_carried : (o p : Outcome Type') (l m : List (List ℕ)) → Carries G o p l m → Each R (names_within first second G R mentioned first o)
        → ((xs : Attrs) → CarriesWithin first second G R mentioned Q (λ _. f) (λ _. g) xs)
        → CarriesSome (Both H Q) (with_value o (λ s. with_items s f)) (with_value p (λ s. with_items s g)) l m
        (mentioned (in_tuples first o)) (mentioned (in_tuples second p))
    items_carried o p l m c all inside =
        record { carried = λ y e. let is = value_of_with o (λ s. with_items s f) (Some y) e in by_type y is.0 is.1 is.2 }
      where
        by_type : (y : HeadingItems) (s : Type') → o ≡ Valued s → with_items s f ≡ Valued (Some y)
            → (with_value p (λ s. with_items s g) ≡ Valued (Some y)) × Both H Q y × (m ≡ l) × (mentioned (in_tuples second p) ≡ mentioned (in_tuples first o))
        by_type y boolean e is = absurd (cc)
        by_type y integer e is = absurd (cc)
        by_type y char e is = absurd (cc)
        by_type y (user n) e is = absurd (cc)
        by_type y (tuple xs) e is = absurd (cc)
        by_type y (relation xs) e is =
            let h = c.carried (relation xs) e in
            let paired : Items → Outcome (Option HeadingItems) = λ items. Valued (Some (unpack xs, items)) in
            let v = value_of_with (f (unpack xs)) paired (Some y) is in
            let k = (inside xs h.1 (subst (λ u. Each R (mentioned (in_tuples first u))) e all)).carried v.0 v.1 in (
              ap (λ u. with_value u (λ s. with_items s g)) h.0 ∙ ap (λ u. with_value u paired) k.0 ∙ v.2,
              subst (Both H Q) (some_is (unpack xs, v.0) y v.2) (in_relation xs h.1, k.1),
              h.2,
              ap (λ u. mentioned (in_tuples second u)) h.0 ∙ k.2 ∙ sym (ap (λ u. mentioned (in_tuples first u)) e),
            )

-- what follows of some, or TYPE_MISMATCH
abbrev pub or_mismatch : {A : Type 0} → (A → Outcome Type') → Option A → Outcome Type'
or_mismatch f o = elim o as (λ _. Outcome Type') [ Some x ↦ f x | None ↦ mismatch ]

some_there : {A : Type 0} (f : A → Outcome Type') (o : Option A) (t : Type') → or_mismatch f o ≡ Valued t
    → (x : A) × (o ≡ Some x) × (f x ≡ Valued t)
some_there f None t e = absurd (cc)
some_there f (Some x) t e = (x, refl, e)

module _ {A : Type 0} (P : A → Type 0) (G : Type' → Type 0) (o p : Outcome (Option A)) (l m l_in m_in : List (List ℕ)) (c : CarriesSome P o p l m l_in m_in) where
  -- BY
  pub summary_by : (f : A → Outcome Type') → ((x : A) → P x → Follows G (f x) (f x))
      → Carries G (with_value o (or_mismatch f)) (with_value p (or_mismatch f)) (l ++ l_in) (m ++ m_in)
  summary_by f q =
      record {
        carried = λ t e.
            let is = value_of_with o (or_mismatch f) t e in
            let x = some_there f is.0 t is.2 in
            let h = c.carried x.0 (is.1 ∙ ap Valued x.1) in (
              ap (λ u. with_value u (or_mismatch f)) h.0 ∙ x.2,
              ((q x.0 h.1).followed t x.2).1,
              ap (λ n. n ++ m_in) h.2 ∙ ap (λ n. l ++ n) h.3,
            );
      }

  -- PER
  pub summary_per : (u v : Outcome Type') (l' m' : List (List ℕ)) → Carries G u v l' m' → (f : A → Type' → Outcome Type')
      → ((x : A) (s : Type') → P x → G s → Follows G (f x s) (f x s))
      → Carries G (with_both o u (λ x s. or_mismatch (λ y. f y s) x)) (with_both p v (λ x s. or_mismatch (λ y. f y s) x))
      (l ++ (l_in ++ l')) (m ++ (m_in ++ m'))
  summary_per u v l' m' d f q =
      record {
        carried = λ t e.
            let is = values_of_both o u (λ x s. or_mismatch (λ y. f y s) x) t e in
            let x = some_there (λ y. f y is.1) is.0 t is.4 in
            let h = c.carried x.0 (is.2 ∙ ap Valued x.1) in
            let k = d.carried is.1 is.3 in (
              ap (λ w. with_both w v (λ x s. or_mismatch (λ y. f y s) x)) h.0
                  ∙ ap (λ w. with_both (Valued (Some x.0)) w (λ x s. or_mismatch (λ y. f y s) x)) k.0 ∙ x.2,
              ((q x.0 is.1 h.1 k.1).followed t x.2).1,
              ap (λ n. n ++ (m_in ++ m')) h.2 ∙ ap (λ n. l ++ (n ++ m')) h.3 ∙ ap (λ n. l ++ (l_in ++ n)) k.2,
            );
      }
