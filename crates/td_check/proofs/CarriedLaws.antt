-- What one outcome has, another has too, and so have outcomes made of such, with the names that are mentioned for them.
use Rattle.std.proofs.Common.{◌≡◌, ◌∙◌, ◌++◌, ℕ, List, ap, subst, sym}
use Rattle.std.specs.List.{Contains}
use Rattle.td_check.specs.model.Mentions.{behind_item, in_tuples}
use Rattle.td_check.specs.model.OperatorTypes.{over_relation}
use Rattle.td_check.specs.model.Scopes.{Scope, bound_to, entered_with}
use Rattle.td_tree.specs.model.Outcomes.{Outcome, Valued, with_both, with_value}
use Rattle.td_types.specs.model.Types.{Attrs, Heading, Type', boolean, char, integer, relation, tuple, unpack, user}
use Rattle.td_types.proofs.OutcomeLaws.{value_of_with, values_of_both}
use Rattle.td_check.proofs.OperatorLaws.{Gives}

abbrev Names : Type 0
Names = List (List ℕ)

-- the value of the first is the second's, and P holds of it
pub record Follows {A : Type 0} (P : A → Type 0) (first second : Outcome A) : Type 0 where
  pub followed : (x : A) → first ≡ Valued x → (second ≡ Valued x) × P x

-- and these are the same names
pub record Carries {A : Type 0} (P : A → Type 0) (first second : Outcome A) (before after : Names) : Type 0 where
  pub carried : (x : A) → first ≡ Valued x → (second ≡ Valued x) × P x × (after ≡ before)

module _ {A : Type 0} (P : A → Type 0) where
  pub follows_itself : (o : Outcome A) → Gives P o → Follows P o o
  follows_itself o g = record { followed = λ x e. (e, subst (Gives P) e g) }

module _ {A B : Type 0} (P : A → Type 0) (Q : B → Type 0) where
  pub follows_with : (o p : Outcome A) (f g : A → Outcome B) → Follows P o p → ((x : A) → P x → Follows Q (f x) (g x))
      → Follows Q (with_value o f) (with_value p g)
  follows_with o p f g c q =
      record {
        followed = λ y e.
            let is = value_of_with o f y e in
            let h = c.followed is.0 is.1 in
            let k = (q is.0 h.1).followed y is.2 in
            (ap (λ u. with_value u g) h.0 ∙ k.0, k.1);
      }

  pub carries_with : (o p : Outcome A) (f g : A → Outcome B) (l m : Names) → Carries P o p l m
      → ((x : A) → P x → Follows Q (f x) (g x)) → Carries Q (with_value o f) (with_value p g) l m
  carries_with o p f g l m c q =
      record {
        carried = λ y e.
            let is = value_of_with o f y e in
            let h = c.carried is.0 is.1 in
            let k = (q is.0 h.1).followed y is.2 in
            (ap (λ u. with_value u g) h.0 ∙ k.0, k.1, h.2);
      }

module _ {A B C : Type 0} (P : A → Type 0) (Q : B → Type 0) (R : C → Type 0) where
  second_with : (o p : Outcome A) (u v : Outcome B) (g : A → B → Outcome C) (x : A) (y : B) → p ≡ Valued x → v ≡ Valued y
      → with_both p v g ≡ g x y
  second_with o p u v g x y e f = ap (λ w. with_both w v g) e ∙ ap (λ w. with_both (Valued x) w g) f

  pub follows_both : (o p : Outcome A) (u v : Outcome B) (f g : A → B → Outcome C) → Follows P o p → Follows Q u v
      → ((x : A) (y : B) → P x → Q y → Follows R (f x y) (g x y)) → Follows R (with_both o u f) (with_both p v g)
  follows_both o p u v f g c d q =
      record {
        followed = λ z e.
            let is = values_of_both o u f z e in
            let h = c.followed is.0 is.2 in
            let k = d.followed is.1 is.3 in
            let r = (q is.0 is.1 h.1 k.1).followed z is.4 in
            (second_with o p u v g is.0 is.1 h.0 k.0 ∙ r.0, r.1);
      }

  pub carries_both : (o p : Outcome A) (u v : Outcome B) (f g : A → B → Outcome C) (l m l' m' : Names) → Carries P o p l m
      → Carries Q u v l' m' → ((x : A) (y : B) → P x → Q y → Follows R (f x y) (g x y))
      → Carries R (with_both o u f) (with_both p v g) (l ++ l') (m ++ m')
  carries_both o p u v f g l m l' m' c d q =
      record {
        carried = λ z e.
            let is = values_of_both o u f z e in
            let h = c.carried is.0 is.2 in
            let k = d.carried is.1 is.3 in
            let r = (q is.0 is.1 h.1 k.1).followed z is.4 in
            (second_with o p u v g is.0 is.1 h.0 k.0 ∙ r.0, r.1, ap (λ n. n ++ m') h.2 ∙ ap (λ n. l ++ n) k.2);
      }

  -- where the first mentions nothing
  pub carries_after : (o p : Outcome A) (u v : Outcome B) (f g : A → B → Outcome C) (l m : Names) → Follows P o p
      → Carries Q u v l m → ((x : A) (y : B) → P x → Q y → Follows R (f x y) (g x y))
      → Carries R (with_both o u f) (with_both p v g) l m
  carries_after o p u v f g l m c d q =
      record {
        carried = λ z e.
            let is = values_of_both o u f z e in
            let h = c.followed is.0 is.2 in
            let k = d.carried is.1 is.3 in
            let r = (q is.0 is.1 h.1 k.1).followed z is.4 in
            (second_with o p u v g is.0 is.1 h.0 k.0 ∙ r.0, r.1, k.2);
      }

-- ---- inside the tuples of a relation

-- what holds of each of the names
abbrev pub Each : (List ℕ → Type 0) → Names → Type 0
Each R names = (n : List ℕ) → Contains names n → R n

module _ (first second : Scope) (G : Type' → Type 0) (R : List ℕ → Type 0) (mentioned : Scope → Names) where
  abbrev pub names_within : Scope → Outcome Type' → Names
  names_within scope o = mentioned (in_tuples scope o)

  same_within : (o p : Outcome Type') (l m : Names) (xs : Attrs) → o ≡ Valued (relation xs) → p ≡ Valued (relation xs) → m ≡ l
      → mentioned (entered_with (unpack xs) second) ≡ mentioned (entered_with (unpack xs) first)
      → m ++ names_within second p ≡ l ++ names_within first o
  same_within o p l m xs e f same within =
      ap (λ n. n ++ names_within second p) same ∙ ap (λ u. l ++ names_within second u) f ∙ ap (λ n. l ++ n) within
      ∙ sym (ap (λ u. l ++ names_within first u) e)

  module _ {A : Type 0} (Q : A → Type 0) (f g : Type' → Heading → Outcome A) where
    -- what is asked in the tuples
    abbrev pub CarriesWithin : Attrs → Type 0
    CarriesWithin xs =
        G (relation xs) → Each R (mentioned (entered_with (unpack xs) first))
        → Carries Q (f (relation xs) (unpack xs)) (g (relation xs) (unpack xs))
        (mentioned (entered_with (unpack xs) first)) (mentioned (entered_with (unpack xs) second))

    pub carries_within : (o p : Outcome Type') (l m : Names) → Carries G o p l m → Each R (names_within first o)
        → ((xs : Attrs) → CarriesWithin xs)
        → Carries Q (with_value o (λ s. over_relation s (f s))) (with_value p (λ s. over_relation s (g s)))
        (l ++ names_within first o) (m ++ names_within second p)
    carries_within o p l m c all inside =
        record { carried = λ y e. let is = value_of_with o (λ s. over_relation s (f s)) y e in by_type y is.0 is.1 is.2 }
      where
        by_type : (y : A) (s : Type') → o ≡ Valued s → over_relation s (f s) ≡ Valued y
            → (with_value p (λ s. over_relation s (g s)) ≡ Valued y) × Q y × (m ++ names_within second p ≡ l ++ names_within first o)
        by_type y boolean e is = absurd (cc)
        by_type y integer e is = absurd (cc)
        by_type y char e is = absurd (cc)
        by_type y (user n) e is = absurd (cc)
        by_type y (tuple xs) e is = absurd (cc)
        by_type y (relation xs) e is =
            let h = c.carried (relation xs) e in
            let k = (inside xs h.1 (subst (λ u. Each R (names_within first u)) e all)).carried y is in
            (ap (λ u. with_value u (λ s. over_relation s (g s))) h.0 ∙ k.0, k.1, same_within o p l m xs e h.0 h.2 k.2)

-- ---- behind an item of WITH

module _ (first second : Scope) (G : Type' → Type 0) (R : List ℕ → Type 0) (mentioned : Scope → Names) (n : List ℕ) where
  same_behind : (o p : Outcome Type') (l m : Names) (t : Type') → o ≡ Valued t → p ≡ Valued t → m ≡ l
      → mentioned (bound_to n t second) ≡ mentioned (bound_to n t first)
      → m ++ mentioned (behind_item n p second) ≡ l ++ mentioned (behind_item n o first)
  same_behind o p l m t e f same behind =
      ap (λ ns. ns ++ mentioned (behind_item n p second)) same ∙ ap (λ u. l ++ mentioned (behind_item n u second)) f ∙ ap (λ ns. l ++ ns) behind
      ∙ sym (ap (λ u. l ++ mentioned (behind_item n u first)) e)

  module _ {A : Type 0} (Q : A → Type 0) (f g : Type' → Outcome A) where
    pub carries_behind : (o p : Outcome Type') (l m : Names) → Carries G o p l m → Each R (mentioned (behind_item n o first))
        → ((t : Type') → G t → Each R (mentioned (bound_to n t first))
        → Carries Q (f t) (g t) (mentioned (bound_to n t first)) (mentioned (bound_to n t second)))
        → Carries Q (with_value o f) (with_value p g) (l ++ mentioned (behind_item n o first)) (m ++ mentioned (behind_item n p second))
    carries_behind o p l m c all inside =
        record {
          carried = λ y e.
              let is = value_of_with o f y e in
              let h = c.carried is.0 is.1 in
              let k = (inside is.0 h.1 (subst (λ u. Each R (mentioned (behind_item n u first))) is.1 all)).carried y is.2 in
              (ap (λ u. with_value u g) h.0 ∙ k.0, k.1, same_behind o p l m is.0 is.1 h.0 h.2 k.2);
        }
