-- What two scopes that agree on what is mentioned give to names, selectors, components and headings.
use Rattle.std.proofs.Common.{◌≡◌, ◌<◌, ◌∙◌, ◌∷◌, ℕ, zero, suc, Bool, List, [], Option, Some, None, ◌⊎◌, inl, inr, ap, arith, get_or, refl, subst, sym}
use Rattle.std.specs.Prelude.{is_some, if◌then◌else◌, IsTrue}
use Rattle.std.specs.List.{AllByRecursion, Contains}
use Rattle.std.proofs.lemmas.List.Elements.{Contains-append_cases, Contains-append_left, Contains-append_right}
use Rattle.td_check.specs.model.OperatorTypes.{are_types_of, component_type, known_or, selector_type}
use Rattle.td_check.specs.model.Mentions.{mentioned_by_name, types_named, types_named_in}
use Rattle.td_check.specs.model.Scopes.{KnownRelvar, Scope, entered_with, innermost, known_relvar}
use Rattle.td_check.specs.laws.StaticLaws.{AgreeAt, AgreeOn, UsersAllIn, UsersIn}
use Rattle.td_check.specs.model.StaticTypes.{name_type}
use Rattle.td_tree.specs.declared.cause.Cause.{Cause}
use Rattle.td_tree.specs.declared.cause.Cause.TheVariants as causes
use Rattle.td_tree.specs.model.Outcomes.{Outcome, Valued, with_value, value_if}
use Rattle.td_tree.specs.model.Trees.{TypeTree, AttributeTrees, no_attributes, attribute}
use Rattle.td_tree.specs.model.Trees as trees
use Rattle.td_types.specs.model.Headings.{made_heading}
use Rattle.td_types.specs.model.TypeLists.{DeclaredType, attributes_meant, declared_at, heading_meant, is_declared, type_meant}
use Rattle.td_types.specs.model.Types.{Attribute, Heading, Type', boolean, char, integer, pack, relation, tuple, type_at, user}
use Rattle.td_types.proofs.DeclaredTypes.{found}
use Rattle.td_types.proofs.OutcomeLaws.{value_of_test, value_of_with, valued_is}
use Rattle.td_check.proofs.CarriedLaws.{Carries, Each, Follows, follows_both, follows_itself, follows_with}
use Rattle.td_check.proofs.OperatorLaws.{Fits, Gives, folded, gives_if, gives_with, type_fits}
use Rattle.td_check.proofs.UserTypeLaws.{users_closed}

pub one_is : {A : Type 0} (x : A) → Contains (x ∷ []) x
one_is x = (0, omega arith, refl)

pub only_one : {A : Type 0} (x y : A) → Contains (x ∷ []) y → x ≡ y
only_one x y c = at_place c.0 c.1 c.2
  where
    at_place : (k : ℕ) → k < 1 → get_or (x ∷ []) k y ≡ y → x ≡ y
    at_place zero l e = e
    at_place (suc k) l e = absurd (omega arith)

known_is : {A : Type 0} (cause : Cause) (o : Option A) (x : A) → known_or cause o ≡ Valued x → o ≡ Some x
known_is cause None x e = absurd (cc)
known_is cause (Some y) x e = ap Some (valued_is y x e)

module _ (among : List ℕ → Bool) where
  abbrev pub Mentioned : List (List ℕ) → Type 0
  Mentioned = Each (λ n. IsTrue (among n))

  -- ---- the attributes in hand

  pub agree_entered : (first second : Scope) → AgreeOn among first second → (h : Heading) → UsersAllIn among (pack h)
      → AgreeOn among (entered_with h first) (entered_with h second)
  agree_entered first second a h u =
      record {
        entered = ap (λ hs. h ∷ hs) a.entered;
        types = a.types;
        closed = a.closed;
        entered_in = λ g c. by_case g (Contains-append_cases (h ∷ []) first.entered g c);
      }
    where
      by_case : (g : Heading) → Contains (h ∷ []) g ⊎ Contains first.entered g → UsersAllIn among (pack g)
      by_case g (inl c) = subst (λ k. UsersAllIn among (pack k)) (only_one h g c) u
      by_case g (inr c) = a.entered_in g c

  innermost_users : (n : List ℕ) (hs : List Heading) → ((h : Heading) → Contains hs h → UsersAllIn among (pack h)) → (t : Type')
      → innermost n hs ≡ Some t → UsersIn among t
  innermost_users n [] u t e = absurd (cc)
  innermost_users n (h ∷ hs) u t e =
      by_first (type_at n h) refl (innermost_users n hs (λ g c. u g (Contains-append_right (h ∷ []) hs g c)) t) e
    where
      by_first : (o : Option Type') → type_at n h ≡ o → (innermost n hs ≡ Some t → UsersIn among t)
          → (elim o as (λ _. Option Type') [ Some s ↦ Some s | None ↦ innermost n hs ]) ≡ Some t → UsersIn among t
      by_first None at rest e = rest e
      by_first (Some s) at rest e =
          type_fits (users_closed among) n t h (u h (Contains-append_left (h ∷ []) hs h (one_is h))) (at ∙ e)

  -- ---- names

  abbrev given : Option Type' → Option KnownRelvar → Outcome Type'
  given i k =
      elim i as (λ _. Outcome Type') [
        | Some t ↦ Valued t
        | None ↦ with_value (known_or causes.NameUnknown k) (λ r. Valued (relation (pack r.heading)))
      ]

  abbrev mentions : List ℕ → Option Type' → Option KnownRelvar → List (List ℕ)
  mentions n i k = if is_some i then [] else if is_some k then n ∷ [] else []

  abbrev AgreeThere : Option KnownRelvar → Option KnownRelvar → Type 0
  AgreeThere k l =
      (r : KnownRelvar) → k ≡ Some r → (q : KnownRelvar) × (l ≡ Some q) × (q.heading ≡ r.heading) × UsersAllIn among (pack r.heading)

  given_carried : (n : List ℕ) (i : Option Type') (k l : Option KnownRelvar) → ((t : Type') → i ≡ Some t → UsersIn among t)
      → Each (λ _. AgreeThere k l) (mentions n i k)
      → Carries (UsersIn among) (given i k) (given i l) (mentions n i k) (mentions n i l)
  given_carried n (Some s) k l u a =
      record { carried = λ t e. (e, u t (ap Some (valued_is s t e)), refl) }
  given_carried n None None l u a = record { carried = λ t e. absurd (cc) }
  given_carried n None (Some r) l u a =
      let q = a n (one_is n) r refl in
      subst (λ k. Carries (UsersIn among) (given None (Some r)) (given None k) (n ∷ []) (mentions n None k)) (sym q.1)
      (record {
        carried = λ t e.
            (ap (λ h. Valued (relation (pack h))) q.2 ∙ e, subst (UsersIn among) (valued_is (relation (pack r.heading)) t e) q.3, refl);
      })

  pub name_carried : (first second : Scope) → AgreeOn among first second → (n : List ℕ)
      → Each (AgreeAt among first second) (mentioned_by_name first n)
      → Carries (UsersIn among) (name_type first n) (name_type second n) (mentioned_by_name first n) (mentioned_by_name second n)
  name_carried first second a n r =
      subst (λ i. Carries (UsersIn among) (name_type first n) (given i (known_relvar second n)) (mentioned_by_name first n) (mentions n i (known_relvar second n)))
      (sym (ap (innermost n) a.entered))
      (given_carried n (innermost n first.entered) (known_relvar first n) (known_relvar second n) (innermost_users n first.entered a.entered_in)
      (λ m c. there m c (innermost n first.entered) (known_relvar first n) refl refl c))
    where
      there : (m : List ℕ) → Contains (mentioned_by_name first n) m → (i : Option Type') (k : Option KnownRelvar)
          → innermost n first.entered ≡ i → known_relvar first n ≡ k → Contains (mentions n i k) m
          → AgreeThere (known_relvar first n) (known_relvar second n)
      there m c (Some t) k e f (j, l, is) = absurd (omega arith)
      there m c None None e f (j, l, is) = absurd (omega arith)
      there m c None (Some q) e f d =
          subst (λ x. AgreeThere (known_relvar first x) (known_relvar second x)) (sym (only_one n m d)) (r m c)

  -- ---- selectors and components

  module _ (first second : Scope) (a : AgreeOn among first second) where
    pub selector_follows : (n : List ℕ) → IsTrue (among n) → (ts : List Type')
        → Follows (UsersIn among) (selector_type first.types n ts) (selector_type second.types n ts)
    selector_follows n m ts =
        record {
          followed = λ t e.
              let d = value_of_with (known_or causes.NameUnknown (declared_at n first.types)) made t e in
              let there = a.types n d.0 m (known_is causes.NameUnknown (declared_at n first.types) d.0 d.1) in
              let is = value_of_test (are_types_of ts d.0.components) (user n) t causes.TypeMismatch d.2 in
              (ap (λ o. with_value (known_or causes.NameUnknown o) made) there ∙ d.2, subst (UsersIn among) is.1 m);
        }
      where
        made : DeclaredType → Outcome Type'
        made d = value_if (are_types_of ts d.components) (user n) causes.TypeMismatch

    pub component_follows : (name : List ℕ) (s : Type') → UsersIn among s
        → Follows (UsersIn among) (component_type first.types name s) (component_type second.types name s)
    component_follows name boolean u = record { followed = λ t e. absurd (cc) }
    component_follows name integer u = record { followed = λ t e. absurd (cc) }
    component_follows name char u = record { followed = λ t e. absurd (cc) }
    component_follows name (tuple xs) u = record { followed = λ t e. absurd (cc) }
    component_follows name (relation xs) u = record { followed = λ t e. absurd (cc) }
    component_follows name (user n) u =
        record {
          followed = λ t e.
              let d = value_of_with (known_or causes.NameUnknown (declared_at n first.types)) chosen t e in
              let at = known_is causes.NameUnknown (declared_at n first.types) d.0 d.1 in (
                ap (λ o. with_value (known_or causes.NameUnknown o) chosen) (a.types n d.0 u at) ∙ d.2,
                type_fits (users_closed among) name t d.0.components (a.closed n d.0 u at) (known_is causes.NameUnknown (type_at name d.0.components) t d.2),
              );
        }
      where
        chosen : DeclaredType → Outcome Type'
        chosen d = known_or causes.NameUnknown (type_at name d.components)

    -- ---- headings

    made_gives : (attributes : List Attribute) → AllByRecursion (Fits (users_closed among)) attributes
        → Gives (λ h. UsersAllIn among (pack h)) (made_heading attributes)
    made_gives attributes all = search (gives_if, folded (users_closed among) [] attributes tt all)

    made_follows : (G : Type' → Type 0) (o p : Outcome (List Attribute)) (f : Heading → Type') → Follows (AllByRecursion (Fits (users_closed among))) o p
        → ((h : Heading) → UsersAllIn among (pack h) → G (f h))
        → Follows G (with_value o (λ xs. with_value (made_heading xs) (λ h. Valued (f h)))) (with_value p (λ xs. with_value (made_heading xs) (λ h. Valued (f h))))
    made_follows G o p f c g =
        follows_with (AllByRecursion (Fits (users_closed among))) G o p _ _ c
        (λ xs all. follows_itself G _ (gives_with (λ h. UsersAllIn among (pack h)) G (made_heading xs) (λ h. Valued (f h)) (made_gives xs all) g))

    mutual
      pub meant_follows : (tree : TypeTree) → Mentioned (types_named tree) → Follows (UsersIn among) (type_meant first.types tree) (type_meant second.types tree)
      meant_follows trees.integer m = follows_itself (UsersIn among) (Valued integer) tt
      meant_follows trees.char m = follows_itself (UsersIn among) (Valued char) tt
      meant_follows trees.boolean m = follows_itself (UsersIn among) (Valued boolean) tt
      meant_follows (trees.user name) m =
          record {
            followed = λ t e.
                let is = value_of_test (is_declared name first.types) (user name) t causes.NameUnknown e in
                let d = found name first.types is.0 in
                let there = a.types name d.0 (m name (one_is name)) d.1 in
                (ap (λ o. value_if (is_some o) (user name) causes.NameUnknown) there ∙ ap Valued is.1, subst (UsersIn among) is.1 (m name (one_is name)));
          }
      meant_follows (trees.tuple_type heading) m =
          made_follows (UsersIn among) _ _ (λ h. tuple (pack h)) (attributes_follow heading m) (λ h u. u)
      meant_follows (trees.relation_type heading) m =
          made_follows (UsersIn among) _ _ (λ h. relation (pack h)) (attributes_follow heading m) (λ h u. u)

      pub attributes_follow : (heading : AttributeTrees) → Mentioned (types_named_in heading)
          → Follows (AllByRecursion (Fits (users_closed among))) (attributes_meant first.types heading) (attributes_meant second.types heading)
      attributes_follow no_attributes m = follows_itself (AllByRecursion (Fits (users_closed among))) (Valued []) tt
      attributes_follow (attribute name ty rest) m =
          follows_both (UsersIn among) (AllByRecursion (Fits (users_closed among))) (AllByRecursion (Fits (users_closed among))) _ _ _ _ _ _
          (meant_follows ty (λ n c. m n (Contains-append_left (types_named ty) (types_named_in rest) n c)))
          (attributes_follow rest (λ n c. m n (Contains-append_right (types_named ty) (types_named_in rest) n c)))
          (λ t xs u all. follows_itself (AllByRecursion (Fits (users_closed among))) (Valued ((name, t) ∷ xs)) ((tt, u), all))

    pub heading_follows : (heading : AttributeTrees) → Mentioned (types_named_in heading)
        → Follows (λ h. UsersAllIn among (pack h)) (heading_meant first.types heading) (heading_meant second.types heading)
    heading_follows heading m =
        follows_with (AllByRecursion (Fits (users_closed among))) (λ h. UsersAllIn among (pack h)) _ _ made_heading made_heading
        (attributes_follow heading m) (λ xs all. follows_itself (λ h. UsersAllIn among (pack h)) (made_heading xs) (made_gives xs all))
