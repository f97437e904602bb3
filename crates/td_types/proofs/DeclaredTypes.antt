-- Lists of declared types: which type a name finds, and that each can be declared after those before it.
use Rattle.std.proofs.Common.{◌≡◌, ◌∙◌, ◌∷◌, ◌++◌, ℕ, Bool, true, false, List, [], Option, Some, None, ◌⊎◌, inl, inr, ap, refl, subst, sym, true≢false}
use Rattle.std.specs.Prelude.{is_some, if◌then◌else◌}
use Rattle.std.specs.Cmp.Lexicographic.{same_text}
use Rattle.std.proofs.lemmas.List.{append_assoc}
use Rattle.td_types.specs.model.TypeLists.{AreDeclared, AreKnown, DeclaredType, IsDeclarable, IsKnown, declared_at, is_declared}
use Rattle.td_types.specs.model.Types.{Type', boolean, integer, char, user, tuple, relation, Attrs, no_attrs, attr, Attribute, Heading, pack, same_name}
use Rattle.td_types.specs.model.Headings.{with_attribute}
use Rattle.td_types.proofs.HeadingLaws.{name_cmp, same_name-itself}
use Rattle.std.specs.FinMap.Entries.{by_order}
use Rattle.std.specs.declared.cmp.Ordering.{Ordering}
use Rattle.std.specs.declared.cmp.Ordering.TheVariants.{Less, Equal, Greater}

-- ---- the type that a name finds

-- the first list is looked through first
pub declared_at-append : (name : List ℕ) (ds more : List DeclaredType)
    → declared_at name (ds ++ more) ≡ (if is_declared name ds then declared_at name ds else declared_at name more)
declared_at-append name [] more = refl
declared_at-append name (d ∷ ds) more = by_test (declared_at-append name ds more) (same_name d.name name) refl
  where
    by_test : declared_at name (ds ++ more) ≡ (if is_declared name ds then declared_at name ds else declared_at name more)
        → (b : Bool) → same_name d.name name ≡ b
        → declared_at name (d ∷ (ds ++ more)) ≡ (if is_declared name (d ∷ ds) then declared_at name (d ∷ ds) else declared_at name more)
    by_test rest true e = rw e refl
    by_test rest false e = rw e rest

-- a type that is declared stays as it is where more are
pub declared_at-earlier : (name : List ℕ) (ds more : List DeclaredType) → is_declared name ds ≡ true
    → declared_at name (ds ++ more) ≡ declared_at name ds
declared_at-earlier name ds more e = declared_at-append name ds more ∙ rw e refl

pub is_declared-earlier : (name : List ℕ) (ds more : List DeclaredType) → is_declared name ds ≡ true
    → is_declared name (ds ++ more) ≡ true
is_declared-earlier name ds more e = ap is_some (declared_at-earlier name ds more e) ∙ e

-- and a name that is not declared finds what the later ones give it
pub declared_at-later : (name : List ℕ) (ds more : List DeclaredType) → is_declared name ds ≡ false
    → declared_at name (ds ++ more) ≡ declared_at name more
declared_at-later name ds more e = declared_at-append name ds more ∙ rw e refl

-- a type finds itself by its name, where no earlier one has it
pub declared_at-itself : (ds : List DeclaredType) (d : DeclaredType) (more : List DeclaredType) → is_declared d.name ds ≡ false
    → declared_at d.name (ds ++ (d ∷ more)) ≡ Some d
declared_at-itself ds d more e = declared_at-later d.name ds (d ∷ more) e ∙ rw (same_name-itself d.name) refl

-- where a type stands that a name finds
abbrev pub StandsIn : List ℕ → List DeclaredType → DeclaredType → Type 0
StandsIn name ds d =
    (earlier : List DeclaredType) × (later : List DeclaredType) × (ds ≡ earlier ++ (d ∷ later)) × (d.name ≡ name)

some_is : {A : Type 0} (x y : A) → Some x ≡ Some y → x ≡ y
some_is x y e = cc

pub stands_in : (name : List ℕ) (ds : List DeclaredType) (d : DeclaredType) → declared_at name ds ≡ Some d → StandsIn name ds d
stands_in name [] d e = absurd (cc)
stands_in name (c ∷ ds) d e = by_test (stands_in name ds d) (same_name c.name name) refl
  where
    by_test : (declared_at name ds ≡ Some d → StandsIn name ds d) → (b : Bool) → same_name c.name name ≡ b → StandsIn name (c ∷ ds) d
    by_test rest true is =
        let same : c ≡ d = some_is c d (rw is at e) in
        ([], ds, ap (λ x. x ∷ ds) same, ap (λ x. x.name) (sym same) ∙ same_text c.name name (sym is))
    by_test rest false is =
        let at = rest (rw is at e) in
        (c ∷ at.0, at.1, ap (λ xs. c ∷ xs) at.2, at.3)

-- a name that is declared finds a type
pub found : (name : List ℕ) (ds : List DeclaredType) → is_declared name ds ≡ true → (d : DeclaredType) × (declared_at name ds ≡ Some d)
found name ds e = by_option (declared_at name ds) refl
  where
    by_option : (o : Option DeclaredType) → declared_at name ds ≡ o → (d : DeclaredType) × (declared_at name ds ≡ Some d)
    by_option None is = absurd (true≢false (sym e ∙ ap is_some is))
    by_option (Some d) is = (d, is)

-- ---- lists that can be declared in their order

-- no type at all
pub AreDeclared-none : AreDeclared []
AreDeclared-none [] later d e = absurd (cc)
AreDeclared-none (x ∷ earlier) later d e = absurd (cc)

-- the front of such a list
pub AreDeclared-front : (ds more : List DeclaredType) → AreDeclared (ds ++ more) → AreDeclared ds
AreDeclared-front ds more h earlier later d e =
    h earlier (later ++ more) d (ap (λ xs. xs ++ more) e ∙ append_assoc earlier (d ∷ later) more)

-- what stands in a list with one more at its end
module _ {A : Type 0} where
  abbrev Split : List A → A → List A → A → List A → Type 0
  Split xs x earlier y later = ((earlier ≡ xs) × (y ≡ x)) ⊎ ((rest : List A) × (xs ≡ earlier ++ (y ∷ rest)))

  pub first_is : (x y : A) (xs ys : List A) → x ∷ xs ≡ y ∷ ys → x ≡ y
  first_is x y xs ys e = cc

  pub rest_is : (x y : A) (xs ys : List A) → x ∷ xs ≡ y ∷ ys → xs ≡ ys
  rest_is x y xs ys e = cc

  split_push : (xs : List A) (x : A) (earlier : List A) (y : A) (later : List A) → xs ++ (x ∷ []) ≡ earlier ++ (y ∷ later)
      → Split xs x earlier y later
  split_push [] x [] y later e = inl (refl, sym (first_is x y [] later e))
  split_push [] x (z ∷ []) y later e = absurd (cc)
  split_push [] x (z ∷ w ∷ earlier) y later e = absurd (cc)
  split_push (c ∷ xs) x [] y later e = inr (xs, ap (λ z. z ∷ xs) (first_is c y (xs ++ (x ∷ [])) later e))
  split_push (c ∷ xs) x (z ∷ earlier) y later e =
      by_split (split_push xs x earlier y later (rest_is c z (xs ++ (x ∷ [])) (earlier ++ (y ∷ later)) e))
    where
      same : c ≡ z
      same = first_is c z (xs ++ (x ∷ [])) (earlier ++ (y ∷ later)) e

      by_split : Split xs x earlier y later → Split (c ∷ xs) x (z ∷ earlier) y later
      by_split (inl s) = inl (rw (s.0, same) refl, s.1)
      by_split (inr s) = inr (s.0, rw (← same, ← s.1) refl)

-- such a list with one more type that can be declared after it
pub AreDeclared-push : (ds : List DeclaredType) (d : DeclaredType) → AreDeclared ds → IsDeclarable ds d → AreDeclared (ds ++ (d ∷ []))
AreDeclared-push ds d h new earlier later e is = by_split (split_push ds d earlier e later is)
  where
    by_split : Split ds d earlier e later → IsDeclarable earlier e
    by_split (inl s) = subst (λ xs. IsDeclarable xs e) (sym s.0) (subst (IsDeclarable ds) (sym s.1) new)
    by_split (inr s) = h earlier s.0 e s.1

-- each can be declared after those before it
pub declarable_at : (name : List ℕ) (ds : List DeclaredType) (d : DeclaredType) → AreDeclared ds → (at : StandsIn name ds d) → IsDeclarable at.0 d
declarable_at name ds d h at = h at.0 at.1 d at.2

-- ---- user types that are known

mutual
  -- a type stays known where more types are declared
  pub IsKnown-earlier : (ds more : List DeclaredType) (t : Type') → IsKnown ds t → IsKnown (ds ++ more) t
  IsKnown-earlier ds more boolean h = tt
  IsKnown-earlier ds more integer h = tt
  IsKnown-earlier ds more char h = tt
  IsKnown-earlier ds more (user name) h = is_declared-earlier name ds more h
  IsKnown-earlier ds more (tuple xs) h = AreKnown-earlier ds more xs h
  IsKnown-earlier ds more (relation xs) h = AreKnown-earlier ds more xs h

  pub AreKnown-earlier : (ds more : List DeclaredType) (xs : Attrs) → AreKnown ds xs → AreKnown (ds ++ more) xs
  AreKnown-earlier ds more no_attrs h = tt
  AreKnown-earlier ds more (attr n t xs) h = (IsKnown-earlier ds more t h.0, AreKnown-earlier ds more xs h.1)

-- so are the types of a heading with one more attribute
pub AreKnown-with : (ds : List DeclaredType) (a : Attribute) (xs : Heading) → IsKnown ds a.1 → AreKnown ds (pack xs) → AreKnown ds (pack (with_attribute xs a))
AreKnown-with ds a [] k h = (k, tt)
AreKnown-with ds a (x ∷ xs) k h = by_place (name_cmp a.0 x.0) (AreKnown-with ds a xs k h.1)
  where
    by_place : (o : Ordering) → AreKnown ds (pack (with_attribute xs a))
        → AreKnown ds (pack (by_order o ((a.0, a.1) ∷ x ∷ xs) ((x.0, a.1) ∷ xs) (x ∷ with_attribute xs a)))
    by_place Less rest = (k, h)
    by_place Equal rest = (k, h.1)
    by_place Greater rest = (h.0, rest)
