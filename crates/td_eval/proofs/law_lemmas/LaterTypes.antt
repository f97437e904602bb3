-- The selectors of types that stand before others are what they are where these types alone are declared.
use Rattle.std.proofs.Common.{◌≡◌, ◌∙◌, ◌++◌, ℕ, Bool, true, false, List, [], ◌∷◌, Option, Some, None, append-nil, append_assoc, ap, fold, map, refl, subst, sym}
use Rattle.std.specs.List.{AllByRecursion, zip}
use Rattle.std.specs.Prelude.{is_some}
use Rattle.std.proofs.lemmas.List.Sums.{fold-append}
use Rattle.td_catalog.specs.model.Database.{Database, VirtualRelvar, database_scope, with_virtuals}
use Rattle.td_catalog.specs.model.TypedDatabases.{EachAfter, IsConstrained, IsTyped, IsTypedVirtual}
use Rattle.td_check.specs.model.OperatorTypes.{are_types_of, if_type}
use Rattle.td_check.specs.model.Scopes.{alone_with, scope_of}
use Rattle.td_check.specs.model.StatementTypes.{constraint_fits}
use Rattle.td_check.specs.model.StaticTypes.{type_of}
use Rattle.td_tree.specs.declared.cause.Cause.TheVariants as causes
use Rattle.td_tree.specs.model.Names.{IsName}
use Rattle.td_tree.specs.model.Outcomes.{Outcome, Valued, value_if, with_value}
use Rattle.td_tree.specs.model.Trees.{Tree}
use Rattle.td_types.specs.model.Headings.{are_distinct, heading_from}
use Rattle.td_types.specs.model.TypeLists.{AreDeclared, AreKnown, DeclaredType, IsDeclarable, declared_at, ConstraintsAreWritten}
use Rattle.td_types.specs.model.Types.{Attribute, attribute_names, pack, same_name}
use Rattle.td_types.specs.model.Types as types
use Rattle.td_types.proofs.DeclaredTypes.{AreDeclared-front, declared_at-later}
use Rattle.td_types.proofs.KnownTypes.{declared_more}
use Rattle.td_types.proofs.OutcomeLaws.{value_of_with}
use Rattle.td_types.proofs.Ranks.{known_components}
use Rattle.td_value.specs.model.KnownValues.{AreOfTypes}
use Rattle.td_value.specs.model.Values.{Val, AreValues, Parts, no_parts, part, Tuple, heading_of, made_tuple, pack_parts, selected_value, tuple_names, tuple_of, user_view}
use Rattle.td_value.specs.model.Values as values
use Rattle.td_value.proofs.KnownValues.{has_its_type}
use Rattle.td_eval.specs.model.DatabaseWorlds.{Selectors, constraint_value, selector_value, selectors_of, types_alone, with_selector, world_of_types}
use Rattle.td_eval.specs.laws.LiteralValues.{CutTypesKeepConstraints}
use Rattle.td_eval.specs.model.OperatorValues.{truth_value}
use Rattle.td_eval.specs.model.TreeValues.{value_of}
use Rattle.td_eval.specs.laws.ValueLaws.{IsChecked}
use Rattle.td_eval.specs.laws.ValueTypes.{AreComponentsOf, KeepsScope}
use Rattle.td_eval.specs.model.Worlds.{World, selector_outcome}
use Rattle.td_eval.proofs.code_lemmas.KeepsGathered.{all_from_members}
use Rattle.td_eval.proofs.law_lemmas.MoreWorlds.{HasMoreThan, same_in_more}
use Rattle.td_eval.proofs.law_lemmas.TypedDatabases.{components_known, typed_databases_keep_scopes, shrunk, some_same}
use Rattle.td_eval.proofs.code_lemmas.TypedRows.{IsTypedEntry, made_typed, own_type}
use Rattle.td_tree.specs.model.WrittenTrees.{IsWritten}

-- ---- types that may stand in a typed database

pub record AreTypedTypes (ds : List DeclaredType) : Type 0 where
  pub declared : AreDeclared ds
  pub constrained : EachAfter IsConstrained ds
  pub written : ConstraintsAreWritten ds

each_front : {A : Type 0} (P : List A → A → Type 0) (xs more : List A) → EachAfter P (xs ++ more) → EachAfter P xs
each_front P xs more h earlier later x e =
    h earlier (later ++ more) x (ap (λ ys. ys ++ more) e ∙ append_assoc earlier (x ∷ later) more)

all_front : {A : Type 0} (P : A → Type 0) (xs more : List A) → AllByRecursion P (xs ++ more) → AllByRecursion P xs
all_front P [] more h = tt
all_front P (x ∷ xs) more h = (h.0, all_front P xs more h.1)

all_last : {A : Type 0} (P : A → Type 0) (xs : List A) (x : A) → AllByRecursion P (xs ++ (x ∷ [])) → P x
all_last P [] x h = h.0
all_last P (y ∷ xs) x h = all_last P xs x h.1

pub first_typed : (ds more : List DeclaredType) → AreTypedTypes (ds ++ more) → AreTypedTypes ds
first_typed ds more h =
    record {
      declared = AreDeclared-front ds more h.declared;
      constrained = each_front IsConstrained ds more h.constrained;
      written = all_front (λ (d : DeclaredType). (e : Tree) → d.constraint ≡ Some e → IsWritten e) ds more h.written;
    }

-- the database of these types alone
abbrev types_database : List DeclaredType → Database
types_database ds = record { types = ds; bases = []; virtuals = []; constraints = [] }

no_virtual : (P : List VirtualRelvar → VirtualRelvar → Type 0) → EachAfter P []
no_virtual P [] later v e = absurd (cc)
no_virtual P (u ∷ earlier) later v e = absurd (cc)

pub types_keep : (ds : List DeclaredType) → AreTypedTypes ds → KeepsScope (world_of_types ds ds) (scope_of ds)
types_keep ds h =
    typed_databases_keep_scopes (types_database ds)
    (record {
      declared = h.declared;
      constrained = h.constrained;
      named = tt;
      distinct = refl;
      bases = tt;
      virtuals = no_virtual (λ earlier v. IsTypedVirtual (database_scope (with_virtuals earlier (types_database ds))) v);
      constraints_named = tt;
      constraints_distinct = refl;
      constraints = tt;
      written = record { constraints = h.written; virtuals = tt };
    })

-- ---- selectors

-- the selectors of a world
pub selected_by : (w : World) (s : Selectors) (n : List ℕ) (vs : List Val) → w.selector ≡ s → selector_outcome w n vs ≡ selector_outcome (types_alone [] s) n vs
selected_by w s n vs e = ap (λ (t : Selectors). selector_outcome (types_alone [] t) n vs) e

-- the selectors of the types, as they are where these alone are known
pub record SelectThose (front : List DeclaredType) (selectors : Selectors) : Type 0 where
  pub found :
      (n : List ℕ) (d : DeclaredType) → declared_at n front ≡ Some d
      → (f : List Val → Outcome Val) × (selectors n ≡ Some f)
      × ((vs : List Val) → AreComponentsOf front d vs → f vs ≡ selector_outcome (world_of_types front front) n vs)
  pub missing : (n : List ℕ) → declared_at n front ≡ None → selectors n ≡ None

-- which world that has them has more
pub types_more : (front rest all : List DeclaredType) (selectors : Selectors) → all ≡ front ++ rest → SelectThose front selectors
    → HasMoreThan (scope_of front) (world_of_types front front) (types_alone all selectors)
types_more front rest all selectors e s =
    record {
      types = (rest, e);
      relvars = λ n r is. is;
      values = λ n k. refl;
      selectors = λ n d vs is h. let x = s.found n d is in rw (selector_outcome, x.1) (x.2 vs h);
    }

pub parts_shrunk : (ds more : List DeclaredType) (a : AreDeclared ds) (ps : Parts) (cs : List Attribute) → AreKnown ds (pack cs)
    → AreOfTypes (ds ++ more) ps cs → AreOfTypes ds ps cs
parts_shrunk ds more a no_parts [] k h = tt
parts_shrunk ds more a no_parts (c ∷ cs) k h = h
parts_shrunk ds more a (part v ps) [] k h = h
parts_shrunk ds more a (part v ps) (c ∷ cs) k h = (shrunk ds more a v c.1 h.0 k.0, parts_shrunk ds more a ps cs k.1 h.1)

-- components by their names
zipped : (ds : List DeclaredType) (cs : List Attribute) (vs : List Val) → AllByRecursion (λ (c : Attribute). IsName c.0) cs → AreValues (pack_parts vs)
    → AreOfTypes ds (pack_parts vs) cs
    → (heading_of (zip (attribute_names cs) vs) ≡ cs) × AllByRecursion (IsTypedEntry ds) (zip (attribute_names cs) vs)
zipped ds [] [] n p h = (refl, tt)
zipped ds [] (v ∷ vs) n p h = absurd h
zipped ds (c ∷ cs) [] n p h = absurd h
zipped ds (c ∷ cs) (v ∷ vs) n p h =
    let rest = zipped ds cs vs n.1 p.1 h.1 in
    let first = has_its_type ds v c.1 h.0 in
    ((λ i. (c.0, first i) ∷ rest.0 i), ((n.0, own_type ds v c.1 (p.0, h.0)), rest.1))

module _ (front : List DeclaredType) (d : DeclaredType) (is_typed : AreTypedTypes (front ++ (d ∷ []))) where
  abbrev with_last : List DeclaredType
  with_last = front ++ (d ∷ [])

  before : AreTypedTypes front
  before = first_typed front (d ∷ []) is_typed

  new : IsDeclarable front d
  new = is_typed.declared front [] d refl

  written : (e : Tree) → d.constraint ≡ Some e → IsWritten e
  written = all_last (λ (c : DeclaredType). (e : Tree) → c.constraint ≡ Some e → IsWritten e) front d is_typed.written

  -- a constraint that is valued alike in a world
  abbrev pub IsValuedAlike : World → Type 0
  IsValuedAlike second =
      (t : Tuple) (e : Tree) → d.constraint ≡ Some e → heading_of t ≡ heading_from d.components → IsChecked (scope_of front) (t ∷ []) e
      → value_of second (t ∷ []) e ≡ value_of (world_of_types front front) (t ∷ []) e

  pub alike_in_more : (second : World) → HasMoreThan (scope_of front) (world_of_types front front) second → IsValuedAlike second
  alike_in_more second more t e is head c = same_in_more (scope_of front) (world_of_types front front) second more (t ∷ []) e (types_keep front before) c

  module _ (second : World) (alike : IsValuedAlike second) where
    -- its constraint, of these components
    constraint_same : (vs : List Val) → AreComponentsOf front d vs → constraint_value second d vs ≡ constraint_value (world_of_types front front) d vs
    constraint_same vs h = by_option d.constraint refl
      where
        by_test : (e : Tree) → d.constraint ≡ Some e → heading_of (zip (attribute_names d.components) vs) ≡ d.components
            → AllByRecursion (IsTypedEntry front) (zip (attribute_names d.components) vs)
            → (b : Bool) → are_distinct (tuple_names (zip (attribute_names d.components) vs)) ≡ b
            → with_value (value_if b (tuple_of (zip (attribute_names d.components) vs)) causes.Heading) (λ t. truth_value (value_of second (t ∷ []) e))
            ≡ with_value (value_if b (tuple_of (zip (attribute_names d.components) vs)) causes.Heading) (λ t. truth_value (value_of (world_of_types front front) (t ∷ []) e))
        by_test e is heading entries false distinct = refl
        by_test e is heading entries true distinct =
            let u = zip (attribute_names d.components) vs in
            let made = made_typed front u distinct entries in
            let head : heading_of (tuple_of u) ≡ heading_from d.components = made.1 ∙ ap heading_from heading in
            let fits : with_value (type_of (alone_with (heading_from d.components) (scope_of front)) e) (λ t. if_type types.boolean t tt) ≡ Valued tt =
            subst (λ o. constraint_fits (scope_of front) d.components o ≡ Valued tt) is (is_typed.constrained front [] d refl) in
            let asked = value_of_with (type_of (alone_with (heading_from d.components) (scope_of front)) e) (λ t. if_type types.boolean t tt) tt fits in
            ap truth_value
            (alike (tuple_of u) e is head
            (record {
              tuples = (made.0, tt);
              written = written e is;
              typed = (asked.0, ap (λ g. type_of (alone_with g (scope_of front)) e) head ∙ asked.1);
            }))

        of_tree : (e : Tree) → d.constraint ≡ Some e
            → with_value (made_tuple (zip (attribute_names d.components) vs)) (λ t. truth_value (value_of second (t ∷ []) e))
            ≡ with_value (made_tuple (zip (attribute_names d.components) vs)) (λ t. truth_value (value_of (world_of_types front front) (t ∷ []) e))
        of_tree e is =
            let entries = zipped front d.components vs (all_from_members (λ (c : Attribute). IsName c.0) d.components new.names) h.0 h.1 in
            let u = zip (attribute_names d.components) vs in
            by_test e is entries.0 entries.1 (are_distinct (tuple_names u)) refl

        by_option : (o : Option Tree) → d.constraint ≡ o → constraint_value second d vs ≡ constraint_value (world_of_types front front) d vs
        by_option (Some e) is = rw (constraint_value, is) (of_tree e is)
        by_option None is = rw (constraint_value, is) refl

    pub selector_same : (vs : List Val) → AreComponentsOf front d vs → selector_value second d vs ≡ selector_value (world_of_types front front) d vs
    selector_same vs h =
        let same = constraint_same vs h in
        λ i. with_value (value_if (are_types_of (map values.type_of vs) d.components) (user_view d.name vs) causes.TypeMismatch)
        (λ u. with_value (same i) (λ holds. value_if holds (selected_value u) causes.TypeConstraint))

-- ---- the types in their order

-- the front of each longer list has such selectors
abbrev pub FrontSelects : List DeclaredType → Type 0
FrontSelects front = (all rest : List DeclaredType) → all ≡ front ++ rest → SelectThose front (selectors_of all front)

-- one more type
module _ (front : List DeclaredType) (d : DeclaredType) (is_typed : AreTypedTypes (front ++ (d ∷ []))) (fronts : FrontSelects front) where
  abbrev wide : List DeclaredType
  wide = front ++ (d ∷ [])

  abbrev Selects : Selectors → List ℕ → DeclaredType → Type 0
  Selects selectors n c =
      (f : List Val → Outcome Val) × (selectors n ≡ Some f)
      × ((vs : List Val) → AreComponentsOf wide c vs → f vs ≡ selector_outcome (world_of_types wide wide) n vs)

  -- the selectors of all types of the list, where it is these
  its_own : selectors_of wide wide ≡ with_selector wide (selectors_of wide front) d
  its_own = fold-append (with_selector wide) (λ n. None) front (d ∷ [])

  own_selected : (n : List ℕ) (f : List Val → Outcome Val) (vs : List Val) → with_selector wide (selectors_of wide front) d n ≡ Some f
      → selector_outcome (world_of_types wide wide) n vs ≡ f vs
  own_selected n f vs is =
      let there : selectors_of wide wide n ≡ Some f = ap (λ (s : Selectors). s n) its_own ∙ is in
      rw (selector_outcome, there) refl

  front_declared : AreDeclared front
  front_declared = AreDeclared-front front (d ∷ []) is_typed.declared

  earlier : (all rest : List DeclaredType) → all ≡ wide ++ rest → (n : List ℕ) (b c : DeclaredType) → declared_at n front ≡ Some b → declared_at n wide ≡ Some c
      → Selects (with_selector all (selectors_of all front) d) n c
  earlier all rest e n b c is there =
      let same : b ≡ c = some_same front (d ∷ []) front_declared b c (sym (declared_more n front (d ∷ []) b is) ∙ there) in
      let x = (fronts all (d ∷ rest) (e ∙ append_assoc front (d ∷ []) rest)).found n b is in
      let y = (fronts wide (d ∷ []) refl).found n b is in
      subst (Selects (with_selector all (selectors_of all front) d) n) same (
        x.0,
        rw (with_selector, x.1) refl,
        λ vs h.
            let small : AreComponentsOf front b vs =
            (h.0, parts_shrunk front (d ∷ []) front_declared (pack_parts vs) b.components (components_known front (d ∷ []) front_declared n b is) h.1) in
            x.2 vs small ∙ sym (y.2 vs small) ∙ sym (own_selected n y.0 vs (rw (with_selector, y.1) refl)),
      )

  itself : (all rest : List DeclaredType) → all ≡ wide ++ rest → (n : List ℕ) (c : DeclaredType) → declared_at n front ≡ None → declared_at n (d ∷ []) ≡ Some c
      → Selects (with_selector all (selectors_of all front) d) n c
  itself all rest e n c is there = by_test (same_name d.name n) refl
    where
      by_test : (b : Bool) → same_name d.name n ≡ b → Selects (with_selector all (selectors_of all front) d) n c
      by_test false named = let none : None ≡ Some c = rw named refl ∙ there in absurd (cc)
      by_test true named =
          let same : d ≡ c = some_same front (d ∷ []) front_declared d c (rw named refl ∙ there) in
          let long : all ≡ front ++ (d ∷ rest) = e ∙ append_assoc front (d ∷ []) rest in
          let x = fronts all (d ∷ rest) long in
          let y = fronts wide (d ∷ []) refl in
          subst (Selects (with_selector all (selectors_of all front) d) n) same (
            selector_value (types_alone all (selectors_of all front)) d,
            rw (with_selector, x.missing n is, named) refl,
            λ vs h.
                let small : AreComponentsOf front d vs = (
                  h.0,
                  parts_shrunk front (d ∷ []) front_declared (pack_parts vs) d.components
                      (known_components front d.components (new front d is_typed).known) h.1,
                ) in
                selector_same front d is_typed (types_alone all (selectors_of all front)) (alike_in_more front d is_typed (types_alone all (selectors_of all front))
                (types_more front (d ∷ rest) all (selectors_of all front) long x)) vs small
                ∙ sym (selector_same front d is_typed (types_alone wide (selectors_of wide front)) (alike_in_more front d is_typed (types_alone wide (selectors_of wide front))
                (types_more front (d ∷ []) wide (selectors_of wide front) refl y)) vs small)
                ∙ sym (own_selected n (selector_value (types_alone wide (selectors_of wide front)) d) vs (rw (with_selector, y.missing n is, named) refl)),
          )

  at_end : (n : List ℕ) → declared_at n front ≡ None → declared_at n wide ≡ declared_at n (d ∷ [])
  at_end n is = declared_at-later n front (d ∷ []) (ap is_some is)

  one_more : FrontSelects wide
  one_more all rest e =
      subst (SelectThose wide) (sym (fold-append (with_selector all) (λ n. None) front (d ∷ []))) (record { found = is_found; missing = is_missing })
    where
      is_found : (n : List ℕ) (c : DeclaredType) → declared_at n wide ≡ Some c → Selects (with_selector all (selectors_of all front) d) n c
      is_found n c there = by_option (declared_at n front) refl
        where
          by_option : (o : Option DeclaredType) → declared_at n front ≡ o → Selects (with_selector all (selectors_of all front) d) n c
          by_option (Some b) is = earlier all rest e n b c is there
          by_option None is = itself all rest e n c is (sym (at_end n is) ∙ there)

      is_missing : (n : List ℕ) → declared_at n wide ≡ None → with_selector all (selectors_of all front) d n ≡ None
      is_missing n there = by_option (declared_at n front) refl
        where
          by_option : (o : Option DeclaredType) → declared_at n front ≡ o → with_selector all (selectors_of all front) d n ≡ None
          by_option (Some b) is = let clash : Some b ≡ None = sym (declared_more n front (d ∷ []) b is) ∙ there in absurd (cc)
          by_option None is = by_test (same_name d.name n) refl
            where
              by_test : (b : Bool) → same_name d.name n ≡ b → with_selector all (selectors_of all front) d n ≡ None
              by_test true named = let clash : Some d ≡ None = sym (at_end n is ∙ rw named refl) ∙ there in absurd (cc)
              by_test false named =
                  rw (with_selector, (fronts all (d ∷ rest) (e ∙ append_assoc front (d ∷ []) rest)).missing n is, named) refl

module _ (ds : List DeclaredType) (is_typed : AreTypedTypes ds) where
  walked : (front rest : List DeclaredType) → ds ≡ front ++ rest → FrontSelects front → FrontSelects ds
  walked front [] e s = subst FrontSelects (sym (e ∙ append-nil front)) s
  walked front (d ∷ rest) e s =
      let next : ds ≡ (front ++ (d ∷ [])) ++ rest = e ∙ sym (append_assoc front (d ∷ []) rest) in
      walked (front ++ (d ∷ [])) rest next (one_more front d (first_typed (front ++ (d ∷ [])) rest (subst AreTypedTypes next is_typed)) s)

  pub all_select : FrontSelects ds
  all_select = walked [] ds refl (λ all rest e. record { found = λ n d is. absurd (cc); missing = λ n is. refl })

-- a selector that is there stays
pub stays : (all xs : List DeclaredType) (s : Selectors) (n : List ℕ) (f : List Val → Outcome Val) → s n ≡ Some f → fold (with_selector all) s xs n ≡ Some f
stays all [] s n f is = is
stays all (x ∷ xs) s n f is = stays all xs (with_selector all s x) n f (rw (with_selector, is) refl)

-- ---- the types behind a type

pub typed_types : (db : Database) → IsTyped db → AreTypedTypes db.types
typed_types db is = record { declared = is.declared; constrained = is.constrained; written = is.written.constraints }

pub cut_types_keep_constraints : CutTypesKeepConstraints
cut_types_keep_constraints db earlier later d vs is e h =
    let whole : AreTypedTypes ((earlier ++ (d ∷ [])) ++ later) =
    subst AreTypedTypes (e ∙ sym (append_assoc earlier (d ∷ []) later)) (typed_types db is) in
    let upto : AreTypedTypes (earlier ++ (d ∷ [])) = first_typed (earlier ++ (d ∷ [])) later whole in
    let before_it : AreTypedTypes earlier = first_typed earlier (d ∷ []) upto in
    let selects : SelectThose earlier (selectors_of db.types earlier) = all_select earlier before_it db.types (d ∷ later) e in
    let small : AreComponentsOf earlier d vs = (
      h.0,
      parts_shrunk earlier (d ∷ later) before_it.declared (pack_parts vs) d.components (known_components earlier d.components (upto.declared earlier [] d refl).known)
          (subst (λ ds. AreOfTypes ds (pack_parts vs) d.components) e h.1),
    ) in
    constraint_same earlier d upto (world_of_types db.types earlier)
    (alike_in_more earlier d upto (world_of_types db.types earlier) (types_more earlier (d ∷ later) db.types (selectors_of db.types earlier) e selects)) vs small
