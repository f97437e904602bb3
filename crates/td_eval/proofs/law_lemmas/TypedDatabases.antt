-- The world of a typed database: each relvar has a value of its type, and each selector keeps its type.
use Rattle.std.proofs.Common.{◌≡◌, ◌∙◌, ◌++◌, ℕ, Bool, true, false, List, [], ◌∷◌, Option, Some, None, append-nil, append_assoc, ap, fold, map, not, refl, subst, sym}
use Rattle.std.specs.Cmp.Lexicographic.{same_text}
use Rattle.std.specs.List.{AllByRecursion, zip}
use Rattle.std.specs.Prelude.{⊤, is_some}
use Rattle.td_algebra.proofs.Lists.{contains_none}
use Rattle.td_algebra.proofs.Entries.{names-heading}
use Rattle.td_catalog.specs.model.Database.{BaseRelvar, Database, VirtualRelvar, base_among, database_scope, known_base, known_virtual}
use Rattle.td_catalog.specs.model.TypedDatabases.{EachAfter, IsConstrained, IsTyped, IsTypedBase, IsTypedVirtual}
use Rattle.td_catalog.specs.model.WrittenDefinitions.{DefinitionsAreWritten}
use Rattle.td_check.specs.model.OperatorTypes.{are_types_of, if_type, same_type}
use Rattle.td_check.specs.declared.scope.Kind.TheVariants as kinds
use Rattle.td_check.specs.model.Scopes.{KnownRelvar, Scope, alone_with, known_relvar, relvar_in, scope_of, with_known_relvar}
use Rattle.td_check.specs.model.StatementTypes.{constraint_fits}
use Rattle.td_check.specs.laws.StaticLaws.{IsKnownHeading}
use Rattle.td_check.specs.model.StaticTypes.{type_of}
use Rattle.td_check.proofs.ScopeLaws.{scopes_are_kept}
use Rattle.td_check.proofs.StaticLaws.{types_are_known}
use Rattle.td_tree.specs.declared.cause.Cause.TheVariants as causes
use Rattle.td_tree.specs.model.Names.{IsName}
use Rattle.td_tree.specs.model.Outcomes.{Outcome, Valued, Refused, value_if, with_value}
use Rattle.td_tree.specs.model.Trees.{Tree}
use Rattle.td_types.specs.model.Headings.{are_distinct, heading_from}
use Rattle.td_types.specs.model.TypeLists.{AreDeclared, AreKnown, DeclaredType, IsDeclarable, IsKnown, declared_at, is_declared, ConstraintsAreWritten}
use Rattle.td_types.specs.code.TypeOrder.{type_eq-Decides}
use Rattle.td_types.specs.model.Types.{Attribute, Attrs, Heading, Type', attr, attribute_names, no_attrs, pack, same_name}
use Rattle.td_types.specs.model.Types as types
use Rattle.td_types.proofs.DeclaredTypes.{AreDeclared-front, IsKnown-earlier, declarable_at, declared_at-itself, declared_at-later, found, stands_in}
use Rattle.td_types.proofs.KnownTypes.{declared_more}
use Rattle.td_types.proofs.OutcomeLaws.{value_of_test, value_of_with}
use Rattle.td_types.proofs.Ranks.{known_components}
use Rattle.td_value.specs.model.KnownValues.{AreOfTypes, HasHeading, HasType, HaveHeading}
use Rattle.td_value.specs.model.Values.{Val, boolean, integer, char, relation_value, user, tuple, relation, AreValues, Fields, no_fields, field, Parts, no_parts, part, Rows, no_rows, row, Tuple, heading_of, made_tuple, pack_parts, selected_value, tuple_names, tuple_of, user_view}
use Rattle.td_value.specs.model.Values as values
use Rattle.td_value.proofs.KnownValues.{has_its_type, kept}
use Rattle.td_eval.specs.model.DatabaseWorlds.{Selectors, constraint_value, selector_value, selectors_of, types_alone, with_selector, with_virtual_value, world_of}
use Rattle.td_eval.specs.model.OperatorValues.{truth_value}
use Rattle.td_eval.specs.model.TreeValues.{value_of}
use Rattle.td_eval.specs.laws.ValueTypes.{AreComponentsOf, IsOfType, KeepsScope, KeepsType, TypedDatabasesKeepScopes}
use Rattle.td_eval.specs.model.Worlds.{World}
use Rattle.td_eval.proofs.code_lemmas.KeepsGathered.{Keeps, all_from_members, one_dynamic}
use Rattle.td_eval.proofs.law_lemmas.KnownRelvars.{fronted, never_none, of_front, one_more_scope, one_more_world, relvar_behind, relvar_more, some_one, unknown_lacks}
use Rattle.td_eval.proofs.code_lemmas.TypedRows.{IsTypedEntry, made_typed, own_type}
use Rattle.td_eval.proofs.code_lemmas.TypedTrees.{values_keep_types}
use Rattle.td_eval.proofs.code_lemmas.TypedValues.{truth_of, type_is}
use Rattle.td_eval.proofs.code_lemmas.WorldParts.{world_scope}
use Rattle.td_tree.specs.model.WrittenTrees.{IsWritten}

-- ---- a value of a type that is known to the first types is one where they alone are declared

module _ (ds more : List DeclaredType) (a : AreDeclared ds) where
  pub components_known : (n : List ℕ) (d : DeclaredType) → declared_at n ds ≡ Some d → AreKnown ds (pack d.components)
  components_known n d e =
      let at = stands_in n ds d e in
      let declared = declarable_at n ds d a at in
      known_components ds d.components
      (λ c there. subst (λ xs. IsKnown xs c.1) (sym at.2) (IsKnown-earlier at.0 (d ∷ at.1) c.1 (declared.known c there)))

  pub some_same : (c d : DeclaredType) → Some c ≡ Some d → c ≡ d
  some_same c d e = cc

  mutual
    pub shrunk : (v : Val) (t : Type') → HasType (ds ++ more) v t → IsKnown ds t → HasType ds v t
    shrunk (boolean b) t h k = h
    shrunk (integer z) t h k = h
    shrunk (char s) t h k = h
    shrunk (user n ps) t h k =
        let d = found n ds (subst (IsKnown ds) h.0 k) in
        let same : h.1 ≡ d.0 = some_same h.1 d.0 (sym h.2 ∙ declared_more n ds more d.0 d.1) in
        (h.0, d.0, d.1, parts_shrunk ps d.0.components (components_known n d.0 d.1) (subst (λ (c : DeclaredType). AreOfTypes (ds ++ more) ps c.components) same h.3))
    shrunk (tuple fs) t h k = (h.0, h.1, fields_shrunk fs h.0 (subst (IsKnown ds) h.1 k) h.2)
    shrunk (relation g rs) t h k = let known = subst (IsKnown ds) h.0 k in (h.0, known, rows_shrunk rs g known h.2)

    parts_shrunk : (ps : Parts) (cs : List Attribute) → AreKnown ds (pack cs) → AreOfTypes (ds ++ more) ps cs → AreOfTypes ds ps cs
    parts_shrunk no_parts [] k h = tt
    parts_shrunk no_parts (c ∷ cs) k h = h
    parts_shrunk (part v ps) [] k h = h
    parts_shrunk (part v ps) (c ∷ cs) k h = (shrunk v c.1 h.0 k.0, parts_shrunk ps cs k.1 h.1)

    fields_shrunk : (fs : Fields) (g : Attrs) → AreKnown ds g → HasHeading (ds ++ more) fs g → HasHeading ds fs g
    fields_shrunk no_fields no_attrs k h = tt
    fields_shrunk no_fields (attr m t g) k h = h
    fields_shrunk (field n v fs) no_attrs k h = h
    fields_shrunk (field n v fs) (attr m t g) k h = (h.0, shrunk v t h.1 k.0, fields_shrunk fs g k.1 h.2)

    rows_shrunk : (rs : Rows) (g : Attrs) → AreKnown ds g → HaveHeading (ds ++ more) rs g → HaveHeading ds rs g
    rows_shrunk no_rows g k h = tt
    rows_shrunk (row fs rs) g k h = (fields_shrunk fs g k h.0, rows_shrunk rs g k h.1)

  pub grown : (t : Type') (o : Outcome Val) → KeepsType ds (Valued t) o → KeepsType (ds ++ more) (Valued t) o
  grown t (Valued v) k = (k.0, kept ds more v t k.1)
  grown t (Refused cs) k = k

-- ---- selectors

is_false : (b : Bool) → not b ≡ true → b ≡ false
is_false true e = absurd (cc)
is_false false e = refl

pub types_fit : (ds : List DeclaredType) (vs : List Val) (cs : List Attribute) → AreOfTypes ds (pack_parts vs) cs → are_types_of (map values.type_of vs) cs ≡ true
types_fit ds [] [] h = refl
types_fit ds [] (c ∷ cs) h = absurd h
types_fit ds (v ∷ vs) [] h = absurd h
types_fit ds (v ∷ vs) (c ∷ cs) h =
    rw ((type_eq-Decides (values.type_of v) c.1).1 (has_its_type ds v c.1 h.0)) (types_fit ds vs cs h.1)

zipped : (ds : List DeclaredType) (cs : List Attribute) (vs : List Val) → AllByRecursion (λ (c : Attribute). IsName c.0) cs → AreValues (pack_parts vs)
    → AreOfTypes ds (pack_parts vs) cs
    → (heading_of (zip (attribute_names cs) vs) ≡ cs) × AllByRecursion (IsTypedEntry ds) (zip (attribute_names cs) vs)
zipped ds [] [] n p h = (refl, tt)
zipped ds [] (v ∷ vs) n p h = absurd h
zipped ds (c ∷ cs) [] n p h = absurd h
zipped ds (c ∷ cs) (v ∷ vs) n p h =
    let rest = zipped ds cs vs n.1 p.1 h.1 in
    let first = has_its_type ds v c.1 h.0 in
    ((λ i. (c.0, first i) ∷ rest.0 i), ((n.0, own_type ds v c.1 (p.0, h.0)), rest.1))

a_truth : (ds : List DeclaredType) (o : Outcome Val) → KeepsType ds (Valued types.boolean) o → Keeps (λ _. ⊤) (truth_value o)
a_truth ds (Valued v) k = let e = truth_of ds v k.1 in rw e.1 tt
a_truth ds (Refused cs) k = k

holding : (ds : List DeclaredType) (t : Type') (v : Val) (o : Outcome Bool) → IsOfType ds v t → Keeps (λ _. ⊤) o
    → KeepsType ds (Valued t) (with_value o (λ holds. value_if holds v causes.TypeConstraint))
holding ds t v (Valued true) h k = h
holding ds t v (Valued false) h k = one_dynamic causes.TypeConstraint tt
holding ds t v (Refused cs) h k = k

module _ (w : World) (front : List DeclaredType) (d : DeclaredType) (a : AreDeclared front) (k : KeepsScope w (scope_of front)) (new : IsDeclarable front d)
    (constrained : IsConstrained front d) (written : (e : Tree) → d.constraint ≡ Some e → IsWritten e) where
  constraint_keeps : (vs : List Val) → AreComponentsOf front d vs → Keeps (λ _. ⊤) (constraint_value w d vs)
  constraint_keeps vs h = by_option d.constraint refl
    where
      es : Tuple
      es = zip (attribute_names d.components) vs

      of_tree : (e : Tree) → d.constraint ≡ Some e → Keeps (λ _. ⊤) (with_value (made_tuple (zip (attribute_names d.components) vs)) (λ t. truth_value (value_of w (t ∷ []) e)))
      of_tree e is =
          let entries = zipped front d.components vs (all_from_members (λ (c : Attribute). IsName c.0) d.components new.names) h.0 h.1 in
          let u = zip (attribute_names d.components) vs in
          let distinct : are_distinct (tuple_names u) ≡ true = ap are_distinct (sym (names-heading u) ∙ ap attribute_names entries.0) ∙ new.distinct in
          let made = made_typed front u distinct entries.1 in
          let head : heading_of (tuple_of u) ≡ heading_from d.components = made.1 ∙ ap heading_from entries.0 in
          let fits : with_value (type_of (alone_with (heading_from d.components) (scope_of front)) e) (λ t. if_type types.boolean t tt) ≡ Valued tt =
          subst (λ o. constraint_fits (scope_of front) d.components o ≡ Valued tt) is constrained in
          let asked = value_of_with (type_of (alone_with (heading_from d.components) (scope_of front)) e) (λ t. if_type types.boolean t tt) tt fits in
          let boolean_is = type_is asked.0 types.boolean (value_of_test (same_type asked.0 types.boolean) tt tt causes.TypeMismatch asked.2).0 in
          let value = values_keep_types w (scope_of front) (tuple_of u ∷ []) e k (made.0, tt) (written e is) in
          rw distinct (a_truth front (value_of w (tuple_of u ∷ []) e)
          (subst (λ o. KeepsType front o (value_of w (tuple_of u ∷ []) e))
          (ap (λ g. type_of (alone_with g (scope_of front)) e) head ∙ asked.1 ∙ ap Valued boolean_is) value))

      by_option : (o : Option Tree) → d.constraint ≡ o → Keeps (λ _. ⊤) (constraint_value w d vs)
      by_option (Some e) is = rw is (of_tree e is)
      by_option None is = rw is tt

  pub selector_keeps : (vs : List Val) → AreComponentsOf (front ++ (d ∷ [])) d vs → KeepsType (front ++ (d ∷ [])) (Valued (types.user d.name)) (selector_value w d vs)
  selector_keeps vs h =
      let known = known_components front d.components new.known in
      let small = parts_shrunk front (d ∷ []) a (pack_parts vs) d.components known h.1 in
      let itself = declared_at-itself front d [] (is_false (is_declared d.name front) new.new) in
      rw (types_fit (front ++ (d ∷ [])) vs d.components h.1)
      (holding (front ++ (d ∷ [])) (types.user d.name) (selected_value (user_view d.name vs)) (constraint_value w d vs)
      ((new.named, h.0), (refl, d, itself, h.1)) (constraint_keeps vs (h.0, small)))

-- ---- the types in their order

-- each type that is known has a selector that keeps it, and no other has one
record AreSelectors (front : List DeclaredType) (selectors : Selectors) : Type 0 where
  found :
      (n : List ℕ) (d : DeclaredType) → declared_at n front ≡ Some d
      → (f : List Val → Outcome Val) × (selectors n ≡ Some f)
      × ((vs : List Val) → AreComponentsOf front d vs → KeepsType front (Valued (types.user n)) (f vs))
  missing : (n : List ℕ) → declared_at n front ≡ None → selectors n ≡ None

pub all_at : {A : Type 0} (P : A → Type 0) (front : List A) (x : A) (rest : List A) → AllByRecursion P (front ++ (x ∷ rest)) → P x
all_at P [] x rest h = h.0
all_at P (y ∷ front) x rest h = all_at P front x rest h.1

module _ (all : List DeclaredType) (declared : AreDeclared all) (constrained : EachAfter IsConstrained all)
    (written : ConstraintsAreWritten all) where
  module _ (front : List DeclaredType) (d : DeclaredType) (rest : List DeclaredType) (e : all ≡ front ++ (d ∷ rest)) (selectors : Selectors)
      (s : AreSelectors front selectors) where
    front_declared : AreDeclared front
    front_declared = AreDeclared-front front (d ∷ rest) (subst AreDeclared e declared)

    front_kept : KeepsScope (types_alone all selectors) (scope_of front)
    front_kept =
        record {
          scope_is = scopes_are_kept.of_types front front_declared;
          types = (d ∷ rest, e);
          known = refl;
          relvars = λ n r is. absurd (cc);
          selectors = s.found;
        }

    new_keeps : (vs : List Val) → AreComponentsOf (front ++ (d ∷ [])) d vs
        → KeepsType (front ++ (d ∷ [])) (Valued (types.user d.name)) (selector_value (types_alone all selectors) d vs)
    new_keeps =
        selector_keeps (types_alone all selectors) front d front_declared front_kept (declared front rest d e) (constrained front rest d e)
        (all_at (λ (c : DeclaredType). (t : Tree) → c.constraint ≡ Some t → IsWritten t) front d rest (subst ConstraintsAreWritten e written))

    abbrev Selects : List ℕ → DeclaredType → Type 0
    Selects n c =
        (f : List Val → Outcome Val) × (with_selector all selectors d n ≡ Some f)
        × ((vs : List Val) → AreComponentsOf (front ++ (d ∷ [])) c vs → KeepsType (front ++ (d ∷ [])) (Valued (types.user n)) (f vs))

    earlier_found : (n : List ℕ) (b c : DeclaredType) → declared_at n front ≡ Some b → declared_at n (front ++ (d ∷ [])) ≡ Some c → Selects n c
    earlier_found n b c is there =
        let same : b ≡ c = some_same front (d ∷ []) front_declared b c (sym (declared_more n front (d ∷ []) b is) ∙ there) in
        let x = s.found n b is in
        subst (Selects n) same (
          x.0,
          rw (with_selector, x.1) refl,
          λ vs h. grown front (d ∷ []) front_declared (types.user n) (x.0 vs) (x.2 vs (
            h.0,
            parts_shrunk front (d ∷ []) front_declared (pack_parts vs) b.components (components_known front (d ∷ []) front_declared n b is) h.1,
          )),
        )

    later_found : (n : List ℕ) (c : DeclaredType) → declared_at n front ≡ None → declared_at n (d ∷ []) ≡ Some c → Selects n c
    later_found n c is there = by_test (same_name d.name n) refl
      where
        by_test : (b : Bool) → same_name d.name n ≡ b → Selects n c
        by_test true e =
            let same : d ≡ c = some_same front (d ∷ []) front_declared d c (rw e refl ∙ there) in
            let named : d.name ≡ n = same_text d.name n (sym e) in
            subst (Selects n) same (
              selector_value (types_alone all selectors) d,
              rw (with_selector, s.missing n is, e) refl,
              λ vs h. subst (λ m. KeepsType (front ++ (d ∷ [])) (Valued (types.user m)) (selector_value (types_alone all selectors) d vs)) named (new_keeps vs h),
            )
        by_test false e = let none : None ≡ Some c = rw e refl ∙ there in absurd (cc)

    none_later : (n : List ℕ) → declared_at n front ≡ None → declared_at n (front ++ (d ∷ [])) ≡ declared_at n (d ∷ [])
    none_later n is = declared_at-later n front (d ∷ []) (ap is_some is)

    step : AreSelectors (front ++ (d ∷ [])) (with_selector all selectors d)
    step = record { found = step_found; missing = step_missing }
      where
        step_found : (n : List ℕ) (c : DeclaredType) → declared_at n (front ++ (d ∷ [])) ≡ Some c → Selects n c
        step_found n c there = by_option (declared_at n front) refl
          where
            by_option : (o : Option DeclaredType) → declared_at n front ≡ o → Selects n c
            by_option (Some b) is = earlier_found n b c is there
            by_option None is = later_found n c is (sym (none_later n is) ∙ there)

        step_missing : (n : List ℕ) → declared_at n (front ++ (d ∷ [])) ≡ None → with_selector all selectors d n ≡ None
        step_missing n there = by_option (declared_at n front) refl
          where
            by_option : (o : Option DeclaredType) → declared_at n front ≡ o → with_selector all selectors d n ≡ None
            by_option (Some b) is = let clash : Some b ≡ None = sym (declared_more n front (d ∷ []) b is) ∙ there in absurd (cc)
            by_option None is = by_test (same_name d.name n) refl
              where
                by_test : (b : Bool) → same_name d.name n ≡ b → with_selector all selectors d n ≡ None
                by_test true e = let clash : Some d ≡ None = sym (none_later n is ∙ rw e refl) ∙ there in absurd (cc)
                by_test false e = rw (with_selector, s.missing n is, e) refl

  walked : (front rest : List DeclaredType) (selectors : Selectors) → all ≡ front ++ rest → AreSelectors front selectors
      → AreSelectors all (fold (with_selector all) selectors rest)
  walked front [] selectors e s = subst (λ xs. AreSelectors xs selectors) (sym (e ∙ append-nil front)) s
  walked front (d ∷ rest) selectors e s =
      walked (front ++ (d ∷ [])) rest (with_selector all selectors d) (e ∙ sym (append_assoc front (d ∷ []) rest)) (step front d rest e selectors s)

  all_selectors : AreSelectors all (selectors_of all all)
  all_selectors = walked [] all (λ n. None) refl (record { found = λ n d e. absurd (cc); missing = λ n e. refl })

-- ---- base relvars

base_known : (ds : List DeclaredType) (n : List ℕ) (bs : List BaseRelvar) (r : KnownRelvar) → AllByRecursion (IsTypedBase ds) bs
    → relvar_in n (map known_base bs) ≡ Some r → (b : BaseRelvar) × (base_among n bs ≡ Some b) × (known_base b ≡ r) × IsTypedBase ds b
base_known ds n [] r h e = absurd (cc)
base_known ds n (b ∷ bs) r h e = by_test (same_name b.name n) refl (base_known ds n bs r h.1)
  where
    by_test : (t : Bool) → same_name b.name n ≡ t
        → (relvar_in n (map known_base bs) ≡ Some r → (b : BaseRelvar) × (base_among n bs ≡ Some b) × (known_base b ≡ r) × IsTypedBase ds b)
        → (c : BaseRelvar) × (base_among n (b ∷ bs) ≡ Some c) × (known_base c ≡ r) × IsTypedBase ds c
    by_test true is rest = let found : Some (known_base b) ≡ Some r = sym (rw is refl) ∙ e in let same : known_base b ≡ r = cc in (b, rw is refl, same, h.0)
    by_test false is rest = let x = rest (rw is at e) in (x.0, rw is x.1, x.2, x.3)

-- ---- virtual relvars

-- the scope where these headings are in hand
abbrev in_hand : Scope → List Heading → Scope
in_hand scope hs = record { types = scope.types; relvars = scope.relvars; constraints = scope.constraints; entered = hs }

-- one more, of an expression that has its relation type there, in a world where what is not known has no value
module _ (w : World) (scope : Scope) (v : VirtualRelvar) (k : KeepsScope w scope) (alone : scope.entered ≡ [])
    (unknown : (n : List ℕ) → known_relvar scope n ≡ None → w.relvar n ≡ None) (is : IsTypedVirtual scope v) (written : IsWritten v.tree) where
  abbrev wider : Scope
  wider = with_known_relvar v.name kinds.Virtual v.heading scope

  abbrev HasItsValue : List ℕ → KnownRelvar → Type 0
  HasItsValue n r = (o : Outcome Val) × ((with_virtual_value w v).relvar n ≡ Some o) × KeepsType scope.types (Valued (types.relation (pack r.heading))) o

  its_value : KeepsType scope.types (Valued (types.relation (pack v.heading))) (value_of w [] v.tree)
  its_value =
      subst (λ o. KeepsType scope.types o (value_of w [] v.tree))
      (ap (λ hs. type_of (in_hand scope hs) v.tree) (sym alone) ∙ is.typed) (values_keep_types w scope [] v.tree k tt written)

  one_more_virtual : KeepsScope (with_virtual_value w v) wider
  one_more_virtual =
      record {
        scope_is = scopes_are_kept.one_relvar v.name kinds.Virtual v.heading scope k.scope_is known_heading;
        types = k.types;
        known = ap (λ ks. ks ++ (known_virtual v ∷ [])) k.known;
        relvars = λ n r e. by_option n r e (known_relvar scope n) refl;
        selectors = k.selectors;
      }
    where
      known_heading : IsKnownHeading scope.types v.heading
      known_heading = ((types_are_known.of_tree scope v.tree (types.relation (pack v.heading)) k.scope_is written.0 is.typed).0, is.known)

      new : (n : List ℕ) (r : KnownRelvar) → known_relvar scope n ≡ None → known_relvar wider n ≡ Some r → (b : Bool) → same_name v.name n ≡ b → HasItsValue n r
      new n r none e true named =
          let same : known_virtual v ≡ r = some_one (known_virtual v) r (sym (relvar_behind n scope.relvars (known_virtual v ∷ []) none ∙ rw named refl) ∙ e) in
          subst (HasItsValue n) same (value_of w [] v.tree, rw (unknown n none, named) refl, its_value)
      new n r none e false named =
          never_none r (known_relvar wider n) e (relvar_behind n scope.relvars (known_virtual v ∷ []) none ∙ rw named refl)

      by_option : (n : List ℕ) (r : KnownRelvar) → known_relvar wider n ≡ Some r → (o : Option KnownRelvar) → known_relvar scope n ≡ o → HasItsValue n r
      by_option n r e None none = new n r none e (same_name v.name n) refl
      by_option n r e (Some q) there =
          let same : q ≡ r = some_one q r (sym (relvar_more n scope.relvars (known_virtual v ∷ []) q there) ∙ e) in
          let x = k.relvars n q there in
          subst (HasItsValue n) same (x.0, rw x.1 refl, x.2)

-- ---- databases

module _ (db : Database) (is_typed : IsTyped db) where
  abbrev FrontKeeps : List VirtualRelvar → Type 0
  FrontKeeps front = KeepsScope (world_of (fronted db front)) (database_scope (fronted db front))

  bases_keep : FrontKeeps []
  bases_keep =
      record {
        scope_is = record {
          declared = is_typed.declared;
          relvars = λ n r e.
              let b = base_known db.types n db.bases r is_typed.bases (of_bases n r e) in
              subst (λ (q : KnownRelvar). IsKnownHeading db.types q.heading) b.2 (b.3.relation.2, b.3.known);
          entered = λ h c. absurd (contains_none h c);
        };
        types = ([], sym (append-nil db.types));
        known = refl;
        relvars = λ n r e.
            let b = base_known db.types n db.bases r is_typed.bases (of_bases n r e) in (
              Valued (relation_value b.0.relation),
              rw b.1 refl,
              subst (λ (q : KnownRelvar). KeepsType db.types (Valued (types.relation (pack q.heading))) (Valued (relation_value b.0.relation))) b.2
                  (b.3.relation, (refl, b.3.known, b.3.typed)),
            );
        selectors = (all_selectors db.types is_typed.declared is_typed.constrained is_typed.written.constraints).found;
      }
    where
      of_bases : (n : List ℕ) (r : KnownRelvar) → relvar_in n (map known_base db.bases ++ []) ≡ Some r → relvar_in n (map known_base db.bases) ≡ Some r
      of_bases n r e = ap (relvar_in n) (sym (append-nil (map known_base db.bases))) ∙ e

  next_keeps : (front rest : List VirtualRelvar) (v : VirtualRelvar) → db.virtuals ≡ front ++ (v ∷ rest) → FrontKeeps front → FrontKeeps (front ++ (v ∷ []))
  next_keeps front rest v e k =
      subst (λ w. KeepsScope w (database_scope (fronted db (front ++ (v ∷ []))))) (sym (one_more_world db front v))
      (subst (KeepsScope (with_virtual_value (world_of (fronted db front)) v)) (sym (one_more_scope db front v))
      (one_more_virtual (world_of (fronted db front)) (database_scope (fronted db front)) v k refl (unknown_lacks (fronted db front))
      (is_typed.virtuals front rest v e) (all_at (λ (u : VirtualRelvar). IsWritten u.tree) front v rest (subst (AllByRecursion (λ (u : VirtualRelvar). IsWritten u.tree)) e is_typed.written.virtuals))))

  -- where the first virtual relvars alone are known
  pub fronts_keep : (front rest : List VirtualRelvar) → db.virtuals ≡ front ++ rest → FrontKeeps front
  fronts_keep = of_front FrontKeeps db.virtuals bases_keep next_keeps

  pub database_keeps : KeepsScope (world_of db) (database_scope db)
  database_keeps = fronts_keep db.virtuals [] (sym (append-nil db.virtuals))

pub typed_databases_keep_scopes : TypedDatabasesKeepScopes
typed_databases_keep_scopes db is_typed =
    subst (KeepsScope (world_of db)) (sym (world_scope db)) (database_keeps db is_typed)
