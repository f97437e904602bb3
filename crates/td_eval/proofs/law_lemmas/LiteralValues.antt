-- The tree that a value's literal spells has that value.
use Rattle.std.proofs.Common.{◌≡◌, ◌∙◌, ◌∷◌, ◌++◌, ℕ, ℤ, true, List, [], Option, Some, None, ap, arith, map, not, pos, negsuc, refl, subst, sym, true≢false}
use Rattle.std.specs.Prelude.{is_some}
use Rattle.std.specs.List.Sorted.{IsStrictlySortedBy}
use Rattle.std.proofs.lemmas.Bool.Decides.{nat_tests}
use Rattle.std.proofs.lemmas.Int.{ints}
use Rattle.std.proofs.lemmas.List.Sorted.{IsPermutation-refl}
use Rattle.td_algebra.proofs.Entries.{ascending_distinct}
use Rattle.td_catalog.specs.model.Database.{Database}
use Rattle.td_check.specs.model.OperatorTypes.{are_types_of}
use Rattle.td_check.specs.model.Scopes.{Scope}
use Rattle.td_tree.specs.declared.cause.Cause.TheVariants as causes
use Rattle.td_tree.specs.model.Outcomes.{Outcome, Valued, gathered, value_if, with_both, with_value}
use Rattle.td_tree.specs.model.Trees as trees
use Rattle.td_types.specs.model.TypeLists.{AreDeclared, DeclaredType, declared_at}
use Rattle.td_types.specs.model.Types.{Attribute, Attrs, Type', attr, no_attrs, unpack}
use Rattle.td_types.proofs.DeclaredTypes.{stands_in}
use Rattle.td_types.proofs.DistinctNames.{name_cmp}
use Rattle.td_types.proofs.HeadingLaws.{same_name-itself}
use Rattle.td_types.proofs.Meanings.{pack_unpack}
use Rattle.td_types.proofs.OutcomeLaws.{value_of_test, value_of_with}
use Rattle.td_value.proofs.Packed.{pack_unpack_fields, pack_unpack_rows}
use Rattle.td_value.specs.model.KnownValues.{AreOfTypes, HasHeading, HasType, HaveHeading}
use Rattle.td_value.specs.laws.LiteralTrees.{field_trees, literal_tree, part_trees, row_trees}
use Rattle.td_value.specs.model.Sets.{set_of}
use Rattle.td_value.specs.code.ValueOrder.{tuple_order_same, tuple_order_total}
use Rattle.td_value.specs.model.Values.{Val, boolean, integer, char, is_in_range, user, tuple, relation, AreFields, AreRows, AreValues, Fields, no_fields, field, IsAscendingBody, IsInRange, Parts, no_parts, part, Rows, no_rows, row, Tuple, pack_fields, pack_parts, pack_rows, relation_of, selected_value, tuple_cmp, tuple_names, tuple_of, unpack_fields, unpack_rows, user_view}
use Rattle.td_value.specs.model.Values as values
use Rattle.td_value.proofs.Maps.{sorted_is_tuple_of}
use Rattle.td_value.proofs.SetLaws.{is_set_of}
use Rattle.td_eval.specs.model.DatabaseWorlds.{constraint_value, selector_value, selectors_of, types_alone, world_of}
use Rattle.td_eval.specs.model.MetConstraints.{EachInFields, EachInParts, EachInRows, EachUserValue, MeetConstraint}
use Rattle.td_eval.specs.laws.LiteralValues.{LiteralsHaveTheirValues, Selects, SelectorsGiveWhatMeets, StoredLiteralsHaveTheirValues}
use Rattle.td_eval.specs.model.OperatorValues.{components_of, element_of, headed_value, of_relation, tuple_from}
use Rattle.td_eval.specs.model.TreeValues.{argument_values, entry_values, value_of}
use Rattle.td_eval.specs.model.Worlds.{World, selector_outcome}
use Rattle.td_eval.proofs.law_lemmas.LaterTypes.{selected_by}
use Rattle.td_eval.proofs.law_lemmas.LiteralTypes.{heading_means}
use Rattle.td_eval.proofs.law_lemmas.MentionedTypes.{chosen}
use Rattle.td_eval.proofs.law_lemmas.TypedDatabases.{types_fit}
use Rattle.td_eval.proofs.code_lemmas.TypedValues.{fields_heading, same_is}
use Rattle.td_eval.proofs.code_lemmas.WorldParts.{world_scope, world_selectors}

-- ---- numbers, tuples and relations

in_range : (z : ℤ) → IsInRange z → is_in_range z ≡ true
in_range (pos n) h = grind (arith, ints, nat_tests, h.1)
in_range (negsuc n) h = grind (arith, ints, nat_tests, h.0)

-- the tuple of a tuple's entries
tuple_from_fields : (fs : Fields) → IsStrictlySortedBy name_cmp (tuple_names (unpack_fields fs))
    → tuple_from (unpack_fields fs) ≡ Valued (tuple fs)
tuple_from_fields fs up =
    let itself : tuple_of (unpack_fields fs) ≡ unpack_fields fs =
    sym (sorted_is_tuple_of (unpack_fields fs) (unpack_fields fs) (IsPermutation-refl (unpack_fields fs)) up) in
    rw (ascending_distinct (tuple_names (unpack_fields fs)) up)
    (ap (λ t. Valued (tuple (pack_fields t))) itself ∙ ap (λ gs. Valued (tuple gs)) (pack_unpack_fields fs))

-- the tuples of a relation as values
abbrev tuples_as_values : Rows → List Val
tuples_as_values no_rows = []
tuples_as_values (row fs rs) = tuple fs ∷ tuples_as_values rs

elements_are : (ds : List DeclaredType) (rs : Rows) (g : Attrs) → HaveHeading ds rs g
    → gathered (map (element_of (unpack g)) (tuples_as_values rs)) ≡ Valued (unpack_rows rs)
elements_are ds no_rows g h = refl
elements_are ds (row fs rs) g h =
    rw (same_is _ (unpack g) (fields_heading ds fs g h.0))
    (ap (λ o. with_both (Valued (unpack_fields fs)) o (λ x xs. Valued (x ∷ xs))) (elements_are ds rs g h.1))

-- the relation of a relation's tuples
relation_from_rows : (ds : List DeclaredType) (g : Attrs) (rs : Rows) → HaveHeading ds rs g → IsAscendingBody (unpack_rows rs)
    → headed_value (unpack g) (tuples_as_values rs) ≡ Valued (relation g rs)
relation_from_rows ds g rs h up =
    let itself : set_of tuple_cmp (unpack_rows rs) ≡ unpack_rows rs =
    sym (is_set_of tuple_cmp tuple_order_total tuple_order_same (unpack_rows rs) (unpack_rows rs) up (λ t. refl)) in
    ap (λ o. with_value o (λ ts. of_relation (relation_of (unpack g) ts))) (elements_are ds rs g h)
    ∙ (λ i. Valued (relation (pack_unpack g i) (pack_rows (itself i))))
    ∙ ap (λ ss. Valued (relation g ss)) (pack_unpack_rows rs)

-- ---- values

abbrev first_of_values : Val → List Val → Outcome (List Val)
first_of_values v vs = Valued (v ∷ vs)

abbrev with_first : List ℕ → Val → Tuple → Outcome Tuple
with_first n v es = Valued ((n, v) ∷ es)

module _ (w : World) (s : List Tuple) where
  mutual
    value_is : (v : Val) (t : Type') → values.IsValue v → HasType w.scope.types v t → EachUserValue (Selects w) v
        → value_of w s (literal_tree v) ≡ Valued v
    value_is (boolean b) t p h m = refl
    value_is (integer (pos n)) t p h m = rw (in_range (pos n) p) refl
    value_is (integer (negsuc n)) t p h m = rw (in_range (negsuc n) p) refl
    value_is (char c) t p h m = refl
    value_is (user n ps) t p h m = ap (λ o. with_value o (selector_outcome w n)) (parts_are ps h.1.components p.1 h.3 m.1) ∙ m.0
    value_is (tuple fs) t p h m = ap (λ o. with_value o tuple_from) (fields_are fs h.0 p.0 h.2 m) ∙ tuple_from_fields fs p.1
    value_is (relation g rs) t p h m =
        ap (λ o. with_both o (argument_values w s (row_trees rs)) headed_value) (heading_means w.scope.types g p.2 h.1)
        ∙ ap (λ o. with_both (Valued (unpack g)) o headed_value) (rows_are g rs p.0 h.2 m)
        ∙ relation_from_rows w.scope.types g rs h.2 p.1

    parts_are : (ps : Parts) (cs : List Attribute) → AreValues ps → AreOfTypes w.scope.types ps cs → EachInParts (Selects w) ps
        → argument_values w s (part_trees ps) ≡ Valued (components_of ps)
    parts_are no_parts cs p h m = refl
    parts_are (part v ps) [] p h m = absurd h
    parts_are (part v ps) (c ∷ cs) p h m =
        ap (λ o. with_both o (argument_values w s (part_trees ps)) first_of_values) (value_is v c.1 p.0 h.0 m.0)
        ∙ ap (λ o. with_both (Valued v) o first_of_values) (parts_are ps cs p.1 h.1 m.1)

    fields_are : (fs : Fields) (g : Attrs) → AreFields fs → HasHeading w.scope.types fs g → EachInFields (Selects w) fs
        → entry_values w s (field_trees fs) ≡ Valued (unpack_fields fs)
    fields_are no_fields g p h m = refl
    fields_are (field n v fs) no_attrs p h m = absurd h
    fields_are (field n v fs) (attr k t g) p h m =
        ap (λ o. with_both o (entry_values w s (field_trees fs)) (with_first n)) (value_is v t p.1 h.1 m.0)
        ∙ ap (λ o. with_both (Valued v) o (with_first n)) (fields_are fs g p.2 h.2 m.1)

    rows_are : (g : Attrs) (rs : Rows) → AreRows g rs → HaveHeading w.scope.types rs g → EachInRows (Selects w) rs
        → argument_values w s (row_trees rs) ≡ Valued (tuples_as_values rs)
    rows_are g no_rows p h m = refl
    rows_are g (row fs rs) p h m =
        let first : value_of w s (trees.tuple (field_trees fs)) ≡ Valued (tuple fs) =
        ap (λ o. with_value o tuple_from) (fields_are fs g p.0.0 h.0 m.0) ∙ tuple_from_fields fs p.0.1 in
        ap (λ o. with_both o (argument_values w s (row_trees rs)) first_of_values) first
        ∙ ap (λ o. with_both (Valued (tuple fs)) o first_of_values) (rows_are g rs p.1 h.1 m.1)

pub literals_have_their_values : LiteralsHaveTheirValues
literals_have_their_values w s v t p h m = value_is w s v t p h m

-- ---- what a selector gives

-- is the user value of its components, which are of the types of the type's own and meet its constraint
pub selector_gives : (w : World) (d : DeclaredType) (vs : List Val) (v : Val) → selector_value w d vs ≡ Valued v
    → (v ≡ user d.name (pack_parts vs)) × (constraint_value w d vs ≡ Valued true)
    × (are_types_of (map values.type_of vs) d.components ≡ true)
selector_gives w d vs v e =
    let given = value_of_with
    (value_if (are_types_of (map values.type_of vs) d.components) (user_view d.name vs) causes.TypeMismatch)
    (λ u. with_value (constraint_value w d vs) (λ holds. value_if holds (selected_value u) causes.TypeConstraint)) v e in
    let fit = value_of_test (are_types_of (map values.type_of vs) d.components) (user_view d.name vs) given.0
    causes.TypeMismatch given.1 in
    let asked = value_of_with (constraint_value w d vs)
    (λ holds. value_if holds (selected_value given.0) causes.TypeConstraint) v given.2 in
    let met = value_of_test asked.0 (selected_value given.0) v causes.TypeConstraint asked.2 in
    (sym met.1 ∙ ap selected_value (sym fit.1), asked.1 ∙ ap Valued met.0, fit.0)

-- where they are and do, it gives that
pub selector_of_met : (w : World) (d : DeclaredType) (vs : List Val) → are_types_of (map values.type_of vs) d.components ≡ true
    → constraint_value w d vs ≡ Valued true → selector_value w d vs ≡ Valued (user d.name (pack_parts vs))
selector_of_met w d vs fit met = rw (selector_value, fit, met) refl

pub packed_components : (ps : Parts) → pack_parts (components_of ps) ≡ ps
packed_components no_parts = refl
packed_components (part v ps) = ap (part v) (packed_components ps)

-- ---- declared types

module _ (ds : List DeclaredType) (declared : AreDeclared ds) where
  -- no earlier type has the name of a declared one
  none_earlier : (earlier later : List DeclaredType) (d : DeclaredType) → ds ≡ earlier ++ (d ∷ later)
      → declared_at d.name earlier ≡ None
  none_earlier earlier later d e = by_option (declared_at d.name earlier) refl
    where
      by_option : (o : Option DeclaredType) → declared_at d.name earlier ≡ o → declared_at d.name earlier ≡ None
      by_option None is = is
      by_option (Some b) is = absurd (true≢false (sym (declared earlier later d e).new ∙ ap not (ap is_some is)))

  -- what the selector of a declared type gives
  pub own_selector : (earlier later : List DeclaredType) (d : DeclaredType) → ds ≡ earlier ++ (d ∷ later) → (vs : List Val)
      → selector_outcome (types_alone ds (selectors_of ds ds)) d.name vs
      ≡ selector_value (types_alone ds (selectors_of ds earlier)) d vs
  own_selector earlier later d e vs =
      chosen ds earlier later d d.name e (none_earlier earlier later d e) (same_name-itself d.name) vs

  -- a user value that meets the constraint of its type is what the selector gives
  given_of_met : (n : List ℕ) (ps : Parts) (d : DeclaredType) → declared_at n ds ≡ Some d → AreOfTypes ds ps d.components
      → MeetConstraint ds n ps → selector_outcome (types_alone ds (selectors_of ds ds)) n (components_of ps) ≡ Valued (user n ps)
  given_of_met n ps d is h met =
      let at = stands_in n ds d is in
      let vs = components_of ps in
      let earlier = at.0 in
      let w = types_alone ds (selectors_of ds earlier) in
      let fit = types_fit ds vs d.components (subst (λ qs. AreOfTypes ds qs d.components) (sym (packed_components ps)) h) in
      subst (λ k. selector_outcome (types_alone ds (selectors_of ds ds)) k vs ≡ Valued (user k ps)) at.3
      (own_selector earlier at.1 d at.2 vs ∙ selector_of_met w d vs fit (met earlier at.1 d at.2 at.3)
      ∙ ap (λ qs. Valued (user d.name qs)) (packed_components ps))

  -- what a selector gives meets the constraint
  pub met_of_given : (n : List ℕ) (vs : List Val) (v : Val) → selector_outcome (types_alone ds (selectors_of ds ds)) n vs ≡ Valued v
      → (earlier later : List DeclaredType) (d : DeclaredType) → ds ≡ earlier ++ (d ∷ later) → d.name ≡ n
      → constraint_value (types_alone ds (selectors_of ds earlier)) d vs ≡ Valued true
  met_of_given n vs v gives earlier later d e named =
      let given : selector_value (types_alone ds (selectors_of ds earlier)) d vs ≡ Valued v =
      sym (own_selector earlier later d e vs)
      ∙ subst (λ k. selector_outcome (types_alone ds (selectors_of ds ds)) k vs ≡ Valued v) (sym named) gives in
      (selector_gives (types_alone ds (selectors_of ds earlier)) d vs v given).1

-- what follows, for a user value of a type, from two things that hold of it, holds of each in a value of a type
module _ (ds : List DeclaredType) (P R Q : List ℕ → Parts → Type 0)
    (f : (n : List ℕ) (ps : Parts) (d : DeclaredType) → declared_at n ds ≡ Some d → AreOfTypes ds ps d.components
    → P n ps → R n ps → Q n ps) where
  mutual
    pub each : (v : Val) (t : Type') → HasType ds v t → EachUserValue P v → EachUserValue R v → EachUserValue Q v
    each (boolean b) t h m r = tt
    each (integer z) t h m r = tt
    each (char s) t h m r = tt
    each (user n ps) t h m r = (f n ps h.1 h.2 h.3 m.0 r.0, each_part ps h.1.components h.3 m.1 r.1)
    each (tuple fs) t h m r = each_field fs h.0 h.2 m r
    each (relation g rs) t h m r = each_row rs g h.2 m r

    each_part : (ps : Parts) (cs : List Attribute) → AreOfTypes ds ps cs → EachInParts P ps
        → EachInParts R ps → EachInParts Q ps
    each_part no_parts cs h m r = tt
    each_part (part v ps) [] h m r = absurd h
    each_part (part v ps) (c ∷ cs) h m r = (each v c.1 h.0 m.0 r.0, each_part ps cs h.1 m.1 r.1)

    each_field : (fs : Fields) (g : Attrs) → HasHeading ds fs g → EachInFields P fs → EachInFields R fs → EachInFields Q fs
    each_field no_fields g h m r = tt
    each_field (field n v fs) no_attrs h m r = absurd h
    each_field (field n v fs) (attr k t g) h m r = (each v t h.1 m.0 r.0, each_field fs g h.2 m.1 r.1)

    each_row : (rs : Rows) (g : Attrs) → HaveHeading ds rs g → EachInRows P rs → EachInRows R rs → EachInRows Q rs
    each_row no_rows g h m r = tt
    each_row (row fs rs) g h m r = (each_field fs g h.0 m.0 r.0, each_row rs g h.1 m.1 r.1)

-- what a selector of the database gives
pub selects : (db : Database) (n : List ℕ) (vs : List Val)
    → selector_outcome (world_of db) n vs ≡ selector_outcome (types_alone db.types (selectors_of db.types db.types)) n vs
selects db n vs = selected_by (world_of db) (selectors_of db.types db.types) n vs (world_selectors db)

pub selectors_give_what_meets : SelectorsGiveWhatMeets
selectors_give_what_meets db v t is_typed h = (
  λ given. each db.types (Selects (world_of db)) (Selects (world_of db)) (MeetConstraint db.types)
      (λ n ps d is k gives _. met_of_given db.types is_typed.declared n (components_of ps) (user n ps) (sym (selects db n (components_of ps)) ∙ gives)) v t h given given,
  λ met. each db.types (MeetConstraint db.types) (MeetConstraint db.types) (Selects (world_of db))
      (λ n ps d is k meets _. selects db n (components_of ps) ∙ given_of_met db.types is_typed.declared n ps d is k meets) v t h met met,
)

pub stored_literals_have_their_values : StoredLiteralsHaveTheirValues
stored_literals_have_their_values db s v t is_typed p h met =
    literals_have_their_values (world_of db) s v t p (subst (λ (scope : Scope). HasType scope.types v t) (sym (world_scope db)) h)
    ((selectors_give_what_meets db v t is_typed h).1 met)
