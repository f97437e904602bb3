-- Entries that stand behind those of a database change no value of an expression that has a type there.
use Rattle.std.proofs.Common.{◌≡◌, ◌∙◌, ◌++◌, ℕ, true, List, [], ◌∷◌, Option, Some, None, append-nil, append_assoc, ap, fold, map, not, option_map, refl, subst, sym, true≢false}
use Rattle.std.specs.List.{AllByRecursion}
use Rattle.std.specs.Option.{option_or}
use Rattle.std.specs.Prelude.{IsTrue, if◌then◌else◌, is_some}
use Rattle.std.proofs.lemmas.List.{map-append}
use Rattle.std.proofs.lemmas.List.Sums.{fold-append}
use Rattle.td_catalog.proofs.Lists.{distinct_between, not_true}
use Rattle.td_catalog.specs.model.Database.{BaseRelvar, Database, NamedConstraint, VirtualRelvar, base_among, base_named, database_scope, known_virtual, knows_relvar, relvar_names, virtual_named, with_base, with_constraint, with_declared, with_virtual}
use Rattle.td_catalog.specs.model.TypedDatabases.{IsTyped}
use Rattle.td_catalog.specs.model.WrittenDefinitions.{DefinitionsAreWritten}
use Rattle.td_check.specs.model.Scopes.{KnownRelvar, Scope, known_relvar}
use Rattle.td_tree.specs.model.Outcomes.{Valued}
use Rattle.td_tree.specs.model.Trees.{Tree}
use Rattle.td_types.specs.model.Headings.{are_distinct, has_name}
use Rattle.td_types.specs.model.TypeLists.{DeclaredType}
use Rattle.td_types.specs.model.Types.{pack, same_name}
use Rattle.td_types.specs.model.Types as types
use Rattle.td_value.specs.model.Values.{Tuple, relation_value}
use Rattle.td_eval.specs.model.DatabaseWorlds.{Selectors, selectors_of, types_alone, with_selector, world_of}
use Rattle.td_eval.specs.model.TreeValues.{value_of}
use Rattle.td_eval.specs.laws.ValueLaws.{HasLater, IsChecked, LaterEntriesChangeNothing, SelectsTheSame}
use Rattle.td_eval.specs.model.Worlds.{World, selector_outcome}
use Rattle.td_eval.proofs.law_lemmas.KnownRelvars.{fronted, known_as_base, known_as_virtual, known_in_more, known_name, named, named_more, never_none, no_base, of_all, one_more_world, some_of, stays_behind, unnamed}
use Rattle.td_eval.proofs.law_lemmas.LaterTypes.{AreTypedTypes, all_select, selected_by, stays}
use Rattle.td_eval.proofs.law_lemmas.MoreWorlds.{HasMoreThan, same_in_more}
use Rattle.td_eval.proofs.law_lemmas.TypedDatabases.{all_at, database_keeps, fronts_keep}
use Rattle.td_eval.proofs.code_lemmas.WorldParts.{virtual_name, world_scope, world_selectors}
use Rattle.td_tree.specs.model.WrittenTrees.{IsWritten}

module _ (first second : Database) (later : HasLater first second) (is_typed : AreTypedTypes first.types) where
  -- in worlds with the selectors of the first and of the second
  selectors_of_both : (w v : World) → w.selector ≡ selectors_of first.types first.types → v.selector ≡ selectors_of second.types second.types
      → (n : List ℕ) → SelectsTheSame (database_scope first) w v n
  selectors_of_both w v e f n d vs is h =
      let x = (all_select first.types is_typed second.types later.types.0 later.types.1).found n d is in
      let there : selectors_of second.types second.types n ≡ Some x.0 =
      ap (λ (xs : List DeclaredType). fold (with_selector second.types) (λ m. None) xs n) later.types.1
      ∙ ap (λ (s : Selectors). s n) (fold-append (with_selector second.types) (λ m. None) first.types later.types.0)
      ∙ stays second.types later.types.0 (selectors_of second.types first.types) n x.0 x.1 in
      let here : selector_outcome (types_alone [] (selectors_of second.types second.types)) n vs ≡ x.0 vs = rw (selector_outcome, there) refl in
      selected_by v (selectors_of second.types second.types) n vs f ∙ here ∙ x.2 vs h
      ∙ sym (selected_by w (selectors_of first.types first.types) n vs e)

  pub selectors_stay : (n : List ℕ) → SelectsTheSame (database_scope first) (world_of first) (world_of second) n
  selectors_stay = selectors_of_both (world_of first) (world_of second) (world_selectors first) (world_selectors second)

-- names where more entries stand behind
module _ (first second : Database) (later : HasLater first second) where
  abbrev IsNamed : List ℕ → Type 0
  IsNamed n = has_name n (relvar_names first) ≡ true

  named_later : (n : List ℕ) (v : VirtualRelvar) → virtual_named n first ≡ Some v → virtual_named n second ≡ Some v
  named_later n v is = ap (named virtual_name n) later.virtuals.1 ∙ named_more virtual_name n first.virtuals later.virtuals.0 v is

  -- a name of the first finds the same base relvar
  base_same : (n : List ℕ) → IsNamed n → base_named n second ≡ base_named n first
  base_same n has = by_base (base_named n first) refl
    where
      of_virtual : base_named n first ≡ None → (o : Option VirtualRelvar) → virtual_named n first ≡ o → base_named n second ≡ None
      of_virtual none None is = absurd (true≢false (sym has ∙ unnamed first n none is))
      of_virtual none (Some v) is = no_base second n later.distinct (ap is_some (named_later n v is))

      by_base : (o : Option BaseRelvar) → base_named n first ≡ o → base_named n second ≡ base_named n first
      by_base None none = of_virtual none (virtual_named n first) refl ∙ sym none
      by_base (Some b) is =
          ap (base_among n) later.bases.1 ∙ named_more (λ (r : BaseRelvar). r.name) n first.bases later.bases.0 b is ∙ sym is

  -- a relvar that is known is known still, with these virtual relvars in the place of those
  known_later : (vs us : List VirtualRelvar) (n : List ℕ) (r : KnownRelvar) → IsNamed n
      → ((v : VirtualRelvar) → named virtual_name n vs ≡ Some v → named virtual_name n us ≡ Some v)
      → known_relvar (database_scope (fronted first vs)) n ≡ Some r → known_relvar (database_scope (fronted second us)) n ≡ Some r
  known_later vs us n r has kept is = by_base (base_named n first) refl
    where
      by_virtual : base_named n first ≡ None → (o : Option VirtualRelvar) → named virtual_name n vs ≡ o
          → known_relvar (database_scope (fronted second us)) n ≡ Some r
      by_virtual none None found =
          never_none r (known_relvar (database_scope (fronted first vs)) n) is (known_as_virtual (fronted first vs) n none ∙ ap (option_map known_virtual) found)
      by_virtual none (Some v) found =
          known_as_virtual (fronted second us) n (base_same n has ∙ none) ∙ ap (option_map known_virtual) (kept v found ∙ sym found)
          ∙ sym (known_as_virtual (fronted first vs) n none) ∙ is

      by_base : (o : Option BaseRelvar) → base_named n first ≡ o → known_relvar (database_scope (fronted second us)) n ≡ Some r
      by_base None none = by_virtual none (named virtual_name n vs) refl
      by_base (Some b) found =
          known_as_base (fronted second us) n b (base_same n has ∙ found) ∙ sym (known_as_base (fronted first vs) n b found) ∙ is

  -- what is known with the first virtual relvars of the first is named there
  name_of_front : (front rest : List VirtualRelvar) → first.virtuals ≡ front ++ rest → (n : List ℕ) (r : KnownRelvar)
      → known_relvar (database_scope (fronted first front)) n ≡ Some r → IsNamed n
  name_of_front front rest e n r is =
      known_name first n
      (ap is_some (ap (λ vs. known_relvar (database_scope (fronted first vs)) n) e ∙ known_in_more first front rest n r is))

module _ (first second : Database) (later : HasLater first second) (is_typed : IsTyped first) where
  typed_types : AreTypedTypes first.types
  typed_types = record { declared = is_typed.declared; constrained = is_typed.constrained; written = is_typed.written.constraints }

  -- the relvars of the first have the same values in both, with the same virtual relvars
  abbrev AreAlike : List VirtualRelvar → Type 0
  AreAlike front = (n : List ℕ) → IsNamed first second later n → (world_of (fronted second front)).relvar n ≡ (world_of (fronted first front)).relvar n

  module _ (vs us : List VirtualRelvar)
      (names : (n : List ℕ) (r : KnownRelvar) → known_relvar (database_scope (fronted first vs)) n ≡ Some r → IsNamed first second later n)
      (kept : (n : List ℕ) (v : VirtualRelvar) → named virtual_name n vs ≡ Some v → named virtual_name n us ≡ Some v)
      (alike : (n : List ℕ) (r : KnownRelvar) → known_relvar (database_scope (fronted first vs)) n ≡ Some r
      → (world_of (fronted second us)).relvar n ≡ (world_of (fronted first vs)).relvar n) where
    has_more : HasMoreThan (database_scope (fronted first vs)) (world_of (fronted first vs)) (world_of (fronted second us))
    has_more =
        record {
          types = (later.types.0, ap (λ (scope : Scope). scope.types) (world_scope (fronted second us)) ∙ later.types.1);
          relvars = λ n r is.
              subst (λ (scope : Scope). known_relvar scope n ≡ Some r) (sym (world_scope (fronted second us)))
              (known_later first second later vs us n r (names n r is) (kept n) is);
          values = λ n k. let x = some_of (known_relvar (database_scope (fronted first vs)) n) k in alike n x.0 x.1;
          selectors =
              selectors_of_both first second later typed_types (world_of (fronted first vs)) (world_of (fronted second us))
              (world_selectors (fronted first vs)) (world_selectors (fronted second us));
        }

  none_alike : AreAlike []
  none_alike n has = ap (option_map (λ (b : BaseRelvar). Valued (relation_value b.relation))) (base_same first second later n has)

  next_alike : (front rest : List VirtualRelvar) (v : VirtualRelvar) → first.virtuals ≡ front ++ (v ∷ rest) → AreAlike front → AreAlike (front ++ (v ∷ []))
  next_alike front rest v e alike n has =
      ap (λ (w : World). w.relvar n) (one_more_world second front v)
      ∙ (λ i. option_or (alike n has i) (if same_name v.name n then Some (value i) else None))
      ∙ sym (ap (λ (w : World). w.relvar n) (one_more_world first front v))
    where
      names : (m : List ℕ) (r : KnownRelvar) → known_relvar (database_scope (fronted first front)) m ≡ Some r → IsNamed first second later m
      names = name_of_front first second later front (v ∷ rest) e

      checked : IsChecked (database_scope (fronted first front)) [] v.tree
      checked =
          record {
            tuples = tt;
            written = all_at (λ (u : VirtualRelvar). IsWritten u.tree) front v rest (subst (AllByRecursion (λ (u : VirtualRelvar). IsWritten u.tree)) e is_typed.written.virtuals);
            typed = (types.relation (pack v.heading), (is_typed.virtuals front rest v e).typed);
          }

      value : value_of (world_of (fronted second front)) [] v.tree ≡ value_of (world_of (fronted first front)) [] v.tree
      value =
          same_in_more (database_scope (fronted first front)) (world_of (fronted first front)) (world_of (fronted second front))
          (has_more front front names (λ m u is. is) (λ m r is. alike m (names m r is))) [] v.tree
          (fronts_keep first is_typed front (v ∷ rest) e) checked

  all_alike : AreAlike first.virtuals
  all_alike = of_all AreAlike first.virtuals none_alike next_alike

  relvars_stay : (n : List ℕ) (r : KnownRelvar) → known_relvar (database_scope first) n ≡ Some r → (world_of second).relvar n ≡ (world_of first).relvar n
  relvars_stay n r is =
      let has = known_name first n (ap is_some is) in
      let there = known_later first second later first.virtuals first.virtuals n r has (λ v found. found) is in
      ap (λ vs. (world_of (fronted second vs)).relvar n) later.virtuals.1
      ∙ stays_behind second first.virtuals later.virtuals.0 n (ap is_some there) ∙ all_alike n has

  values_stay : (s : List Tuple) (e : Tree) → IsChecked (database_scope first) s e → value_of (world_of second) s e ≡ value_of (world_of first) s e
  values_stay s e checked =
      same_in_more (database_scope first) (world_of first) (world_of second)
      (has_more first.virtuals second.virtuals (λ n r is. known_name first n (ap is_some is)) (named_later first second later) relvars_stay)
      s e (database_keeps first is_typed) checked

-- ---- one entry more

module _ (db : Database) (is_typed : IsTyped db) where
  abbrev base_names : List (List ℕ)
  base_names = map (λ (r : BaseRelvar). r.name) db.bases

  abbrev virtual_names : List (List ℕ)
  virtual_names = map virtual_name db.virtuals

  no_types : db.types ≡ db.types ++ []
  no_types = sym (append-nil db.types)

  no_bases : db.bases ≡ db.bases ++ []
  no_bases = sym (append-nil db.bases)

  no_virtuals : db.virtuals ≡ db.virtuals ++ []
  no_virtuals = sym (append-nil db.virtuals)

  one_type : (d : DeclaredType) → HasLater db (with_declared d db)
  one_type d = record { types = (d ∷ [], refl); bases = ([], no_bases); virtuals = ([], no_virtuals); distinct = is_typed.distinct }

  one_constraint : (c : NamedConstraint) → HasLater db (with_constraint c db)
  one_constraint c = record { types = ([], no_types); bases = ([], no_bases); virtuals = ([], no_virtuals); distinct = is_typed.distinct }

  one_base : (r : BaseRelvar) → IsTrue (not (knows_relvar r.name db)) → HasLater db (with_base r db)
  one_base r new =
      record {
        types = ([], no_types);
        bases = (r ∷ [], refl);
        virtuals = ([], no_virtuals);
        distinct =
            ap (λ ns. are_distinct (ns ++ virtual_names)) (map-append (λ (b : BaseRelvar). b.name) db.bases (r ∷ []))
            ∙ distinct_between r.name base_names virtual_names is_typed.distinct (not_true (knows_relvar r.name db) new);
      }

  one_virtual : (v : VirtualRelvar) → IsTrue (not (knows_relvar v.name db)) → HasLater db (with_virtual v db)
  one_virtual v new =
      record {
        types = ([], no_types);
        bases = ([], no_bases);
        virtuals = (v ∷ [], refl);
        distinct =
            ap are_distinct
            (ap (λ ns. base_names ++ ns) (map-append virtual_name db.virtuals (v ∷ [])) ∙ sym (append_assoc base_names virtual_names (v.name ∷ []))
            ∙ sym (append-nil ((base_names ++ virtual_names) ++ (v.name ∷ []))))
            ∙ distinct_between v.name (base_names ++ virtual_names) [] (ap are_distinct (append-nil (base_names ++ virtual_names)) ∙ is_typed.distinct)
            (ap (has_name v.name) (append-nil (base_names ++ virtual_names)) ∙ not_true (knows_relvar v.name db) new);
      }

pub later_entries_change_nothing : LaterEntriesChangeNothing
later_entries_change_nothing =
    record {
      values = λ first second s e is_typed later checked. values_stay first second later is_typed s e checked;
      one_type = λ db d is_typed. one_type db is_typed d;
      one_base = λ db r is_typed new. one_base db is_typed r new;
      one_virtual = λ db v is_typed new. one_virtual db is_typed v new;
      one_constraint = λ db c is_typed. one_constraint db is_typed c;
    }
