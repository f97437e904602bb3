-- Entries that are visited one after another until one passes a test.
use Rattle.std.proofs.Common.{◌≡◌, ◌∙◌, ◌∷◌, ◌+◌, ℕ, Bool, true, false, List, [], Some, ap, map, refl, subst, sym, take}
use Rattle.std.specs.Prelude.{◌||◌, ⊤}
use Rattle.std.specs.List.{AllByRecursion, list_any, slice_get}
use Rattle.std.proofs.lemmas.List.Folds.{list_any-append}
use Rattle.td_catalog.specs.code.CatalogViews.{AreEntries, base_view, constraint_view, virtual_view}
use Rattle.td_catalog.specs.model.Database.{Database, NamedConstraint, VirtualRelvar, database_scope, with_virtuals}
use Rattle.td_catalog.specs.model.TypedDatabases.{IsTypedConstraint, IsTyped}
use Rattle.td_catalog.specs.model.Mentioned.{base_mentions_type}
use Rattle.td_catalog.specs.declared.entry.BaseEntry.{BaseEntry}
use Rattle.td_catalog.specs.declared.entry.ConstraintEntry.{ConstraintEntry}
use Rattle.td_catalog.specs.declared.entry.VirtualEntry.{VirtualEntry}
use Rattle.td_catalog.proofs.TypedDrops.{earlier_virtuals}
use Rattle.td_catalog.proofs.Lists.{each_all}
use Rattle.td_catalog.proofs.ByPlace.{one_more_taken, stands_at}
use Rattle.td_check.specs.model.OperatorTypes.{if_type}
use Rattle.td_check.specs.model.Scopes.{Scope, alone_with, scope_of}
use Rattle.td_check.specs.model.StatementTypes.{constraint_fits}
use Rattle.td_check.specs.model.StaticTypes.{type_of}
use Rattle.td_check.proofs.StaticLaws.{more_changes_nothing}
use Rattle.td_tree.specs.model.Outcomes.{Valued}
use Rattle.td_tree.specs.model.Trees.{Tree}
use Rattle.td_types.specs.model.Headings.{are_distinct, heading_from}
use Rattle.td_types.specs.model.NamedTypes.{any_names_user}
use Rattle.td_types.specs.model.TypeLists.{DeclaredType}
use Rattle.td_types.specs.model.Types.{Type', attribute_names, pack}
use Rattle.td_types.specs.model.Types as types
use Rattle.td_types.proofs.OutcomeLaws.{value_of_with}
use Rattle.td_value.specs.model.Values.{Relation}

module _ {E : Type 0} (P : E → Type 0) (test : E → Bool) where
  -- whether one passes is so of those that are left, of each of which P holds
  pub record AreLeft (total : Bool) (rest : List E) : Type 0 where
    pub each : AllByRecursion P rest
    pub left : total ≡ list_any test rest

  -- all are at first
  pub left_all : (total : Bool) (xs rest : List E) → AllByRecursion P xs → total ≡ list_any test xs → rest ≡ xs → AreLeft total rest
  left_all total xs rest each left is = subst (AreLeft total) (sym is) (record { each = each; left = left })

  pub left_passed : (total : Bool) (e : E) (rest : List E) → AreLeft total (e ∷ rest) → test e ≡ true → true ≡ total
  left_passed total e rest h is = sym (h.left ∙ ap (λ b. b || list_any test rest) is)

  pub left_next : (total : Bool) (e : E) (rest : List E) → AreLeft total (e ∷ rest) → test e ≡ false → AreLeft total rest
  left_next total e rest h is = record { each = h.each.1; left = h.left ∙ ap (λ b. b || list_any test rest) is }

  pub left_none : (total : Bool) (rest : List E) → AreLeft total rest → rest ≡ [] → false ≡ total
  left_none total rest h none = sym (h.left ∙ ap (list_any test) none)

-- where nothing is asked of each
pub nothing_asked : {E : Type 0} (xs : List E) → AllByRecursion (λ _. ⊤) xs
nothing_asked [] = tt
nothing_asked (x ∷ xs) = (tt, nothing_asked xs)

module _ {A : Type 0} (test : A → Bool) (xs : List A) (i : ℕ) (x : A) (at : slice_get xs i ≡ Some x) where
  -- one that passes stands at a place
  pub passes_at : test x ≡ true → true ≡ list_any test xs
  passes_at is =
      let split = stands_at xs i x at in
      sym (ap (list_any test) split.1 ∙ list_any-append test (take i xs) (x ∷ split.0) ∙ rw is (or_true (list_any test (take i xs))))
    where
      or_true : (b : Bool) → (b || true) ≡ true
      or_true true = refl
      or_true false = refl

  -- none of the first passes, and neither does the next
  pub none_next : list_any test (take i xs) ≡ false → test x ≡ false → list_any test (take (i + 1) xs) ≡ false
  none_next none is =
      ap (list_any test) (one_more_taken xs i x at) ∙ list_any-append test (take i xs) (x ∷ []) ∙ rw (none, is) refl

-- ---- expressions that have types

abbrev pub HasTypeIn : Scope → Tree → Type 0
HasTypeIn scope e = (t : Type') × (type_of scope e ≡ Valued t)

module _ (db : Database) (is_typed : IsTyped db) where
  virtual_typed : AllByRecursion (λ (v : VirtualRelvar). HasTypeIn (database_scope db) v.tree) db.virtuals
  virtual_typed =
      each_all (λ (v : VirtualRelvar). HasTypeIn (database_scope db) v.tree) db.virtuals
      (λ earlier later v is. (
        types.relation (pack v.heading),
        (more_changes_nothing (database_scope (with_virtuals earlier db)) (database_scope db) v.tree (types.relation (pack v.heading))
            (earlier_virtuals db earlier v later is) (is_typed.virtuals earlier later v is).typed).0,
      ))

  constraints_typed : (cs : List NamedConstraint) → AllByRecursion (IsTypedConstraint (database_scope db)) cs
      → AllByRecursion (λ (c : NamedConstraint). HasTypeIn (database_scope db) c.tree) cs
  constraints_typed [] h = tt
  constraints_typed (c ∷ cs) h = ((types.boolean, h.0), constraints_typed cs h.1)

  -- the constraint of a type has a type where its components are in hand and all the types are declared
  pub condition_typed : (place : ℕ) (d : DeclaredType) → slice_get db.types place ≡ Some d → (e : Tree) → d.constraint ≡ Some e
      → HasTypeIn (alone_with (heading_from d.components) (scope_of db.types)) e
  condition_typed place d at e is =
      let split = stands_at db.types place d at in
      let first = alone_with (heading_from d.components) (scope_of (take place db.types)) in
      let fits = subst (λ o. constraint_fits (scope_of (take place db.types)) d.components o ≡ Valued tt) is (is_typed.constrained (take place db.types) split.0 d split.1) in
      let typed = value_of_with (type_of first e) (λ t. if_type types.boolean t tt) tt fits in (
        typed.0,
        (more_changes_nothing first (alone_with (heading_from d.components) (scope_of db.types)) e typed.0
            (record { types = (d ∷ split.0, split.1); relvars = ([], refl); entered = refl }) typed.1).0,
      )

  pub components_distinct : (place : ℕ) (d : DeclaredType) → slice_get db.types place ≡ Some d → are_distinct (attribute_names d.components) ≡ true
  components_distinct place d at =
      let split = stands_at db.types place d at in
      (is_typed.declared (take place db.types) split.0 d split.1).distinct

-- ---- a catalogue's rows

abbrev pub heading_mentions : {B : Type 0} → List ℕ → BaseEntry B → Bool
heading_mentions name entry = any_names_user name (pack entry.heading)

-- a base relvar's heading is its entry's
pub bases_mention_as : {B : Type 0} (relation : B → Relation) (keys : B → List (List (List ℕ))) (name : List ℕ) (rows : List (List ℕ × BaseEntry B)) → AreEntries relation keys rows
    → list_any (base_mentions_type name) (map (base_view relation) rows) ≡ list_any (heading_mentions name) (map (λ row. row.1) rows)
bases_mention_as relation keys name [] h = refl
bases_mention_as relation keys name (row ∷ rows) h =
    λ i. any_names_user name (pack (h.0.heading_is i)) || bases_mention_as relation keys name rows h.1 i

module _ (test : Tree → Bool) where
  abbrev pub virtual_passes : VirtualEntry → Bool
  virtual_passes entry = test (entry.tree)

  abbrev pub constraint_passes : ConstraintEntry → Bool
  constraint_passes entry = test (entry.tree)

  pub virtuals_as : (rows : List (List ℕ × VirtualEntry)) → list_any (λ (v : VirtualRelvar). test v.tree) (map virtual_view rows) ≡ list_any virtual_passes (map (λ row. row.1) rows)
  virtuals_as [] = refl
  virtuals_as (row ∷ rows) = ap (λ b. test (row.1.tree) || b) (virtuals_as rows)

  pub constraints_as : (rows : List (List ℕ × ConstraintEntry)) → list_any (λ (c : NamedConstraint). test c.tree) (map constraint_view rows) ≡ list_any constraint_passes (map (λ row. row.1) rows)
  constraints_as [] = refl
  constraints_as (row ∷ rows) = ap (λ b. test (row.1.tree) || b) (constraints_as rows)

abbrev pub VirtualTyped : Scope → VirtualEntry → Type 0
VirtualTyped scope entry = HasTypeIn scope (entry.tree)

abbrev pub ConstraintTyped : Scope → ConstraintEntry → Type 0
ConstraintTyped scope entry = HasTypeIn scope (entry.tree)

-- their expressions have types
pub virtual_rows_typed : (db : Database) (rows : List (List ℕ × VirtualEntry)) → IsTyped db → map virtual_view rows ≡ db.virtuals
    → AllByRecursion (VirtualTyped (database_scope db)) (map (λ row. row.1) rows)
virtual_rows_typed db rows is_typed seen = of_rows rows (subst (AllByRecursion (λ (v : VirtualRelvar). HasTypeIn (database_scope db) v.tree)) (sym seen) (virtual_typed db is_typed))
  where
    of_rows : (rs : List (List ℕ × VirtualEntry)) → AllByRecursion (λ (v : VirtualRelvar). HasTypeIn (database_scope db) v.tree) (map virtual_view rs)
        → AllByRecursion (VirtualTyped (database_scope db)) (map (λ row. row.1) rs)
    of_rows [] h = tt
    of_rows (row ∷ rs) h = (h.0, of_rows rs h.1)

pub constraint_rows_typed : (db : Database) (rows : List (List ℕ × ConstraintEntry)) → IsTyped db → map constraint_view rows ≡ db.constraints
    → AllByRecursion (ConstraintTyped (database_scope db)) (map (λ row. row.1) rows)
constraint_rows_typed db rows is_typed seen =
    of_rows rows (subst (AllByRecursion (λ (c : NamedConstraint). HasTypeIn (database_scope db) c.tree)) (sym seen) (constraints_typed db is_typed db.constraints is_typed.constraints))
  where
    of_rows : (rs : List (List ℕ × ConstraintEntry)) → AllByRecursion (λ (c : NamedConstraint). HasTypeIn (database_scope db) c.tree) (map constraint_view rs)
        → AllByRecursion (ConstraintTyped (database_scope db)) (map (λ row. row.1) rs)
    of_rows [] h = tt
    of_rows (row ∷ rs) h = (h.0, of_rows rs h.1)
