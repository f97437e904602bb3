-- What an expression is planned in (this project's own).
use Rattle.std.specs.Prelude.{◌≡◌, ℕ, Bool, false, suc, List, [], ◌∷◌, Option, Some, None, length, option_map, if◌then◌else◌}
use Rattle.td_catalog.specs.model.Database.{Database, database_scope}
use Rattle.td_catalog.specs.code.KeptDatabases.{CatalogView}
use Rattle.td_check.specs.model.Scopes.{Scope}
use Rattle.td_plan.specs.declared.making.planner.Planner.{Planner}
use Rattle.td_types.specs.model.Types.{Attribute, Heading, same_name}

-- the scope where tuples of these headings are in scope, the innermost first
abbrev pub among_headings : Scope → List Heading → Scope
among_headings scope hs = record { types = scope.types; relvars = scope.relvars; constraints = scope.constraints; entered = hs }

-- the database of a catalogue
abbrev pub catalog_database : CatalogView → Database
catalog_database catalog = catalog.database

-- the scope is the database's, where tuples are in scope
abbrev pub IsPlanner : {C : Type 0} → (C → Database) → Planner C → Type 0
IsPlanner database planner = planner.scope ≡ among_headings (database_scope (database planner.catalog.now)) planner.scope.entered

-- whether there is an attribute, of that name
abbrev pub is_named : List ℕ → Option Attribute → Bool
is_named n (Some a) = same_name a.0 n
is_named n None = false

-- where the attribute of a name stands in a heading
abbrev pub place_in : List ℕ → Heading → Option ℕ
place_in n [] = None
place_in n (a ∷ rest) = if same_name a.0 n then Some 0 else option_map suc (place_in n rest)

-- the slot of the innermost attribute of a name, and its place in its heading: a tuple's slot is how many are further out
abbrev pub attribute_place : List ℕ → List Heading → Option (ℕ × ℕ)
attribute_place n [] = None
attribute_place n (h ∷ hs) =
    elim (place_in n h) as (λ _. Option (ℕ × ℕ)) [
      | Some p ↦ Some (length hs, p)
      | None ↦ attribute_place n hs
    ]
