-- An expression that cannot fail has a value: laws (this project's own).
use Rattle.std.specs.Prelude.{◌≡◌, ℕ, List, None, Some, IsTrue}
use Rattle.std.specs.List.{AllByRecursion}
use Rattle.td_catalog.specs.model.Database.{BaseRelvar, Database, base_named}
use Rattle.td_catalog.specs.model.TypedDatabases.{AreTyped, IsTyped}
use Rattle.td_check.specs.laws.CannotFail.{cannot_fail}
use Rattle.td_check.specs.declared.scope.Kind.TheVariants as kinds
use Rattle.td_check.specs.model.Scopes.{KnownRelvar, Scope, known_relvar}
use Rattle.td_check.specs.model.StaticTypes.{type_of}
use Rattle.td_eval.specs.model.DatabaseWorlds.{with_other, world_of}
use Rattle.td_eval.specs.model.TreeValues.{value_of}
use Rattle.td_eval.specs.laws.ValueTypes.{AreComponentsOf, IsOfType, IsTypedTuple, KeepsScope}
use Rattle.td_eval.specs.model.Worlds.{World, selector_outcome, with_tuples}
use Rattle.td_eval.specs.laws.TreeNumbers.{HasNumbers}
use Rattle.td_tree.specs.model.Outcomes.{Valued}
use Rattle.td_tree.specs.model.Trees.{Tree}
use Rattle.td_tree.specs.model.WrittenTrees.{IsWritten}
use Rattle.td_types.specs.model.TypeLists.{DeclaredType, declared_at}
use Rattle.td_types.specs.model.Types.{Type'}
use Rattle.td_value.specs.model.Values.{Val, IsRelation, Relation, Tuple}

-- the world keeps the scope; a base relvar has a value there, and the selector of a type that has no constraint gives one of
-- components of their types. A virtual relvar and the selector of a type that has a constraint may have causes
pub record GivesValues (w : World) (scope : Scope) : Type 0 where
  pub keeps : KeepsScope w scope
  pub relvars :
      (n : List ℕ) (r : KnownRelvar) → known_relvar scope n ≡ Some r → r.kind ≡ kinds.Base
      → (v : Val) × (w.relvar n ≡ Some (Valued v))
  pub selectors :
      (n : List ℕ) (d : DeclaredType) (vs : List Val) → declared_at n scope.types ≡ Some d → d.constraint ≡ None
      → AreComponentsOf scope.types d vs → (v : Val) × (selector_outcome w n vs ≡ Valued v)

-- there an expression that has a type and cannot fail has a value, of that type
abbrev pub UnfailingExpressionsHaveValues : Type 0
UnfailingExpressionsHaveValues =
    (w : World) (scope : Scope) (s : List Tuple) (e : Tree) (t : Type') → GivesValues w scope
    → AllByRecursion (IsTypedTuple scope.types) s → IsWritten e → HasNumbers e
    → type_of (with_tuples scope s) e ≡ Valued t → IsTrue (cannot_fail (with_tuples scope s) e)
    → (v : Val) × (value_of w s e ≡ Valued v) × IsOfType scope.types v t

-- the world of a typed database is such a world, whatever keys and constraints it has
abbrev pub TypedDatabasesGiveValues : Type 0
TypedDatabasesGiveValues =
    (db : Database) → IsTyped db → GivesValues (world_of db) (world_of db).scope

-- so is the world in which one of its base relvars has another relation of its heading
abbrev pub OtherRelationsGiveValues : Type 0
OtherRelationsGiveValues =
    (db : Database) (n : List ℕ) (b : BaseRelvar) (r : Relation) → GivesValues (world_of db) (world_of db).scope
    → base_named n db ≡ Some b → IsRelation r → AreTyped db.types r → r.heading ≡ b.relation.heading
    → GivesValues (with_other (Some (n, r)) (world_of db)) (world_of db).scope
