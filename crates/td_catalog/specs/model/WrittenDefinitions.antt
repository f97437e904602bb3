-- What holds of the expressions in the definitions of every database: their names are names, and their texts are UTF-8.
use Rattle.std.specs.Prelude.{◌≡◌, Some}
use Rattle.std.specs.List.{AllByRecursion}
use Rattle.td_catalog.specs.model.Database.{Database, VirtualRelvar}
use Rattle.td_tree.specs.model.Trees.{Tree}
use Rattle.td_tree.specs.model.WrittenTrees.{IsWritten}
use Rattle.td_types.specs.model.TypeLists.{DeclaredType, ConstraintsAreWritten}

-- the constraint of a type is written so, where it has one
abbrev pub ConstraintIsWritten : DeclaredType → Type 0
ConstraintIsWritten d = (e : Tree) → d.constraint ≡ Some e → IsWritten e

-- the constraints of types and the expressions of virtual relvars are written so
pub record DefinitionsAreWritten (db : Database) : Type 0 where
  pub constraints : ConstraintsAreWritten db.types
  pub virtuals : AllByRecursion (λ (v : VirtualRelvar). IsWritten v.tree) db.virtuals
