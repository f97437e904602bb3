-- What virtual relvars have where the whole of a database is known: a law (this project's own).
use Rattle.std.specs.Prelude.{◌≡◌, ℕ, List, [], Some}
use Rattle.td_catalog.specs.model.Database.{Database, VirtualRelvar, virtual_named}
use Rattle.td_catalog.specs.model.TypedDatabases.{IsTyped}
use Rattle.td_eval.specs.model.DatabaseWorlds.{world_of}
use Rattle.td_eval.specs.model.TreeValues.{value_of}

-- a virtual relvar is defined by the virtual relvars before it alone; in a typed database it has the value of its expression where all are
-- known and no tuple is in scope
abbrev pub VirtualRelvarsAreTheirExpressions : Type 0
VirtualRelvarsAreTheirExpressions =
    (db : Database) (n : List ℕ) (v : VirtualRelvar) → IsTyped db → virtual_named n db ≡ Some v
    → (world_of db).relvar n ≡ Some (value_of (world_of db) [] v.tree)
