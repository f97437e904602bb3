-- What a change of base relvars reaches, and what it leaves as it was (this project's own).
use Rattle.std.specs.Prelude.{◌≡◌, ℕ, false, List, [], ◌∷◌, ◌++◌, fold, Some, if◌then◌else◌}
use Rattle.td_catalog.specs.model.Database.{BaseRelvar, Database, VirtualRelvar, base_named, database_scope}
use Rattle.td_catalog.specs.laws.NamedRelvars.{names_any}
use Rattle.td_catalog.specs.model.TypedDatabases.{IsTyped}
use Rattle.td_eval.specs.model.DatabaseWorlds.{world_of}
use Rattle.td_eval.specs.model.TreeValues.{value_of}
use Rattle.td_eval.specs.laws.ValueLaws.{IsChecked}
use Rattle.td_tree.specs.model.Trees.{Tree}
use Rattle.td_types.specs.model.Headings.{has_name}

-- with the virtual relvar, where its expression names one of them
abbrev pub with_dependent : List (List ℕ) → VirtualRelvar → List (List ℕ)
with_dependent relvars v = if names_any relvars v.tree then relvars ++ (v.name ∷ []) else relvars

-- what a change of these base relvars reaches: itself, and each virtual relvar that names what it reaches, in their order
abbrev pub reached_from : List (List ℕ) → List VirtualRelvar → List (List ℕ)
reached_from changed virtuals = fold with_dependent changed virtuals

-- the second database is the first but for its constraints and for what these base relvars hold
pub record DiffersIn (changed : List (List ℕ)) (first second : Database) : Type 0 where
  pub types : second.types ≡ first.types
  pub virtuals : second.virtuals ≡ first.virtuals
  pub bases :
      (n : List ℕ) (r : BaseRelvar) → has_name n changed ≡ false → base_named n first ≡ Some r
      → (q : BaseRelvar) × (base_named n second ≡ Some q) × (q.relation ≡ r.relation)

-- an expression that names nothing which the change reaches keeps its value, or its causes
abbrev pub UnreachedValuesStay : Type 0
UnreachedValuesStay =
    (changed : List (List ℕ)) (first second : Database) (e : Tree) → IsTyped first → IsTyped second
    → DiffersIn changed first second → IsChecked (database_scope first) [] e → names_any (reached_from changed first.virtuals) e ≡ false
    → value_of (world_of second) [] e ≡ value_of (world_of first) [] e
