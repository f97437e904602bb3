-- What came into a base relvar, as the code has it (this project's own).
use Rattle.std.specs.Borrow.{Bor}
use Rattle.std.specs.Prelude.{◌≡◌, ℕ, List, [], ◌∷◌}
use Rattle.td_catalog.specs.model.Database.{Database, NamedConstraint, database_scope}
use Rattle.td_engine.specs.laws.Additions.{AreAdditions, PassesAsAdded}
use Rattle.td_engine.specs.model.Assignments.{source_world}
use Rattle.td_engine.specs.declared.added.Added.{Added}
use Rattle.td_engine.specs.declared.change.Change.{Change}
use Rattle.td_eval.specs.laws.ReachedRelvars.{reached_from}
use Rattle.td_eval.specs.laws.UnfailingValues.{GivesValues}
use Rattle.td_value.specs.model.Values.{IsRelation, Relation}

-- the relvar, and what came into it
abbrev pub added_view : Added → List ℕ × Relation
added_view a = (a.relvar.now, a.tuples.now)

-- a constraint may be tested by it
abbrev pub IsTestedBy : List (List ℕ) → Database → NamedConstraint → Bor Added → Type 0
IsTestedBy reached db c a =
    GivesValues (source_world db (added_view a.now).0 (added_view a.now).1) (database_scope db) × PassesAsAdded reached db (added_view a.now) c

-- all constraints may
abbrev pub AreTestedBy : List (List ℕ) → Database → Bor Added → Type 0
AreTestedBy reached db a = AreAdditions reached db (added_view a.now)

-- where one base relvar alone was changed, constraints may be tested by what came into it
abbrev pub AreTestedByAdditions : Database → List (List ℕ × Change) → Type 0
AreTestedByAdditions db es =
    (relvar : List ℕ) (c : Change) → es ≡ (relvar, c) ∷ [] → IsRelation c.add → AreAdditions (reached_from (relvar ∷ []) db.virtuals) db (relvar, c.add)
