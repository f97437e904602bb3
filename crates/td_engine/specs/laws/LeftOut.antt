-- Which checks a statement may leave out: those whose tests it cannot have changed (this project's own).
use Rattle.std.specs.Prelude.{◌≡◌, ℕ, false, List, None}
use Rattle.std.specs.List.{AllByRecursion}
use Rattle.td_catalog.specs.model.Database.{Database, NamedConstraint, VirtualRelvar}
use Rattle.td_catalog.specs.laws.NamedRelvars.{names_any}
use Rattle.td_engine.specs.model.Checks.{constraint_check, virtual_check}
use Rattle.td_eval.specs.model.DatabaseWorlds.{world_of}
use Rattle.td_eval.specs.model.Worlds.{World}
use Rattle.td_types.specs.model.Headings.{has_name}

-- a virtual relvar that is not among these passes
abbrev pub PassesUnlessReached : List (List ℕ) → World → VirtualRelvar → Type 0
PassesUnlessReached reached w v = has_name v.name reached ≡ false → virtual_check w v ≡ None

-- a constraint that names none of them passes
abbrev pub PassesUnlessNamed : List (List ℕ) → World → NamedConstraint → Type 0
PassesUnlessNamed reached w c = names_any reached c.tree ≡ false → constraint_check w c ≡ None

-- what a change that reaches these relvars alone need not check
pub record PassesElsewhere (reached : List (List ℕ)) (db : Database) : Type 0 where
  pub virtuals : AllByRecursion (PassesUnlessReached reached (world_of db)) db.virtuals
  pub constraints : AllByRecursion (PassesUnlessNamed reached (world_of db)) db.constraints
