-- Expressions that may be evaluated by a plan.
use Rattle.std.specs.Prelude.{◌≡◌, ℕ, List, Option, Some, None, ⊤}
use Rattle.std.specs.List.{AllByRecursion}
use Rattle.td_catalog.specs.model.Database.{Database, database_scope}
use Rattle.td_check.specs.model.Scopes.{entered_with}
use Rattle.td_check.specs.model.StatementTypes.{assignment_checked}
use Rattle.td_check.specs.model.StaticTypes.{named_types, type_of}
use Rattle.td_engine.specs.model.Assignments.{chosen_for, source_world}
use Rattle.td_eval.specs.model.DatabaseWorlds.{world_of}
use Rattle.td_eval.specs.laws.UnfailingValues.{GivesValues}
use Rattle.td_eval.specs.laws.ValueTypes.{IsTypedTuple}
use Rattle.td_eval.specs.model.Worlds.{World}
use Rattle.td_tree.specs.model.Outcomes.{Outcome, Valued}
use Rattle.td_tree.specs.model.Trees.{Assignment, NamedTrees, Tree, assign, delete, disjoint_insert, included_delete, insert, name, restriction, update}
use Rattle.td_tree.specs.model.WrittenTrees.{IsWritten, PartsGiveNames, PartsHaveTexts}
use Rattle.td_types.specs.model.Types.{Attribute, Type'}
use Rattle.td_value.specs.model.Values.{IsRelation, Relation}

-- an expression that has a type where the database is known
pub record IsPlannable (db : Database) (e : Tree) : Type 0 where
  pub gives : GivesValues (world_of db) (database_scope db)
  pub typed : (t : Type') × (type_of (database_scope db) e ≡ Valued t)

-- an expression that may be evaluated by a plan, where there is one
abbrev pub IsPlannableIf : Database → Option Tree → Type 0
IsPlannableIf db None = ⊤
IsPlannableIf db (Some e) = IsPlannable db e

-- ---- assignments

-- an expression that is there is written as tokens spell it
abbrev pub IsWrittenIf : Option Tree → Type 0
IsWrittenIf None = ⊤
IsWrittenIf (Some e) = IsWritten e

-- the names and texts in the settings of UPDATE are written as tokens spell them
abbrev pub AreWrittenSettings : NamedTrees → Type 0
AreWrittenSettings settings = PartsGiveNames settings × PartsHaveTexts settings

-- the expressions in an assignment are written as tokens spell them
abbrev pub IsWrittenAssignment : Assignment → Type 0
IsWrittenAssignment (assign target source) = IsWritten source
IsWrittenAssignment (insert target source) = IsWritten source
IsWrittenAssignment (disjoint_insert target source) = IsWritten source
IsWrittenAssignment (included_delete target source) = IsWritten source
IsWrittenAssignment (delete target condition) = IsWrittenIf condition
IsWrittenAssignment (update style target condition settings) = IsWrittenIf condition × AreWrittenSettings settings

-- an assignment that meets the static rules, and is written as tokens spell it
pub record IsAdmittedAssignment (db : Database) (a : Assignment) : Type 0 where
  pub written : IsWrittenAssignment a
  pub checked : assignment_checked (database_scope db) a ≡ Valued tt

-- an expression that a plan may evaluate where the name of a target means its relation so far
pub record IsPlannableSource (db : Database) (target : List ℕ) (so_far : Relation) (e : Tree) : Type 0 where
  pub gives : GivesValues (source_world db target so_far) (database_scope db)
  pub typed : (t : Type') × (type_of (database_scope db) e ≡ Valued t)

-- a condition by which tuples may be chosen of the target where its name means its relation so far
pub record IsPlannableCondition (db : Database) (target : List ℕ) (so_far : Relation) (e : Tree) : Type 0 where
  pub gives : GivesValues (source_world db target so_far) (database_scope db)
  pub typed : (t : Type') × (type_of (database_scope db) (restriction (name target) e) ≡ Valued t)

abbrev pub IsPlannableConditionIf : Database → List ℕ → Relation → Option Tree → Type 0
IsPlannableConditionIf db target so_far None = ⊤
IsPlannableConditionIf db target so_far (Some e) = IsPlannableCondition db target so_far e

-- settings that may be so in each of the tuples that are chosen
pub record ArePlannableSettings (db : Database) (w : World) (chosen : Outcome Relation) (settings : NamedTrees) : Type 0 where
  pub gives : GivesValues w (database_scope db)
  pub tuples : (r : Relation) → chosen ≡ Valued r → IsRelation r × AllByRecursion (IsTypedTuple db.types) r.body
  pub typed :
      (r : Relation) → chosen ≡ Valued r
      → (kinds : List Attribute) × (named_types (entered_with r.heading (database_scope db)) settings ≡ Valued kinds)

-- an assignment whose source, or whose condition and settings, may be evaluated so
abbrev pub IsPlannableAssignment : Database → Relation → Assignment → Type 0
IsPlannableAssignment db so_far (assign target source) = IsPlannableSource db target so_far source
IsPlannableAssignment db so_far (insert target source) = IsPlannableSource db target so_far source
IsPlannableAssignment db so_far (disjoint_insert target source) = IsPlannableSource db target so_far source
IsPlannableAssignment db so_far (included_delete target source) = IsPlannableSource db target so_far source
IsPlannableAssignment db so_far (delete target condition) = IsPlannableConditionIf db target so_far condition
IsPlannableAssignment db so_far (update style target condition settings) =
    IsPlannableConditionIf db target so_far condition
    × ArePlannableSettings db (source_world db target so_far) (chosen_for so_far (source_world db target so_far) target condition) settings
