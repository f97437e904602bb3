-- What an assignment is to, as the code has it (this project's own).
use Rattle.std.specs.Prelude.{◌≡◌, ℕ, List, [], Option, Some, None, Result}
use Rattle.td_catalog.specs.code.CatalogViews.{IsEntry, base_view}
use Rattle.td_catalog.specs.model.Database.{Database, base_named, database_scope}
use Rattle.td_engine.specs.model.Assignments.{chosen_for, source_world}
use Rattle.td_engine.specs.code.Changes.{changed_by, assigned_over}
use Rattle.td_engine.specs.code.AssignedRelations.{IsAssigned}
use Rattle.td_engine.specs.code.Plannable.{ArePlannableSettings, IsPlannableConditionIf, IsPlannableSource}
use Rattle.td_engine.specs.declared.change.Change.{Change}
use Rattle.td_engine.specs.declared.target.Target.{Target}
use Rattle.td_eval.specs.code.LentWorlds.{tuples_in_hand, world_in}
use Rattle.td_eval.specs.declared.env.Env.{Env}
use Rattle.td_eval.specs.model.Worlds.{World}
use Rattle.td_plan.specs.code.PlansOf.{scope_in}
use Rattle.td_tree.specs.model.Outcomes.{Answers, Outcome}
use Rattle.td_tree.specs.model.Trees.{Assignment, NamedTrees, Tree}
use Rattle.td_tree.specs.declared.fault.Fault.{Fault}
use Rattle.td_value.specs.model.Values.{Relation}

-- in it the world is this one, the database's names are known, and no tuple is in hand
pub record IsEnvOf {B : Type 0} (db : Database) (w : World) (env : Env B) : Type 0 where
  pub world : world_in env ≡ w
  pub scope : scope_in env ≡ database_scope db
  pub tuples : tuples_in_hand env ≡ []

-- what a target holds so far: what it was given, else what its body holds
abbrev pub so_far : {B : Type 0} → (B → Relation) → Target B → Relation
so_far relation t = elim t.given as (λ _. Relation) [ Some r ↦ r.now | None ↦ relation t.entry.now.body ]

-- the world in which the source of an assignment to it has its value
abbrev pub world_for : {B : Type 0} → (B → Relation) → Target B → World
world_for relation t = source_world t.catalog.now.database t.name.now (so_far relation t)

-- its entry is the one of its name, and what it holds so far is what it may be given
pub record IsTarget {B : Type 0} (relation : B → Relation) (keys : B → List (List (List ℕ))) (t : Target B) : Type 0 where
  pub entry : IsEntry relation keys t.entry.now
  pub named : base_named t.name.now t.catalog.now.database ≡ Some (base_view relation (t.name.now, t.entry.now))
  pub assigned : IsAssigned t.catalog.now.database (t.name.now, so_far relation t)

-- ---- assignments to it

-- an expression that a plan may evaluate for it
abbrev pub IsSourceFor : {B : Type 0} → (B → Relation) → Target B → Tree → Type 0
IsSourceFor relation t e = IsPlannableSource t.catalog.now.database t.name.now (so_far relation t) e

-- a condition by which its tuples may be chosen, if there is one
abbrev pub IsConditionFor : {B : Type 0} → (B → Relation) → Target B → Option Tree → Type 0
IsConditionFor relation t condition = IsPlannableConditionIf t.catalog.now.database t.name.now (so_far relation t) condition

-- the tuples of it that a condition chooses
abbrev pub chosen_of : {B : Type 0} → (B → Relation) → Target B → Option Tree → Outcome Relation
chosen_of relation t condition = chosen_for (so_far relation t) (world_for relation t) t.name.now condition

-- settings that may be so in each of the tuples that are chosen
abbrev pub AreSettingsFor : {B : Type 0} → (B → Relation) → Target B → Outcome Relation → NamedTrees → Type 0
AreSettingsFor relation t chosen settings = ArePlannableSettings t.catalog.now.database (world_for relation t) chosen settings

-- what is answered changes what it holds so far to what an assignment gives
abbrev pub GivesAs : {B : Type 0} → (B → Relation) → Target B → Result Change Fault → Assignment → Type 0
GivesAs relation t result a = Answers (λ c. changed_by c (so_far relation t)) result (assigned_over t.catalog.now.database (so_far relation t) a)
