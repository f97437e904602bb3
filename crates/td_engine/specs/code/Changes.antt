-- What a statement takes out of base relvars and puts in, and what was given to them so (this project's own).
use Rattle.std.specs.Prelude.{◌≡◌, ℕ, List, map, Some, None}
use Rattle.std.specs.List.{AllByRecursion}
use Rattle.td_body.specs.model.Bodies.{after_change}
use Rattle.td_catalog.specs.model.Database.{BaseRelvar, Database, base_named}
use Rattle.td_catalog.specs.model.TypedDatabases.{AreTyped}
use Rattle.td_engine.specs.model.Assignments.{Given, assignment_value, source_world, target_of}
use Rattle.td_engine.specs.declared.change.Change.{Change}
use Rattle.td_tree.specs.model.Outcomes.{Outcome}
use Rattle.td_tree.specs.model.Trees.{Assignment}
use Rattle.td_types.specs.model.Types.{Heading}
use Rattle.td_value.specs.model.Values.{Relation}

-- a relation after a change
abbrev pub changed_by : Change → Relation → Relation
changed_by c r = after_change c.out c.add r

-- what goes out and what comes in are of a heading
abbrev pub IsOfHeading : Heading → Change → Type 0
IsOfHeading h c = (c.out.heading ≡ h) × (c.add.heading ≡ h)

-- the relation of a base relvar after a change
abbrev pub given_as : Database → List ℕ → Change → Relation
given_as db name c = elim (base_named name db) as (λ _. Relation) [ Some r ↦ changed_by c r.relation | None ↦ c.add ]

-- what was given to targets by changes of what they held
abbrev pub given_in : Database → List (List ℕ × Change) → Given
given_in db = map (λ e. (e.0, given_as db e.0 e.1))

-- what an assignment gives to its target, whose relation so far is this
abbrev pub assigned_over : Database → Relation → Assignment → Outcome Relation
assigned_over db so_far a = assignment_value (source_world db (target_of a) so_far) so_far a

-- a change of a base relvar: of its heading
pub record IsChangeOf (db : Database) (change : List ℕ × Change) : Type 0 where
  pub target : BaseRelvar
  pub named : base_named change.0 db ≡ Some target
  pub headings : IsOfHeading target.relation.heading change.1

abbrev pub AreChanges : Database → List (List ℕ × Change) → Type 0
AreChanges db = AllByRecursion (IsChangeOf db)

-- what comes in has values of their types
pub record IsTypedChange (db : Database) (change : List ℕ × Change) : Type 0 where
  pub is : IsChangeOf db change
  pub typed : AreTyped db.types change.1.add

abbrev pub AreTypedChanges : Database → List (List ℕ × Change) → Type 0
AreTypedChanges db = AllByRecursion (IsTypedChange db)
