-- What the tables of a catalogue were: computed from what they are and the steps that led there (this project's own).
use Rattle.std.specs.Prelude.{◌≡◌, ⊤, ℕ, ◌+◌, ◌-◌, ◌≤◌, Bool, true, false, List, [], ◌∷◌, ◌++◌, count_by, fold, if◌then◌else◌, insert, length, map, take}
use Rattle.std.specs.List.{AllByRecursion}
use Rattle.indexmap.specs.IndexMap.{spare}
use Rattle.indexmap.specs.IndexSet.{spare as names_spare}
use Rattle.td_catalog.specs.code.CatalogViews.{IsBodyOf, IsCatalog, Rows, base_heading, base_view, constraint_view, database_view, known_of, known_rows, rows_of, virtual_heading, virtual_view}
use Rattle.td_catalog.specs.model.Database.{BaseRelvar, Database, NamedConstraint, VirtualRelvar, base_relvar}
use Rattle.td_catalog.specs.code.KeptDatabases.{CatalogView}
use Rattle.td_catalog.specs.model.TypedDatabases.{IsTyped}
use Rattle.td_catalog.specs.declared.entry.BaseEntry.{BaseEntry}
use Rattle.td_catalog.specs.declared.history.Step.{Step}
use Rattle.td_catalog.specs.declared.history.Step.TheVariants.{TypeAdded, BaseAdded, VirtualAdded, ConstraintAdded, TypeDropped, BaseDropped, VirtualDropped, ConstraintDropped, BodyChanged}
use Rattle.td_catalog.specs.declared.tables.Tables.{Tables}
use Rattle.td_types.specs.model.NamedTypes.{without_declared}
use Rattle.td_types.specs.model.TypeLists.{DeclaredType}
use Rattle.td_types.specs.model.Types.{Heading, same_name}
use Rattle.td_value.specs.model.Values.{Relation}

-- ---- tables as steps see them

-- a base relvar, with the heading that its entry has, the keys of its body, and what that keeps
pub record HeldBase : Type 0 where
  pub base : BaseRelvar
  pub heading : Heading
  pub body_keys : List (List (List ℕ))
  pub kept : List Relation

pub record HeldTables : Type 0 where
  pub types : List DeclaredType
  pub bases : List HeldBase
  pub virtuals : List VirtualRelvar
  pub constraints : List NamedConstraint

-- the database of them
abbrev pub database_of : HeldTables → Database
database_of held =
    record { types = held.types; bases = map (λ (b : HeldBase). b.base) held.bases; virtuals = held.virtuals; constraints = held.constraints }

-- each entry is as its body, and the database is typed
pub record IsStage (held : HeldTables) : Type 0 where
  pub entries : AllByRecursion (λ (b : HeldBase). IsBodyOf b.heading b.base.keys b.base.relation b.body_keys) held.bases
  pub is_typed : IsTyped (database_of held)

-- ---- a step taken back

-- a list without its last item
abbrev pub without_last : {A : Type 0} → List A → List A
without_last xs = take (length xs - 1) xs

-- the last item, or else that one
abbrev pub latest : {A : Type 0} → A → List A → A
latest x [] = x
latest x (y ∷ ys) = latest y ys

-- a base relvar before the latest change of its body
abbrev pub went_back : HeldBase → HeldBase
went_back b =
    record {
      base = base_relvar b.base.name b.base.keys (latest b.base.relation b.kept);
      heading = b.heading;
      body_keys = b.body_keys;
      kept = without_last b.kept;
    }

-- the one of the name, among them
abbrev pub with_body_back : List ℕ → List HeldBase → List HeldBase
with_body_back name [] = []
with_body_back name (b ∷ bs) = if same_name b.base.name name then went_back b ∷ bs else b ∷ with_body_back name bs

-- tables with another list of one kind
abbrev pub with_held_types : List DeclaredType → HeldTables → HeldTables
with_held_types types held =
    record { types = types; bases = held.bases; virtuals = held.virtuals; constraints = held.constraints }

abbrev pub with_held_bases : List HeldBase → HeldTables → HeldTables
with_held_bases bases held =
    record { types = held.types; bases = bases; virtuals = held.virtuals; constraints = held.constraints }

abbrev pub with_held_virtuals : List VirtualRelvar → HeldTables → HeldTables
with_held_virtuals virtuals held =
    record { types = held.types; bases = held.bases; virtuals = virtuals; constraints = held.constraints }

abbrev pub with_held_constraints : List NamedConstraint → HeldTables → HeldTables
with_held_constraints constraints held =
    record { types = held.types; bases = held.bases; virtuals = held.virtuals; constraints = constraints }

module _ {B : Type 0} (relation : B → Relation) (keys : B → List (List (List ℕ))) (kept : B → List Relation) where
  -- a row of a catalogue as steps see it
  abbrev pub held_base : List ℕ × BaseEntry B → HeldBase
  held_base row =
      record { base = base_view relation row; heading = row.1.heading; body_keys = keys row.1.body; kept = kept row.1.body }

  -- the rows of a catalogue as its steps see them
  abbrev pub held_view : Rows B → HeldTables
  held_view rows =
      record {
        types = rows.types;
        bases = map held_base rows.bases;
        virtuals = map virtual_view rows.virtuals;
        constraints = map constraint_view rows.constraints;
      }

  -- the tables before a step: what was added is the last of its kind, what was dropped had that place
  abbrev pub before : Step B → HeldTables → HeldTables
  before (TypeAdded name) held = with_held_types (without_declared name held.types) held
  before BaseAdded held = with_held_bases (without_last held.bases) held
  before VirtualAdded held = with_held_virtuals (without_last held.virtuals) held
  before ConstraintAdded held = with_held_constraints (without_last held.constraints) held
  before (TypeDropped types) held = with_held_types types held
  before (BaseDropped place name entry known) held = with_held_bases (insert held.bases place (held_base (name, entry))) held
  before (VirtualDropped place name entry known) held = with_held_virtuals (insert held.virtuals place (virtual_view (name, entry))) held
  before (ConstraintDropped place name entry known) held =
      with_held_constraints (insert held.constraints place (constraint_view (name, entry))) held
  before (BodyChanged name) held = with_held_bases (with_body_back name held.bases) held

  -- what is kept where one more step led to the tables: what was before those that came earlier, and what was before it
  abbrev pub kept_with : (HeldTables → List HeldTables) → Step B → HeldTables → List HeldTables
  kept_with earlier step held = earlier (before step held) ++ (before step held ∷ [])

  -- the tables before each of the steps that led to these
  abbrev pub kept_before : List (Step B) → HeldTables → List HeldTables
  kept_before steps = fold kept_with (λ _. []) steps

  -- how a catalogue of these rows is seen, with the steps that led to them
  abbrev pub history_view : Rows B → List (Step B) → CatalogView
  history_view rows steps =
      record { database = database_view relation rows; kept = map database_of (kept_before steps (held_view rows)) }

  -- the tables are well formed, and so they were before each of the steps
  pub record IsHistory (rows : Rows B) (steps : List (Step B)) : Type 0 where
    pub catalog : IsCatalog relation keys rows
    pub stages : AllByRecursion IsStage (kept_before steps (held_view rows))

-- ---- room for what was dropped

abbrev pub is_dropped : {B : Type 0} → Step B → Bool
is_dropped (TypeAdded name) = false
is_dropped BaseAdded = false
is_dropped VirtualAdded = false
is_dropped ConstraintAdded = false
is_dropped (TypeDropped types) = false
is_dropped (BaseDropped place name entry known) = true
is_dropped (VirtualDropped place name entry known) = true
is_dropped (ConstraintDropped place name entry known) = true
is_dropped (BodyChanged name) = false

-- how many of the steps moved an entry out
abbrev pub dropped_in : {B : Type 0} → List (Step B) → ℕ
dropped_in steps = count_by is_dropped steps

-- so many more entries fit into each table, with no memory taken
pub record HasRoom {B : Type 0} (entries : ℕ) (tables : Tables B) : Type 0 where
  pub bases : entries ≤ spare tables.bases
  pub virtuals : entries ≤ spare tables.virtuals
  pub constraints : entries ≤ spare tables.constraints
  pub known_bases : entries ≤ spare tables.declared.bases
  pub known_virtuals : entries ≤ spare tables.declared.virtuals
  pub known_constraints : entries ≤ names_spare tables.declared.constraints

-- at most so many places of each table's room are used
pub record UsesRoomOf {B : Type 0} (entries : ℕ) (old new : Tables B) : Type 0 where
  pub bases : spare old.bases ≤ spare new.bases + entries
  pub virtuals : spare old.virtuals ≤ spare new.virtuals + entries
  pub constraints : spare old.constraints ≤ spare new.constraints + entries
  pub known_bases : spare old.declared.bases ≤ spare new.declared.bases + entries
  pub known_virtuals : spare old.declared.virtuals ≤ spare new.declared.virtuals + entries
  pub known_constraints : names_spare old.declared.constraints ≤ names_spare new.declared.constraints + entries

-- what a step moved out makes known what its entry did
abbrev pub IsOwnStep : {B : Type 0} → Step B → Type 0
IsOwnStep (TypeAdded name) = ⊤
IsOwnStep BaseAdded = ⊤
IsOwnStep VirtualAdded = ⊤
IsOwnStep ConstraintAdded = ⊤
IsOwnStep (TypeDropped types) = ⊤
IsOwnStep (BaseDropped place name entry known) = known ≡ base_heading (name, entry)
IsOwnStep (VirtualDropped place name entry known) = known ≡ virtual_heading (name, entry)
IsOwnStep (ConstraintDropped place name entry known) = known ≡ name
IsOwnStep (BodyChanged name) = ⊤

-- what tables are with these steps: what they hold as known is what their rows make known, and they have room for all that the
-- steps moved out
pub record AreKept {B : Type 0} (relation : B → Relation) (keys : B → List (List (List ℕ))) (kept : B → List Relation)
    (tables : Tables B) (steps : List (Step B)) : Type 0 where
  pub history : IsHistory relation keys kept (rows_of tables) steps
  pub room : HasRoom (dropped_in steps) tables
  pub named : known_of tables ≡ known_rows (rows_of tables)
  pub own : AllByRecursion IsOwnStep steps
