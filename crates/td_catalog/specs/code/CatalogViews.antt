-- What the code's catalogue stands for, and what it keeps beside bodies.
use Rattle.std.specs.Prelude.{◌≡◌, ℕ, List, map}
use Rattle.std.specs.List.{AllByRecursion}
use Rattle.td_catalog.specs.model.Database.{BaseRelvar, Database, NamedConstraint, VirtualRelvar, base_relvar, named_constraint, virtual_relvar}
use Rattle.td_catalog.specs.model.TypedDatabases.{IsTyped}
use Rattle.td_catalog.specs.declared.entry.BaseEntry.{BaseEntry}
use Rattle.td_catalog.specs.declared.entry.ConstraintEntry.{ConstraintEntry}
use Rattle.td_catalog.specs.declared.entry.VirtualEntry.{VirtualEntry}
use Rattle.td_catalog.specs.declared.tables.Tables.{Tables}
use Rattle.td_types.specs.model.TypeLists.{DeclaredType}
use Rattle.td_types.specs.model.Types.{Heading}
use Rattle.td_value.specs.model.Values.{Relation}

-- the names of each of an entry's keys
abbrev pub entry_keys : {B : Type 0} → BaseEntry B → List (List (List ℕ))
entry_keys entry = map (λ key. key.items) entry.keys.items

-- the base relvar of a name and its entry, where bodies are these relations
abbrev pub base_view : {B : Type 0} → (B → Relation) → List ℕ × BaseEntry B → BaseRelvar
base_view relation row = base_relvar row.0 (entry_keys row.1) (relation row.1.body)

-- the virtual relvar of a name and its entry
abbrev pub virtual_view : List ℕ × VirtualEntry → VirtualRelvar
virtual_view row =
    virtual_relvar row.0 row.1.heading row.1.tree (map (λ key. key.items) row.1.keys.items)

-- the constraint of a name and its entry
abbrev pub constraint_view : List ℕ × ConstraintEntry → NamedConstraint
constraint_view row = named_constraint row.0 row.1.tree

-- the rows of a catalogue, each list by name
pub record Rows (B : Type 0) : Type 0 where
  pub types : List DeclaredType
  pub bases : List (List ℕ × BaseEntry B)
  pub virtuals : List (List ℕ × VirtualEntry)
  pub constraints : List (List ℕ × ConstraintEntry)

-- the rows that a catalogue's tables hold
abbrev pub rows_of : {B : Type 0} → Tables B → Rows B
rows_of tables =
    record {
      types = tables.types;
      bases = tables.bases.entries;
      virtuals = tables.virtuals.entries;
      constraints = tables.constraints.entries;
    }

-- a base relvar's and a virtual relvar's name with the heading that its entry has
abbrev pub base_heading : {B : Type 0} → List ℕ × BaseEntry B → List ℕ × Heading
base_heading row = (row.0, row.1.heading)

abbrev pub virtual_heading : List ℕ × VirtualEntry → List ℕ × Heading
virtual_heading row = (row.0, row.1.heading)

-- what is known to expressions beside types: relvars with their headings, and constraints' names
pub record Known : Type 0 where
  pub bases : List (List ℕ × Heading)
  pub virtuals : List (List ℕ × Heading)
  pub constraints : List (List ℕ)

-- that which the rows make known, and that which tables hold of it
abbrev pub known_rows : {B : Type 0} → Rows B → Known
known_rows rows =
    record { bases = map base_heading rows.bases; virtuals = map virtual_heading rows.virtuals; constraints = map (λ row. row.0) rows.constraints }

abbrev pub known_of : {B : Type 0} → Tables B → Known
known_of tables =
    record { bases = tables.declared.bases.entries; virtuals = tables.declared.virtuals.entries; constraints = tables.declared.constraints.keys }

-- the database that the rows of a catalogue are
abbrev pub database_view : {B : Type 0} → (B → Relation) → Rows B → Database
database_view relation rows =
    record {
      types = rows.types;
      bases = map (base_view relation) rows.bases;
      virtuals = map virtual_view rows.virtuals;
      constraints = map constraint_view rows.constraints;
    }

-- a body of this relation and of these keys, for a relvar of that heading and of those keys
pub record IsBodyOf (heading : Heading) (names : List (List (List ℕ))) (relation : Relation) (keys : List (List (List ℕ))) : Type 0 where
  pub heading_is : relation.heading ≡ heading
  pub keys_are : keys ≡ names

-- the entry's heading and keys are those of its body
abbrev pub IsEntry : {B : Type 0} → (B → Relation) → (B → List (List (List ℕ))) → BaseEntry B → Type 0
IsEntry relation keys entry = IsBodyOf entry.heading (entry_keys entry) (relation entry.body) (keys entry.body)

-- each entry is as its body
abbrev pub AreEntries : {B : Type 0} → (B → Relation) → (B → List (List (List ℕ))) → List (List ℕ × BaseEntry B) → Type 0
AreEntries relation keys = AllByRecursion (λ row. IsEntry relation keys row.1)

-- what a catalogue is: each entry is as its body, and the database is typed
pub record IsCatalog {B : Type 0} (relation : B → Relation) (keys : B → List (List (List ℕ))) (rows : Rows B) : Type 0 where
  pub entries : AreEntries relation keys rows.bases
  pub is_typed : IsTyped (database_view relation rows)
