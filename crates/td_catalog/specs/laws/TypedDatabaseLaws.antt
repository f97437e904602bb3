-- Laws of typed databases: which changes keep one typed.
use Rattle.std.specs.Prelude.{◌≡◌, ℕ, List, IsTrue, Some, not}
use Rattle.td_catalog.specs.model.Database.{BaseRelvar, Database, NamedConstraint, VirtualRelvar, base_named, base_relvar, database_scope, empty_database, knows_constraint, knows_relvar, with_base, with_body, with_constraint, with_declared, with_virtual, without_constraint, without_relvar, without_type}
use Rattle.td_catalog.specs.model.Mentioned.{is_relvar_in_use, is_type_in_use}
use Rattle.td_catalog.specs.model.TypedDatabases.{IsConstrained, IsTyped, IsTypedBase, IsTypedConstraint, IsTypedVirtual}
use Rattle.td_catalog.specs.model.WrittenDefinitions.{ConstraintIsWritten}
use Rattle.td_tree.specs.model.Names.{IsName}
use Rattle.td_tree.specs.model.WrittenTrees.{IsWritten}
use Rattle.td_types.specs.model.TypeLists.{DeclaredType, IsDeclarable}
use Rattle.td_value.specs.model.Values.{Relation}

-- a database in which nothing is defined
abbrev pub EmptyDatabaseIsTyped : Type 0
EmptyDatabaseIsTyped = IsTyped empty_database

-- a database stays typed with one more type that may be declared after the others
abbrev pub TypesKeepTyped : Type 0
TypesKeepTyped =
    (db : Database) (d : DeclaredType) → IsTyped db → IsDeclarable db.types d → IsConstrained db.types d → ConstraintIsWritten d
    → IsTyped (with_declared d db)

-- a database stays typed with one more base relvar, of a new name
abbrev pub BaseRelvarsKeepTyped : Type 0
BaseRelvarsKeepTyped =
    (db : Database) (r : BaseRelvar) → IsTyped db → IsName r.name → IsTrue (not (knows_relvar r.name db)) → IsTypedBase db.types r
    → IsTyped (with_base r db)

-- a database stays typed with one more virtual relvar, of a new name
abbrev pub VirtualRelvarsKeepTyped : Type 0
VirtualRelvarsKeepTyped =
    (db : Database) (v : VirtualRelvar) → IsTyped db → IsName v.name → IsTrue (not (knows_relvar v.name db))
    → IsTypedVirtual (database_scope db) v → IsWritten v.tree → IsTyped (with_virtual v db)

-- a database stays typed with one more constraint, of a new name
abbrev pub ConstraintsKeepTyped : Type 0
ConstraintsKeepTyped =
    (db : Database) (c : NamedConstraint) → IsTyped db → IsName c.name → IsTrue (not (knows_constraint c.name db))
    → IsTypedConstraint (database_scope db) c → IsTyped (with_constraint c db)

-- a database stays typed where a base relvar is given another relation of its heading
abbrev pub BodiesKeepTyped : Type 0
BodiesKeepTyped =
    (db : Database) (name : List ℕ) (relation : Relation) → IsTyped db
    → ((r : BaseRelvar) → base_named name db ≡ Some r → (relation.heading ≡ r.relation.heading) × IsTypedBase db.types (base_relvar name r.keys relation))
    → IsTyped (with_body name relation db)

-- one entry less, that no entry mentions
pub record DropsKeepTyped : Type 0 where
  pub type : (db : Database) (name : List ℕ) → IsTyped db → IsTrue (not (is_type_in_use name db)) → IsTyped (without_type name db)
  pub relvar : (db : Database) (name : List ℕ) → IsTyped db → IsTrue (not (is_relvar_in_use name db)) → IsTyped (without_relvar name db)
  pub constraint : (db : Database) (name : List ℕ) → IsTyped db → IsTyped (without_constraint name db)
