-- Databases: declared types, base relvars, virtual relvars and constraints (Tutorial D's), each in order of definition (this
-- project's own).
use Rattle.std.specs.Prelude.{ℕ, Bool, List, [], ◌∷◌, ◌++◌, map, Option, if◌then◌else◌}
use Rattle.std.specs.List.{find}
use Rattle.std.specs.Set.{remove_key}
use Rattle.td_check.specs.model.Scopes.{KnownRelvar, Scope}
use Rattle.td_check.specs.declared.scope.Kind.TheVariants as kinds
use Rattle.td_tree.specs.model.Trees.{Tree}
use Rattle.td_types.specs.model.Headings.{has_name}
use Rattle.td_types.specs.model.NamedTypes.{without_declared}
use Rattle.td_types.specs.model.TypeLists.{DeclaredType}
use Rattle.td_types.specs.model.Types.{Heading, same_name}
use Rattle.td_value.specs.model.Values.{Relation}

-- a base relvar: its name, the names of each of its keys, and the relation that it holds
pub record BaseRelvar : Type 0 where
  pub name : List ℕ
  pub keys : List (List (List ℕ))
  pub relation : Relation

-- a virtual relvar: its name, the expression whose value it is with the heading of that, and the names of each of its keys
pub record VirtualRelvar : Type 0 where
  pub name : List ℕ
  pub heading : Heading
  pub tree : Tree
  pub keys : List (List (List ℕ))

-- a constraint by its name
pub record NamedConstraint : Type 0 where
  pub name : List ℕ
  pub tree : Tree

-- a database, each list in order of definition
pub record Database : Type 0 where
  pub types : List DeclaredType
  pub bases : List BaseRelvar
  pub virtuals : List VirtualRelvar
  pub constraints : List NamedConstraint

-- a base relvar by its parts
abbrev pub base_relvar : List ℕ → List (List (List ℕ)) → Relation → BaseRelvar
base_relvar name keys relation = record { name = name; keys = keys; relation = relation }

-- a virtual relvar and a constraint by their parts
abbrev pub virtual_relvar : List ℕ → Heading → Tree → List (List (List ℕ)) → VirtualRelvar
virtual_relvar name heading tree keys = record { name = name; heading = heading; tree = tree; keys = keys }

abbrev pub named_constraint : List ℕ → Tree → NamedConstraint
named_constraint name tree = record { name = name; tree = tree }

-- the database without types, relvars and constraints
abbrev pub empty_database : Database
empty_database = record { types = []; bases = []; virtuals = []; constraints = [] }

-- ---- look-ups by name

abbrev pub base_among : List ℕ → List BaseRelvar → Option BaseRelvar
base_among name = find (λ r. same_name r.name name)

-- the base relvar of a name
abbrev pub base_named : List ℕ → Database → Option BaseRelvar
base_named name db = base_among name db.bases

-- the virtual relvar of a name
abbrev pub virtual_named : List ℕ → Database → Option VirtualRelvar
virtual_named name db = find (λ v. same_name v.name name) db.virtuals

-- the constraint of a name
abbrev pub constraint_named : List ℕ → Database → Option NamedConstraint
constraint_named name db = find (λ c. same_name c.name name) db.constraints

-- the names of the relvars, base and then virtual: they share one space (this project's own)
abbrev pub relvar_names : Database → List (List ℕ)
relvar_names db = map (λ r. r.name) db.bases ++ map (λ r. r.name) db.virtuals

-- whether there is a relvar of the name: the database's scope knows the same (`knows_relvar` of td_check)
abbrev pub knows_relvar : List ℕ → Database → Bool
knows_relvar name db = has_name name (relvar_names db)

-- the names of the constraints
abbrev pub constraint_names : Database → List (List ℕ)
constraint_names db = map (λ c. c.name) db.constraints

-- whether there is a constraint of the name: the database's scope knows the same (`knows_constraint` of td_check)
abbrev pub knows_constraint : List ℕ → Database → Bool
knows_constraint name db = has_name name (constraint_names db)

-- ---- changes: what is added stands last in its list

-- the database with other base relvars
abbrev pub with_bases : List BaseRelvar → Database → Database
with_bases bases db =
    record { types = db.types; bases = bases; virtuals = db.virtuals; constraints = db.constraints }

-- with other virtual relvars
abbrev pub with_virtuals : List VirtualRelvar → Database → Database
with_virtuals virtuals db =
    record { types = db.types; bases = db.bases; virtuals = virtuals; constraints = db.constraints }

-- the database with other constraints
abbrev pub with_constraints : List NamedConstraint → Database → Database
with_constraints constraints db =
    record { types = db.types; bases = db.bases; virtuals = db.virtuals; constraints = constraints }

-- the database with one more declared type
abbrev pub with_declared : DeclaredType → Database → Database
with_declared d db =
    record { types = db.types ++ (d ∷ []); bases = db.bases; virtuals = db.virtuals; constraints = db.constraints }

-- the database with one more base relvar
abbrev pub with_base : BaseRelvar → Database → Database
with_base r db = with_bases (db.bases ++ (r ∷ [])) db

-- the database with one more virtual relvar
abbrev pub with_virtual : VirtualRelvar → Database → Database
with_virtual v db = with_virtuals (db.virtuals ++ (v ∷ [])) db

-- the database with one more constraint
abbrev pub with_constraint : NamedConstraint → Database → Database
with_constraint c db = with_constraints (db.constraints ++ (c ∷ [])) db

-- the base relvar of the name holds that relation
abbrev pub with_relation : List ℕ → Relation → List BaseRelvar → List BaseRelvar
with_relation name relation [] = []
with_relation name relation (r ∷ rs) =
    if same_name r.name name then base_relvar r.name r.keys relation ∷ rs else r ∷ with_relation name relation rs

-- the database where the base relvar of the name holds that relation, else unchanged
abbrev pub with_body : List ℕ → Relation → Database → Database
with_body name relation db = with_bases (with_relation name relation db.bases) db

-- without the type of the name
abbrev pub without_type : List ℕ → Database → Database
without_type name db =
    record { types = without_declared name db.types; bases = db.bases; virtuals = db.virtuals; constraints = db.constraints }

-- without the relvar of the name, base or virtual
abbrev pub without_relvar : List ℕ → Database → Database
without_relvar name db =
    record {
      types = db.types;
      bases = remove_key (λ r. same_name r.name name) db.bases;
      virtuals = remove_key (λ v. same_name v.name name) db.virtuals;
      constraints = db.constraints;
    }

-- without the constraint of the name
abbrev pub without_constraint : List ℕ → Database → Database
without_constraint name db = with_constraints (remove_key (λ c. same_name c.name name) db.constraints) db

-- ---- what is known to expressions

-- a base relvar as a scope knows it
abbrev pub known_base : BaseRelvar → KnownRelvar
known_base r = record { name = r.name; kind = kinds.Base; heading = r.relation.heading }

-- a virtual relvar as a scope knows it
abbrev pub known_virtual : VirtualRelvar → KnownRelvar
known_virtual v = record { name = v.name; kind = kinds.Virtual; heading = v.heading }

-- where the types, the base relvars, the virtual relvars and the constraints of the database are known, and no tuple is in
-- hand
abbrev pub database_scope : Database → Scope
database_scope db =
    record {
      types = db.types;
      relvars = map known_base db.bases ++ map known_virtual db.virtuals;
      constraints = constraint_names db;
      entered = [];
    }
