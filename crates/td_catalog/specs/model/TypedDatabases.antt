-- What every catalogue is: a database whose expressions have the types that their place asks, and mention what stands before
-- them (Tutorial D's; the one space of relvars' names is this project's own).
use Rattle.std.specs.Prelude.{◌≡◌, List, [], ◌∷◌, ◌++◌, IsTrue}
use Rattle.std.specs.List.{AllByRecursion}
use Rattle.td_catalog.specs.model.Database.{BaseRelvar, Database, NamedConstraint, VirtualRelvar, constraint_names, database_scope, relvar_names, with_virtuals}
use Rattle.td_catalog.specs.model.WrittenDefinitions.{DefinitionsAreWritten}
use Rattle.td_check.specs.model.Scopes.{Scope, scope_of}
use Rattle.td_check.specs.model.StaticTypes.{type_of}
use Rattle.td_check.specs.model.StatementTypes.{constraint_fits}
use Rattle.td_tree.specs.model.Names.{IsName}
use Rattle.td_tree.specs.model.Outcomes.{Valued}
use Rattle.td_types.specs.model.Headings.{are_distinct}
use Rattle.td_types.specs.model.TypeLists.{AreDeclared, AreKnown, DeclaredType}
use Rattle.td_types.specs.model.Types.{Attribute, attribute_names, boolean, pack, relation}
use Rattle.td_value.specs.model.KnownValues.{HaveHeading}
use Rattle.td_value.specs.model.Values.{Relation, IsRelation, pack_rows}

-- P holds of each of a list, with those that stand before it
abbrev pub EachAfter : {A : Type 0} → (List A → A → Type 0) → List A → Type 0
EachAfter {A} P xs = (earlier later : List A) (x : A) → xs ≡ earlier ++ (x ∷ later) → P earlier x

-- the components that a type may have after these: there is one, their names are distinct, and their user types are declared
pub record AreComponents (earlier : List DeclaredType) (components : List Attribute) : Type 0 where
  pub some : components ≡ [] → ⊥
  pub distinct : IsTrue (are_distinct (attribute_names components))
  pub known : AreKnown earlier (pack components)

-- the constraint of a type is BOOLEAN where its components and the earlier types alone are known
abbrev pub IsConstrained : List DeclaredType → DeclaredType → Type 0
IsConstrained earlier d = constraint_fits (scope_of earlier) d.components d.constraint ≡ Valued tt

-- the values in the relation are of their types, where these types are declared
abbrev pub AreTyped : List DeclaredType → Relation → Type 0
AreTyped types r = HaveHeading types (pack_rows r.body) (pack r.heading)

-- a base relvar whose heading is of declared types, and whose relation is of it
pub record IsTypedBase (types : List DeclaredType) (r : BaseRelvar) : Type 0 where
  pub known : AreKnown types (pack r.relation.heading)
  pub relation : IsRelation r.relation
  pub typed : AreTyped types r.relation

-- a virtual relvar whose heading is of declared types, and whose expression is a relation of it, where these types and relvars
-- are known
pub record IsTypedVirtual (scope : Scope) (v : VirtualRelvar) : Type 0 where
  pub known : AreKnown scope.types (pack v.heading)
  pub typed : type_of scope v.tree ≡ Valued (relation (pack v.heading))

-- a constraint whose expression is BOOLEAN
abbrev pub IsTypedConstraint : Scope → NamedConstraint → Type 0
IsTypedConstraint scope c = type_of scope c.tree ≡ Valued boolean

-- the types can be declared in their order, each is constrained where the earlier ones are declared; the names of relvars are
-- names and distinct, and so are those of constraints; each base relvar is typed, each virtual relvar is where the types, the
-- base relvars and the earlier virtual relvars are known, and each constraint is where all of these are; definitions are written
-- as tokens spell them
pub record IsTyped (db : Database) : Type 0 where
  pub declared : AreDeclared db.types
  pub constrained : EachAfter IsConstrained db.types
  pub named : AllByRecursion IsName (relvar_names db)
  pub distinct : IsTrue (are_distinct (relvar_names db))
  pub bases : AllByRecursion (IsTypedBase db.types) db.bases
  pub virtuals : EachAfter (λ earlier v. IsTypedVirtual (database_scope (with_virtuals earlier db)) v) db.virtuals
  pub constraints_named : AllByRecursion IsName (constraint_names db)
  pub constraints_distinct : IsTrue (are_distinct (constraint_names db))
  pub constraints : AllByRecursion (IsTypedConstraint (database_scope db)) db.constraints
  pub written : DefinitionsAreWritten db
