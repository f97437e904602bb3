-- What an expression of a type may have: a value of that type, or causes that no static rule has: laws (Tutorial D's; the
-- causes are this project's own).
use Rattle.std.specs.Prelude.{◌≡◌, ℕ, List, ◌++◌, Some, Result, Ok, Err, ⊤}
use Rattle.std.specs.List.{AllByRecursion}
use Rattle.td_catalog.specs.model.Database.{BaseRelvar, Database, base_named}
use Rattle.td_catalog.specs.model.TypedDatabases.{AreTyped, IsTyped}
use Rattle.td_check.specs.model.Scopes.{KnownRelvar, Scope, known_relvar}
use Rattle.td_check.specs.laws.StaticLaws.{IsScope}
use Rattle.td_check.specs.model.StaticTypes.{type_of}
use Rattle.td_eval.specs.model.DatabaseWorlds.{with_other, world_of}
use Rattle.td_eval.specs.model.TreeValues.{value_of}
use Rattle.td_eval.specs.model.Worlds.{World, with_tuples}
use Rattle.td_tree.specs.declared.cause.Cause.{Cause}
use Rattle.td_tree.specs.declared.cause.Cause.TheVariants as causes
use Rattle.td_tree.specs.declared.fault.Fault.{Fault}
use Rattle.td_tree.specs.declared.fault.Fault.TheVariants as faults
use Rattle.td_tree.specs.model.Outcomes.{Causes, Has, Outcome, Valued, Refused}
use Rattle.td_tree.specs.model.Trees.{Tree}
use Rattle.td_tree.specs.model.WrittenTrees.{IsWritten}
use Rattle.td_types.specs.model.TypeLists.{DeclaredType, declared_at}
use Rattle.td_types.specs.model.Types.{Type', pack, user}
use Rattle.td_types.specs.model.Types as forms
use Rattle.td_value.specs.model.KnownValues.{AreOfTypes, HasHeading, HasType}
use Rattle.td_value.specs.model.Values.{Val, IsRelation, IsTuple, IsValue, Relation, AreValues, Tuple, heading_of, pack_fields, pack_parts}

-- the causes that an expression which meets the static rules may be refused by (this project's own)
abbrev pub IsDynamic : Cause → Type 0
IsDynamic causes.Overflow = ⊤
IsDynamic causes.ZeroDivisor = ⊤
IsDynamic causes.EmptyAggregate = ⊤
IsDynamic causes.NotOneTuple = ⊤
IsDynamic causes.TypeConstraint = ⊤
IsDynamic causes.NotDisjoint = ⊤
IsDynamic causes.NotIncluded = ⊤
IsDynamic _ = ⊥

-- each of the causes is such a one
abbrev pub AreDynamic : Causes → Type 0
AreDynamic cs = (c : Cause) → Has cs c → IsDynamic c

-- a value, of the type where these types are declared
abbrev pub IsOfType : List DeclaredType → Val → Type' → Type 0
IsOfType ds v t = IsValue v × HasType ds v t

-- what has a type has a value of it, or such causes
abbrev pub KeepsType : List DeclaredType → Outcome Type' → Outcome Val → Type 0
KeepsType ds (Valued t) (Valued v) = IsOfType ds v t
KeepsType ds (Valued t) (Refused cs) = AreDynamic cs
KeepsType ds (Refused cs) o = ⊤

-- what is answered of an expression of a type: a value of it, such a cause, or want of memory
abbrev pub AnswersType : List DeclaredType → Type' → Result Val Fault → Type 0
AnswersType ds t (Ok v) = IsOfType ds v t
AnswersType ds t (Err (faults.Refused c)) = IsDynamic c
AnswersType ds t (Err faults.Memory) = ⊤

-- a tuple whose values are of their types
abbrev pub IsTypedTuple : List DeclaredType → Tuple → Type 0
IsTypedTuple ds t = IsTuple t × HasHeading ds (pack_fields t) (pack (heading_of t))

-- as many values as the type has components, each of its component's type
abbrev pub AreComponentsOf : List DeclaredType → DeclaredType → List Val → Type 0
AreComponentsOf ds d vs = AreValues (pack_parts vs) × AreOfTypes ds (pack_parts vs) d.components

-- the scope knows the first of the world's types, and the same relvars; each relvar has a value of its relation type, and
-- the selector of each known type gives of components a value of that type, or such causes
pub record KeepsScope (w : World) (scope : Scope) : Type 0 where
  pub scope_is : IsScope scope
  pub types : (more : List DeclaredType) × (w.scope.types ≡ scope.types ++ more)
  pub known : w.scope.relvars ≡ scope.relvars
  pub relvars :
      (n : List ℕ) (r : KnownRelvar) → known_relvar scope n ≡ Some r
      → (o : Outcome Val) × (w.relvar n ≡ Some o) × KeepsType scope.types (Valued (forms.relation (pack r.heading))) o
  pub selectors :
      (n : List ℕ) (d : DeclaredType) → declared_at n scope.types ≡ Some d
      → (f : List Val → Outcome Val) × (w.selector n ≡ Some f)
      × ((vs : List Val) → AreComponentsOf scope.types d vs → KeepsType scope.types (Valued (user n)) (f vs))

-- an expression that has a type has a value of that type, or such causes
abbrev pub ValuesKeepTypes : Type 0
ValuesKeepTypes =
    (w : World) (scope : Scope) (s : List Tuple) (e : Tree) → KeepsScope w scope
    → AllByRecursion (IsTypedTuple scope.types) s → IsWritten e
    → KeepsType scope.types (type_of (with_tuples scope s) e) (value_of w s e)

-- the world of a typed database is such a world
abbrev pub TypedDatabasesKeepScopes : Type 0
TypedDatabasesKeepScopes =
    (db : Database) → IsTyped db → KeepsScope (world_of db) (world_of db).scope

-- so is the world in which one of its base relvars has another relation of its heading
abbrev pub OtherRelationsKeepScopes : Type 0
OtherRelationsKeepScopes =
    (db : Database) (n : List ℕ) (b : BaseRelvar) (r : Relation) → KeepsScope (world_of db) (world_of db).scope → base_named n db ≡ Some b
    → IsRelation r → AreTyped db.types r → r.heading ≡ b.relation.heading
    → KeepsScope (with_other (Some (n, r)) (world_of db)) (world_of db).scope
