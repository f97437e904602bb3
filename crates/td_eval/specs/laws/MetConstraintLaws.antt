-- The user values in the values of expressions and in the relations of assignments are such as are in their operands, or as
-- selectors give: laws (Tutorial D's selectors).
use Rattle.std.specs.Prelude.{◌≡◌, ℕ, Bool, List, Some}
use Rattle.std.specs.List.{AllByRecursion, Contains}
use Rattle.td_algebra.specs.model.Operators.{restriction, union}
use Rattle.td_catalog.specs.model.Database.{BaseRelvar, Database}
use Rattle.td_catalog.specs.model.TypedDatabases.{IsTyped}
use Rattle.td_eval.specs.model.DatabaseWorlds.{with_other, world_of}
use Rattle.td_eval.specs.model.MetConstraints.{EachInFields, EachUserValue, MeetConstraint, MeetsConstraints}
use Rattle.td_eval.specs.model.OperatorValues.{on_relation, set_value}
use Rattle.td_eval.specs.model.TreeValues.{value_of, values_in_tuples}
use Rattle.td_eval.specs.model.Worlds.{World, selector_outcome}
use Rattle.td_tree.specs.model.Outcomes.{Outcome, Valued}
use Rattle.td_tree.specs.model.Trees.{NamedTrees, Tree}
use Rattle.td_types.specs.model.TypeLists.{DeclaredType}
use Rattle.td_types.specs.model.Types.{Attribute}
use Rattle.td_value.specs.model.Values.{Val, Parts, Relation, Tuple, pack_fields, relation_value}

-- P holds of each user value in a tuple
abbrev pub EachInTuple : (List ℕ → Parts → Type 0) → Tuple → Type 0
EachInTuple P t = EachInFields P (pack_fields t)

-- P holds of each user value in the values that these functions have in the tuples of r
abbrev pub EachInValues : (List ℕ → Parts → Type 0) → Relation → List (Tuple → Outcome Val) → Type 0
EachInValues P r = AllByRecursion (λ f. (t : Tuple) (v : Val) → Contains r.body t → f t ≡ Valued v → EachUserValue P v)

-- each user value has P in the relvars, and in what a selector gives where it has in the components
pub record GivesOnly (P : List ℕ → Parts → Type 0) (w : World) : Type 0 where
  pub relvars : (n : List ℕ) (v : Val) → w.relvar n ≡ Some (Valued v) → EachUserValue P v
  pub selectors :
      (n : List ℕ) (vs : List Val) (v : Val) → AllByRecursion (EachUserValue P) vs → selector_outcome w n vs ≡ Valued v → EachUserValue P v

-- where the user values in the world and in the tuples in scope meet their constraints, all do;
-- so it is in a database whose base relvars meet them, also with another such relation for a relvar
pub record ValuesMeetConstraints : Type 0 where
  pub values :
      (ds : List DeclaredType) (w : World) (s : List Tuple) (e : Tree) (v : Val) → GivesOnly (MeetConstraint ds) w
      → AllByRecursion (EachInTuple (MeetConstraint ds)) s → value_of w s e ≡ Valued v → MeetsConstraints ds v
  pub parts :
      (ds : List DeclaredType) (w : World) (s : List Tuple) (parts : NamedTrees) (r : Relation) → GivesOnly (MeetConstraint ds) w
      → AllByRecursion (EachInTuple (MeetConstraint ds)) s → MeetsConstraints ds (relation_value r)
      → EachInValues (MeetConstraint ds) r (values_in_tuples w s parts)
  pub world :
      (db : Database) → IsTyped db
      → AllByRecursion (λ (b : BaseRelvar). MeetsConstraints db.types (relation_value b.relation)) db.bases
      → GivesOnly (MeetConstraint db.types) (world_of db)
  pub other :
      (ds : List DeclaredType) (w : World) (n : List ℕ) (r : Relation) → GivesOnly (MeetConstraint ds) w
      → MeetsConstraints ds (relation_value r) → GivesOnly (MeetConstraint ds) (with_other (Some (n, r)) w)

-- what assignments make of relations whose user values meet their constraints has only such
pub record AssignedRelationsMeetConstraints : Type 0 where
  pub related :
      (ds : List DeclaredType) (v : Val) (r : Relation) → MeetsConstraints ds v → on_relation v Valued ≡ Valued r
      → MeetsConstraints ds (relation_value r)
  pub united :
      (ds : List DeclaredType) (r s : Relation) → MeetsConstraints ds (relation_value r) → MeetsConstraints ds (relation_value s)
      → MeetsConstraints ds (relation_value (union r s))
  pub restricted :
      (ds : List DeclaredType) (p : Tuple → Bool) (r : Relation) → MeetsConstraints ds (relation_value r)
      → MeetsConstraints ds (relation_value (restriction p r))
  pub set :
      (ds : List DeclaredType) (attributes : List Attribute) (fs : List (Tuple → Outcome Val)) (r q : Relation)
      → MeetsConstraints ds (relation_value r) → EachInValues (MeetConstraint ds) r fs → set_value attributes fs r ≡ Valued q
      → MeetsConstraints ds (relation_value q)
