-- What holds of a database between any two statements (Tutorial D's; the limit on ranks and the spaces of names are this
-- project's own).
use Rattle.std.specs.Prelude.{◌≡◌, ◌≤◌, ℕ, true, List, [], length, map, Option, Some, None, IsTrue, ⊤, Bool}
use Rattle.std.specs.List.{AllByRecursion}
use Rattle.td_body.specs.model.Bodies.{KeyHolds}
use Rattle.td_catalog.specs.model.Database.{BaseRelvar, Database, NamedConstraint, VirtualRelvar}
use Rattle.td_catalog.specs.model.Dumps.{ordered_names}
use Rattle.td_catalog.specs.model.TypedDatabases.{EachAfter, IsTyped}
use Rattle.td_check.specs.model.StatementTypes.{heading_rank_fits, keys_allowed, rank_fits}
use Rattle.td_engine.specs.model.Checks.{virtual_test}
use Rattle.td_engine.specs.model.Machine.{State, transaction_limit, Progress, Runs, progress_at_first}
use Rattle.td_eval.specs.model.DatabaseWorlds.{world_of}
use Rattle.td_eval.specs.model.MetConstraints.{MeetsConstraints}
use Rattle.td_eval.specs.model.OperatorValues.{truth_value}
use Rattle.td_eval.specs.model.TreeValues.{value_of}
use Rattle.td_eval.specs.model.Worlds.{World}
use Rattle.td_tree.specs.model.Outcomes.{Valued}
use Rattle.td_tree.specs.model.StatementGrammar.{ExpressionItem}
use Rattle.td_tree.specs.model.Statements.{PlacedToken}
use Rattle.td_tree.specs.model.TokenLexemes.{lexemes}
use Rattle.td_tree.specs.model.Trees.{Tree}
use Rattle.td_types.specs.model.TypeLists.{DeclaredType}
use Rattle.td_types.specs.model.Types.{Heading}
use Rattle.td_value.specs.model.Values.{Tuple, relation_value}

-- a constraint is TRUE
abbrev pub IsTrueOf : World → NamedConstraint → Type 0
IsTrueOf w c = truth_value (value_of w [] c.tree) ≡ Valued true

-- a virtual relvar that has keys has a value, and they hold
abbrev pub HasKeysThatHold : World → VirtualRelvar → Type 0
HasKeysThatHold w v = virtual_test w v ≡ Valued true

-- some tokens spell the expression: so it is at most as high as the grammar allows
abbrev pub IsSpelledExpression : Tree → Type 0
IsSpelledExpression e = (tokens : List PlacedToken) × ExpressionItem (lexemes tokens) e

abbrev pub IsSpelledIf : Option Tree → Type 0
IsSpelledIf None = ⊤
IsSpelledIf (Some e) = IsSpelledExpression e

-- some tokens spell each expression in the definitions of the database
pub record AreSpelled (db : Database) : Type 0 where
  pub types : AllByRecursion (λ d. IsSpelledIf d.constraint) db.types
  pub virtuals : AllByRecursion (λ v. IsSpelledExpression v.tree) db.virtuals
  pub constraints : AllByRecursion (λ c. IsSpelledExpression c.tree) db.constraints

-- the names of each key stand in name order
abbrev pub AreOrdered : Heading → List (List (List ℕ)) → Type 0
AreOrdered h keys = map (ordered_names h) keys ≡ keys

pub record KeysAreOrdered (db : Database) : Type 0 where
  pub bases : AllByRecursion (λ r. AreOrdered r.relation.heading r.keys) db.bases
  pub virtuals : AllByRecursion (λ v. AreOrdered v.heading v.keys) db.virtuals

-- ---- what the static rules ask beside types

-- the rank of a declared type is within the limit where the earlier types are declared
abbrev pub IsRanked : List DeclaredType → DeclaredType → Type 0
IsRanked earlier d = rank_fits earlier d.components ≡ Valued tt

-- the rank of a relvar's relation type is within the limit where these types are declared
abbrev pub IsRankedHeading : List DeclaredType → Heading → Type 0
IsRankedHeading types h = heading_rank_fits types h ≡ Valued tt

-- keys that a base relvar of the heading may have: there is one, the names of each are distinct attributes, and none
-- includes another
pub record AreBaseKeys (heading : Heading) (keys : List (List (List ℕ))) : Type 0 where
  pub some : keys ≡ [] → ⊥
  pub allowed : IsTrue (keys_allowed heading keys)

-- each of the keys holds
abbrev pub KeysHold : List (List (List ℕ)) → List Tuple → Type 0
KeysHold keys tuples = AllByRecursion (λ key. KeyHolds key tuples) keys

-- a base relvar of a rank within the limit, with keys that it may have and that hold
pub record IsRuledBase (types : List DeclaredType) (r : BaseRelvar) : Type 0 where
  pub ranked : IsRankedHeading types r.relation.heading
  pub keys : AreBaseKeys r.relation.heading r.keys
  pub hold : KeysHold r.keys r.relation.body

-- a virtual relvar of a rank within the limit, with keys that it may have
pub record IsRuledVirtual (types : List DeclaredType) (v : VirtualRelvar) : Type 0 where
  pub ranked : IsRankedHeading types v.heading
  pub keys : IsTrue (keys_allowed v.heading v.keys)

-- ---- legal databases

pub record IsLegal (db : Database) : Type 0 where
  -- expressions have their types, and mention what stands before them: so it is in every catalogue
  pub typed : IsTyped db
  -- ranks are within the limit; keys are allowed, and those of base relvars hold
  pub ranked : EachAfter IsRanked db.types
  pub bases : AllByRecursion (IsRuledBase db.types) db.bases
  pub derived : AllByRecursion (IsRuledVirtual db.types) db.virtuals
  -- some tokens spell each expression in them, and the names of keys stand in name order
  pub spelled : AreSpelled db
  pub ordered : KeysAreOrdered db
  -- each user value in a base relvar meets its type's constraint
  pub types : AllByRecursion (λ r. MeetsConstraints db.types (relation_value r.relation)) db.bases
  pub virtuals : AllByRecursion (HasKeysThatHold (world_of db)) db.virtuals
  pub constraints : AllByRecursion (IsTrueOf (world_of db)) db.constraints

-- what holds between any two statements, with the databases that open transactions keep
pub record IsLegalState (s : State) : Type 0 where
  pub database : IsLegal s.database
  pub kept : AllByRecursion IsLegal s.kept
  pub few : length s.kept ≤ transaction_limit

-- whatever statements are run from a state, what stands after them is legal: so it is between any two of a script
abbrev pub IsLegalThroughout : Bool → State → Type 0
IsLegalThroughout stop s = (script : List (List PlacedToken)) (p : Progress) → Runs stop (progress_at_first s) script p → IsLegalState p.state
