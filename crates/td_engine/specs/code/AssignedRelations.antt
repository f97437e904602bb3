-- What assignments gave, on the way to a database with it (this project's own).
use Rattle.std.specs.Prelude.{◌≡◌, ℕ, List, ◌++◌, drop, map, take, Some}
use Rattle.std.specs.List.{AllByRecursion}
use Rattle.td_algebra.specs.model.Operators.{restriction}
use Rattle.td_catalog.specs.model.Database.{BaseRelvar, Database, base_named}
use Rattle.td_catalog.specs.model.TypedDatabases.{AreTyped}
use Rattle.td_check.specs.model.OperatorTypes.{attribute_type}
use Rattle.td_engine.specs.model.Assignments.{Given, assignment_value, current, source_world, target_of, with_assigned}
use Rattle.td_eval.specs.model.OperatorValues.{is_true, truth_value}
use Rattle.td_tree.specs.model.Outcomes.{Outcome, Valued, gathered, with_value}
use Rattle.td_tree.specs.model.Trees.{Assignment}
use Rattle.td_types.specs.model.Types.{Attribute, Heading}
use Rattle.td_value.specs.model.Values.{IsRelation, Relation, Tuple, Val}

-- ---- the parts of an assignment

-- the tuples of a relation for which a condition, which has a truth value in each, is TRUE
abbrev pub restricted_relation : (Tuple → Outcome Val) → Relation → Outcome Relation
restricted_relation p r =
    with_value (gathered (map (λ t. truth_value (p t)) r.body)) (λ truths. Valued (restriction (λ t. is_true (p t)) r))

-- the attribute of a name that is set
abbrev pub setting_attribute : Heading → List ℕ → Outcome Attribute
setting_attribute h n = with_value (attribute_type n h) (λ t. Valued (n, t))

-- what an assignment gives to its target
abbrev pub assigned_of : Database → Given → Assignment → Outcome Relation
assigned_of db given a =
    with_value (current db given (target_of a)) (λ so_far. assignment_value (source_world db (target_of a) so_far) so_far a)

-- ---- what targets were given

-- a relation that the base relvar of a name may hold: one of its heading, with values of their types
pub record IsAssigned (db : Database) (assigned : List ℕ × Relation) : Type 0 where
  pub target : BaseRelvar
  pub named : base_named assigned.0 db ≡ Some target
  pub heading : assigned.1.heading ≡ target.relation.heading
  pub relation : IsRelation assigned.1
  pub typed : AreTyped db.types assigned.1

abbrev pub AreAssigned : Database → Given → Type 0
AreAssigned db = AllByRecursion (IsAssigned db)

-- the base relvars, of which the first hold what they were given
abbrev pub assigned_bases : Given → ℕ → List BaseRelvar → List BaseRelvar
assigned_bases given count bases = map (with_assigned given) (take count bases) ++ drop count bases
