-- What assignments give to base relvars (Tutorial D's; that a virtual relvar in a source is as before the statement, and the
-- causes, are this project's own).
use Rattle.std.specs.Prelude.{ℕ, List, [], ◌∷◌, map, option_map, Option, Some, None}
use Rattle.std.specs.Map.{lookup}
use Rattle.std.specs.Option.{option_or}
use Rattle.indexmap.specs.IndexMap.{insert_entry}
use Rattle.td_algebra.specs.model.Operators.{difference, union}
use Rattle.td_catalog.specs.model.Database.{BaseRelvar, Database, base_named, base_relvar, with_bases}
use Rattle.td_check.specs.model.OperatorTypes.{attribute_type, known_or, same_heading}
use Rattle.td_eval.specs.model.DatabaseWorlds.{with_other, world_of}
use Rattle.td_eval.specs.model.OperatorValues.{on_relation, set_value}
use Rattle.td_eval.specs.model.TreeValues.{value_of, values_in_tuples}
use Rattle.td_eval.specs.model.Worlds.{World}
use Rattle.td_tree.specs.model.Outcomes.{Outcome, Valued, gathered, value_if, with_value}
use Rattle.td_tree.specs.model.Trees.{Tree, name, binary, prefix, parentheses, Assignment, assign, insert, disjoint_insert, delete, included_delete, update, NamedTrees, none_named, more_named, restriction}
use Rattle.td_tree.specs.declared.cause.Cause.TheVariants as causes
use Rattle.td_tree.specs.declared.operator.Operator.{Operator}
use Rattle.td_tree.specs.declared.operator.Operator.TheVariants as operators
use Rattle.td_tree.specs.declared.operator.Prefix.TheVariants as prefixes
use Rattle.td_types.specs.model.Headings.{are_distinct}
use Rattle.td_types.specs.model.Types.{Attribute, Heading, same_name}
use Rattle.td_value.specs.model.Values.{Val, Relation, Tuple, relation_view}

-- ---- what a target was given so far

-- the relations that targets were given so far, by name
abbrev pub Given : Type 0
Given = List (List ℕ × Relation)

-- a target takes another relation in place of what it was given before
abbrev pub with_given : List ℕ → Relation → Given → Given
with_given target r given = insert_entry same_name given target r

abbrev pub given_to : List ℕ → Given → Option Relation
given_to target given = lookup (same_name target) given

-- the relation of a relvar so far: what it was given, else what it held before the statement
abbrev pub current : Database → Given → List ℕ → Outcome Relation
current db given target =
    known_or causes.NameUnknown (option_or (given_to target given) (option_map (λ r. r.relation) (base_named target db)))

-- ---- one assignment

-- the relation, where it is of the target's heading, else HEADING
abbrev pub of_heading : Relation → Relation → Outcome Relation
of_heading target r = value_if (same_heading r.heading target.heading) r causes.Heading

-- the value of an expression as what a target may hold
abbrev pub relation_for : Relation → World → Tree → Outcome Relation
relation_for target w e = with_value (value_of w [] e) (λ v. on_relation v (of_heading target))

-- R UNION (x), R D_UNION (x) or R I_MINUS (x), for a target R
abbrev pub combined_with : List ℕ → Operator → Tree → Tree
combined_with target op source = binary (name target) op (parentheses source)

-- DELETE R WHERE p is R := R WHERE NOT (p)
abbrev pub without_deleted : List ℕ → Tree → Tree
without_deleted target p = restriction (name target) (prefix prefixes.Not (parentheses p))

-- the tuples that UPDATE R WHERE p changes: R WHERE (p); without WHERE all
abbrev pub chosen_for : Relation → World → List ℕ → Option Tree → Outcome Relation
chosen_for cur w target None = Valued cur
chosen_for cur w target (Some p) = relation_for cur w (restriction (name target) (parentheses p))

-- the names that UPDATE sets
abbrev pub setting_names : NamedTrees → List (List ℕ)
setting_names none_named = []
setting_names (more_named n value rest) = n ∷ setting_names rest

-- these attributes of the heading: one that is missing is HEADING, and so is one twice
abbrev pub setting_attributes : Heading → List (List ℕ) → Outcome (List Attribute)
setting_attributes h names =
    with_value (gathered (map (λ n. with_value (attribute_type n h) (λ t. Valued (n, t))) names))
    (λ attributes. value_if (are_distinct names) attributes causes.Heading)

-- UPDATE R WHERE p (A := e, ..): where each e has a value in each of the chosen tuples, these with all attributes set at once, and
-- the other tuples as they are
abbrev pub updated_relation : Relation → List (List ℕ) → List (Tuple → Outcome Val) → Relation → Outcome Relation
updated_relation cur names fs chosen =
    with_value (setting_attributes cur.heading names) (λ attributes. with_value (set_value attributes fs chosen)
    (λ changed. with_value (of_heading cur changed) (λ r. Valued (union (difference cur chosen) r))))

-- what an assignment gives to its target, whose relation so far is this
abbrev pub assignment_value : World → Relation → Assignment → Outcome Relation
assignment_value w cur (assign target source) = relation_for cur w source
-- INSERT R x is R := R UNION (x), D_INSERT R x is R := R D_UNION (x), and I_DELETE R x is R := R I_MINUS (x)
assignment_value w cur (insert target source) = relation_for cur w (combined_with target operators.Union source)
assignment_value w cur (disjoint_insert target source) = relation_for cur w (combined_with target operators.DisjointUnion source)
assignment_value w cur (delete target None) = Valued (relation_view cur.heading [])
assignment_value w cur (delete target (Some p)) = relation_for cur w (without_deleted target p)
assignment_value w cur (included_delete target source) = relation_for cur w (combined_with target operators.IncludedMinus source)
assignment_value w cur (update style target condition settings) =
    with_value (chosen_for cur w target condition) (updated_relation cur (setting_names settings) (values_in_tuples w [] settings))

abbrev pub target_of : Assignment → List ℕ
target_of (assign target source) = target
target_of (insert target source) = target
target_of (disjoint_insert target source) = target
target_of (delete target condition) = target
target_of (included_delete target source) = target
target_of (update style target condition settings) = target

-- ---- all of a statement

-- in a source the name of its target means the target's relation so far, and every other relvar, base or virtual, is as before
-- the statement
abbrev pub source_world : Database → List ℕ → Relation → World
source_world db target cur = with_other (Some (target, cur)) (world_of db)

abbrev pub with_assignment : Database → Given → Assignment → Outcome Given
with_assignment db given a =
    with_value (current db given (target_of a))
    (λ cur. with_value (assignment_value (source_world db (target_of a) cur) cur a)
    (λ r. Valued (with_given (target_of a) r given)))

-- the sources are evaluated in order; the first that has causes decides
abbrev pub given_by : Database → Given → List Assignment → Outcome Given
given_by db given [] = Valued given
given_by db given (a ∷ rest) = with_value (with_assignment db given a) (λ next. given_by db next rest)

-- a base relvar with what it was given
abbrev pub with_assigned : Given → BaseRelvar → BaseRelvar
with_assigned given r =
    elim (given_to r.name given) as (λ _. BaseRelvar) [ Some relation ↦ base_relvar r.name r.keys relation | None ↦ r ]

-- all targets change at once
abbrev pub with_all_assigned : Given → Database → Database
with_all_assigned given db = with_bases (map (with_assigned given) db.bases) db

abbrev pub assigned_database : Database → List Assignment → Outcome Database
assigned_database db assignments = with_value (given_by db [] assignments) (λ given. Valued (with_all_assigned given db))
