-- The static rules of definitions, drops and assignments, tested before anything is carried out
-- (Tutorial D's; the causes are this project's own). A name that is taken, a target that is not known and one that is
-- virtual count beside the causes of the parts.
use Rattle.std.specs.Prelude.{ℕ, Bool, true, not, ◌&&◌, ◌||◌, List, [], ◌∷◌, map, Option, Some, None, is_some, ⊤}
use Rattle.std.specs.List.{list_all}
use Rattle.td_check.specs.declared.scope.Kind.TheVariants as kinds
use Rattle.td_check.specs.model.OperatorTypes.{attribute_type, if_type, over_relation, same_heading}
use Rattle.td_check.specs.model.Scopes.{KnownRelvar, Scope, alone_with, entered_with, known_relvar, knows_constraint}
use Rattle.td_check.specs.model.StaticTypes.{named_types, type_of}
use Rattle.td_tree.specs.declared.cause.Cause.{Cause}
use Rattle.td_tree.specs.declared.cause.Cause.TheVariants as causes
use Rattle.td_tree.specs.model.Outcomes.{Outcome, Valued, Refused, Only, gathered, with_value, with_both, value_if}
use Rattle.td_tree.specs.model.Trees.{AttributeTrees, Tree, Assignment, assign, insert, disjoint_insert, delete, included_delete, update, Statement, empty, define_type, drop_type, define_base, define_virtual, drop_var, define_constraint, drop_constraint, assign_all, begin_transaction, commit, rollback, write, dump}
use Rattle.td_types.specs.model.Headings.{are_distinct, has_attributes, has_name, heading_from}
use Rattle.td_types.specs.model.TypeLists.{DeclaredType, attributes_meant, heading_meant, is_declared, limited_rank}
use Rattle.td_types.specs.model.Types.{Type', boolean, tuple, relation, Attribute, Heading, attribute_names, pack}

-- what holds, else that cause
abbrev pub holds_or : Cause → Bool → Outcome ⊤
holds_or cause test = value_if test tt cause

-- both requirements hold; else the causes of both
abbrev pub both_hold : Outcome ⊤ → Outcome ⊤ → Outcome ⊤
both_hold p q = with_both p q (λ _ _. Valued tt)

-- ---- definitions

-- the components of a type: an unknown type is NAME_UNKNOWN, a component twice HEADING
abbrev pub components_meant : List DeclaredType → AttributeTrees → Outcome (List Attribute)
components_meant ds components =
    with_value (attributes_meant ds components)
    (λ attributes. value_if (are_distinct (attribute_names attributes)) attributes causes.Heading)

-- the rank of a type is within the limit
abbrev pub type_rank_fits : List DeclaredType → Type' → Outcome ⊤
type_rank_fits ds t = with_value (limited_rank ds t) (λ _. Valued tt)

-- the rank of a user type, which is that of a tuple of its components, is within the limit
abbrev pub rank_fits : List DeclaredType → List Attribute → Outcome ⊤
rank_fits ds components = type_rank_fits ds (tuple (pack components))

-- the constraint of a type is BOOLEAN where its components and the earlier types alone are known
abbrev pub constraint_fits : Scope → List Attribute → Option Tree → Outcome ⊤
constraint_fits scope components None = Valued tt
constraint_fits scope components (Some constraint) =
    with_value (type_of (alone_with (heading_from components) scope) constraint) (λ t. if_type boolean t tt)

-- whether each name of the first key is one of the second
abbrev pub is_included : List (List ℕ) → List (List ℕ) → Bool
is_included key other = list_all (λ name. has_name name other) key

-- whether no key includes a later one, nor a later one it
abbrev pub none_includes : List (List (List ℕ)) → Bool
none_includes [] = true
none_includes (key ∷ keys) =
    list_all (λ other. not (is_included key other || is_included other key)) keys && none_includes keys

-- whether the names of each key are distinct attributes, and no key includes another
abbrev pub keys_allowed : Heading → List (List (List ℕ)) → Bool
keys_allowed h keys = list_all (λ key. has_attributes key h && are_distinct key) keys && none_includes keys

-- the keys are allowed for the heading: else KEY_DECLARATION
abbrev pub keys_asked : Heading → List (List (List ℕ)) → Outcome ⊤
keys_asked h keys = holds_or causes.KeyDeclaration (keys_allowed h keys)

-- a base relvar has a key
abbrev pub has_key : List (List (List ℕ)) → Outcome ⊤
has_key [] = Refused (Only causes.KeyDeclaration)
has_key (key ∷ keys) = Valued tt

-- a value for a relvar: a relation of its heading
abbrev pub relation_fits : Heading → Type' → Outcome ⊤
relation_fits h t = over_relation t (λ g. holds_or causes.Heading (same_heading g h))

-- the type of an expression, where it is given
abbrev pub type_if_given : Scope → Option Tree → Outcome (Option Type')
type_if_given scope None = Valued None
type_if_given scope (Some e) = with_value (type_of scope e) (λ t. Valued (Some t))

-- what is asked of INIT's type, where it is given
abbrev pub init_fits : Heading → Option Type' → Outcome ⊤
init_fits h None = Valued tt
init_fits h (Some t) = relation_fits h t

-- the rank of a relvar's type is within the limit
abbrev pub heading_rank_fits : List DeclaredType → Heading → Outcome ⊤
heading_rank_fits ds h = type_rank_fits ds (relation (pack h))

-- ---- assignments

-- a target that is not known is NAME_UNKNOWN, one that is virtual NOT_ASSIGNABLE
abbrev pub is_target : Option KnownRelvar → Outcome ⊤
is_target None = Refused (Only causes.NameUnknown)
is_target (Some r) = elim r.kind as (λ _. Outcome ⊤) [ kinds.Base ↦ Valued tt | kinds.Virtual ↦ Refused (Only causes.NotAssignable) ]

-- what is assigned, inserted or taken away: a relation, of the target's heading where that is known
abbrev pub source_fits : Option KnownRelvar → Type' → Outcome ⊤
source_fits None t = over_relation t (λ g. Valued tt)
source_fits (Some r) t = relation_fits r.heading t

-- the type of a condition, where there is one
abbrev pub condition_fits : Option Type' → Outcome ⊤
condition_fits None = Valued tt
condition_fits (Some t) = if_type boolean t tt

-- an attribute is set to a value of its type; it must be there
abbrev pub setting_fits : Heading → Attribute → Outcome ⊤
setting_fits h setting = with_value (attribute_type setting.0 h) (λ t. if_type t setting.1 tt)

-- each attribute that is set gets a value of its type, and none is set twice
abbrev pub settings_fit : Heading → List Attribute → Outcome ⊤
settings_fit h settings =
    both_hold (holds_or causes.Heading (are_distinct (attribute_names settings)))
    (with_value (gathered (map (setting_fits h) settings)) (λ _. Valued tt))

-- what stands in the target's tuples is checked only where the target is known
abbrev pub in_target : Scope → Option KnownRelvar → (Scope → Heading → Outcome ⊤) → Outcome ⊤
in_target scope None f = Valued tt
in_target scope (Some r) f = f (entered_with r.heading scope) r.heading

abbrev pub assignment_checked : Scope → Assignment → Outcome ⊤
assignment_checked scope (assign target source) =
    both_hold (is_target (known_relvar scope target))
    (with_value (type_of scope source) (source_fits (known_relvar scope target)))
assignment_checked scope (insert target source) =
    both_hold (is_target (known_relvar scope target))
    (with_value (type_of scope source) (source_fits (known_relvar scope target)))
assignment_checked scope (disjoint_insert target source) =
    both_hold (is_target (known_relvar scope target))
    (with_value (type_of scope source) (source_fits (known_relvar scope target)))
assignment_checked scope (delete target condition) =
    both_hold (is_target (known_relvar scope target))
    (in_target scope (known_relvar scope target) (λ inside h. with_value (type_if_given inside condition) condition_fits))
assignment_checked scope (included_delete target source) =
    both_hold (is_target (known_relvar scope target))
    (with_value (type_of scope source) (source_fits (known_relvar scope target)))
assignment_checked scope (update style target condition settings) =
    both_hold (is_target (known_relvar scope target))
    (in_target scope (known_relvar scope target) (λ inside h. with_both (type_if_given inside condition) (named_types inside settings)
    (λ c values. both_hold (condition_fits c) (settings_fit h values))))

-- ---- statements

-- whether there is a relvar of the name, base or virtual
abbrev pub knows_relvar : List ℕ → Scope → Bool
knows_relvar name scope = is_some (known_relvar scope name)

abbrev pub statement_checked : Scope → Statement → Outcome ⊤
statement_checked scope empty = Valued tt
statement_checked scope (define_type name components constraint) =
    both_hold (holds_or causes.NameTaken (not (is_declared name scope.types)))
    (with_value (components_meant scope.types components) (λ attributes.
    both_hold (constraint_fits scope attributes constraint) (rank_fits scope.types attributes)))
statement_checked scope (drop_type name) = holds_or causes.NameUnknown (is_declared name scope.types)
-- the new relvar is not known in INIT's expression
statement_checked scope (define_base name heading init keys) =
    both_hold (holds_or causes.NameTaken (not (knows_relvar name scope)))
    (with_both (heading_meant scope.types heading) (type_if_given scope init) (λ h t.
    both_hold (init_fits h t) (both_hold (both_hold (has_key keys) (keys_asked h keys)) (heading_rank_fits scope.types h))))
statement_checked scope (define_virtual name expression keys) =
    both_hold (holds_or causes.NameTaken (not (knows_relvar name scope)))
    (with_value (type_of scope expression) (λ t. over_relation t (λ h.
    both_hold (keys_asked h keys) (heading_rank_fits scope.types h))))
statement_checked scope (drop_var name) = holds_or causes.NameUnknown (knows_relvar name scope)
statement_checked scope (define_constraint name condition) =
    both_hold (holds_or causes.NameTaken (not (knows_constraint name scope)))
    (with_value (type_of scope condition) (λ t. if_type boolean t tt))
statement_checked scope (drop_constraint name) = holds_or causes.NameUnknown (knows_constraint name scope)
statement_checked scope (assign_all assignments) =
    with_value (gathered (map (assignment_checked scope) assignments)) (λ _. Valued tt)
statement_checked scope begin_transaction = Valued tt
statement_checked scope commit = Valued tt
statement_checked scope rollback = Valued tt
statement_checked scope (write expression) = with_value (type_of scope expression) (λ _. Valued tt)
statement_checked scope dump = Valued tt
