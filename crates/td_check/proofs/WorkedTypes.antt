-- The type of some expressions, and what is asked of some statements, worked from the definitions alone: in a scope with a
-- base relvar R of the heading {K INTEGER} and a virtual one V of the heading {K INTEGER, S CHAR}.
use Rattle.std.proofs.Common.{◌≡◌, [], ◌∷◌, Some, None, refl, false}
use Rattle.std.specs.Prelude.{codes}
use Rattle.td_check.specs.model.Mentions.{relvars_in}
use Rattle.td_check.specs.model.Scopes.{Scope}
use Rattle.td_check.specs.model.StatementTypes.{statement_checked}
use Rattle.td_check.specs.model.StaticTypes.{type_of}
use Rattle.td_check.specs.declared.scope.Kind.TheVariants.{Base, Virtual}
use Rattle.td_tree.specs.model.Outcomes.{Valued, named_cause}
use Rattle.td_tree.specs.model.Trees.{Tree, literal, number, text, name, parentheses, compare, binary, postfix, project, only, extend, extend_setting, binding, more_named, none_named, AttributeTrees, attribute, no_attributes, define_base, define_virtual, assign_all, assign, insert, disjoint_insert, included_delete, update, summarize_per, summed, no_summaries, more, none, select, rename, restriction}
use Rattle.td_tree.specs.model.Trees as trees
use Rattle.td_tree.specs.declared.cause.Cause.TheVariants as causes
use Rattle.td_tree.specs.declared.operator.Aggregate.TheVariants.{Sum}
use Rattle.td_tree.specs.declared.operator.Comparison.TheVariants.{Equal}
use Rattle.td_tree.specs.declared.operator.Operator.TheVariants.{Add, DisjointUnion, IncludedMinus, Times}
use Rattle.td_tree.specs.declared.operator.Style.TheVariants.{Newer, Older}
use Rattle.td_types.specs.model.Types.{Heading, integer, char, pack}
use Rattle.td_types.specs.model.Types as types

abbrev scope : Scope
scope =
    record {
      types = [];
      relvars = record { name = codes "R"; kind = Base; heading = (codes "K", integer) ∷ [] }
          ∷ record { name = codes "V"; kind = Virtual; heading = (codes "K", integer) ∷ (codes "S", char) ∷ [] } ∷ [];
      constraints = codes "C" ∷ [];
      entered = [];
    }

abbrev one : Tree
one = literal (number false 1)

abbrev r : Tree
r = name (codes "R")

abbrev z : Tree
z = name (codes "Z")

-- 1 = 'a'
abbrev unlike : Tree
unlike = compare one Equal (literal (text (codes "a")))

-- a relvar is a relation of its heading
relvar_type : type_of scope r ≡ Valued (types.relation (pack ((codes "K", integer) ∷ [])))
relvar_type = refl

-- 1 = 'a' is TYPE_MISMATCH
unlike_refused : named_cause (type_of scope unlike) ≡ Some causes.TypeMismatch
unlike_refused = refl

-- X + (1 = 'a') is NAME_UNKNOWN, the least of the causes of its parts
least_of_parts : named_cause (type_of scope (binary (name (codes "X")) Add (parentheses unlike))) ≡ Some causes.NameUnknown
least_of_parts = refl

-- R {Z} is HEADING, and so is (R {Z}) + 1: its own rule is not asked
missing_attribute : named_cause (type_of scope (postfix r (project (only (codes "Z" ∷ []))))) ≡ Some causes.Heading
missing_attribute = refl

own_rule_not_asked : named_cause (type_of scope (binary (parentheses (postfix r (project (only (codes "Z" ∷ []))))) Add one))
    ≡ Some causes.Heading
own_rule_not_asked = refl

-- NOPE(R {Z}) is HEADING: that NOPE is not declared is the call's own rule
selector_not_asked : named_cause (type_of scope (select (codes "NOPE") (more (postfix r (project (only (codes "Z" ∷ [])))) none)))
    ≡ Some causes.Heading
selector_not_asked = refl

-- R TIMES R is HEADING
common_attribute : named_cause (type_of scope (binary r Times r)) ≡ Some causes.Heading
common_attribute = refl

-- EXTEND R ADD (K AS K) is HEADING
attribute_twice : named_cause (type_of scope (extend r (more_named (codes "K") (name (codes "K")) none_named))) ≡ Some causes.Heading
attribute_twice = refl

-- EXTEND V : {S := K, A := S} replaces S and adds A; each is of V's attributes
set_at_once : type_of scope (extend_setting (name (codes "V"))
    (more_named (codes "S") (name (codes "K")) (more_named (codes "A") (name (codes "S")) none_named)))
    ≡ Valued (types.relation (pack ((codes "A", char) ∷ (codes "K", integer) ∷ (codes "S", integer) ∷ [])))
set_at_once = refl

-- EXTEND R : {K := 1, K := 1} is HEADING, EXTEND 1 : {A := Z} TYPE_MISMATCH
set_twice : named_cause (type_of scope (extend_setting r (more_named (codes "K") one (more_named (codes "K") one none_named)))) ≡ Some causes.Heading
set_twice = refl

settings_not_checked : named_cause (type_of scope (extend_setting one (more_named (codes "A") z none_named))) ≡ Some causes.TypeMismatch
settings_not_checked = refl

-- WITH (X := 1, Y := X + 1) : X + Y is an INTEGER: a later item sees the earlier ones
abbrev x : Tree
x = name (codes "X")

bound_in_turn : type_of scope (binding (more_named (codes "X") one (more_named (codes "Y") (binary x Add one) none_named)) (binary x Add (name (codes "Y"))))
    ≡ Valued integer
bound_in_turn = refl

-- WITH (X := X) : 1, WITH (X := Y, Y := 1) : X and (WITH (X := 1) : X) + X are NAME_UNKNOWN
own_name_unknown : named_cause (type_of scope (binding (more_named (codes "X") x none_named) one)) ≡ Some causes.NameUnknown
own_name_unknown = refl

later_name_unknown : named_cause (type_of scope (binding (more_named (codes "X") (name (codes "Y")) (more_named (codes "Y") one none_named)) x))
    ≡ Some causes.NameUnknown
later_name_unknown = refl

name_behind_unknown : named_cause (type_of scope (binary (parentheses (binding (more_named (codes "X") one none_named) x)) Add x)) ≡ Some causes.NameUnknown
name_behind_unknown = refl

-- WITH (X := 1, X := 1) : Z is HEADING, WITH (X := Z, X := 1) : 1 NAME_UNKNOWN
bound_twice : named_cause (type_of scope (binding (more_named (codes "X") one (more_named (codes "X") one none_named)) z)) ≡ Some causes.Heading
bound_twice = refl

first_item_refused : named_cause (type_of scope (binding (more_named (codes "X") z (more_named (codes "X") one none_named)) one)) ≡ Some causes.NameUnknown
first_item_refused = refl

-- WITH (R := V) : R is of V's heading, and mentions V alone
abbrev hidden : Tree
hidden = binding (more_named (codes "R") (name (codes "V")) none_named) r

relvar_hidden : type_of scope hidden ≡ Valued (types.relation (pack ((codes "K", integer) ∷ (codes "S", char) ∷ [])))
relvar_hidden = refl

hidden_not_mentioned : relvars_in scope hidden ≡ codes "V" ∷ []
hidden_not_mentioned = refl

-- WITH (K := 'a') : R WHERE K = 1: an attribute in hand hides the name of an item
item_hidden : type_of scope (binding (more_named (codes "K") (literal (text (codes "a"))) none_named) (restriction r (compare (name (codes "K")) Equal one)))
    ≡ Valued (types.relation (pack ((codes "K", integer) ∷ [])))
item_hidden = refl

-- R D_UNION V and R I_MINUS V are HEADING, R D_UNION 1 TYPE_MISMATCH
union_of_other : named_cause (type_of scope (binary r DisjointUnion (name (codes "V")))) ≡ Some causes.Heading
union_of_other = refl

minus_of_other : named_cause (type_of scope (binary r IncludedMinus (name (codes "V")))) ≡ Some causes.Heading
minus_of_other = refl

union_of_number : named_cause (type_of scope (binary r DisjointUnion one)) ≡ Some causes.TypeMismatch
union_of_number = refl

-- 1 WHERE Z is TYPE_MISMATCH: the predicate is checked only where the operand is a relation
predicate_not_checked : named_cause (type_of scope (restriction one z)) ≡ Some causes.TypeMismatch
predicate_not_checked = refl

-- R WHERE K = 1: the predicate stands in the tuples of R
predicate_in_tuples : type_of scope (restriction r (compare (name (codes "K")) Equal one))
    ≡ Valued (types.relation (pack ((codes "K", integer) ∷ [])))
predicate_in_tuples = refl

-- SUMMARIZE 1 PER (2) ADD (SUM(Z) AS N) is TYPE_MISMATCH, SUMMARIZE R PER (1) ADD (SUM(Z) AS N) NAME_UNKNOWN
items_not_checked : named_cause (type_of scope (summarize_per one (literal (number false 2)) (summed Sum z (codes "N") no_summaries)))
    ≡ Some causes.TypeMismatch
items_not_checked = refl

items_checked : named_cause (type_of scope (summarize_per r one (summed Sum z (codes "N") no_summaries))) ≡ Some causes.NameUnknown
items_checked = refl

-- V RENAME (K AS S, S AS K) changes all names at once
renamed_at_once : type_of scope (postfix (name (codes "V")) (rename Older
    (record { old = codes "K"; new = codes "S" } ∷ record { old = codes "S"; new = codes "K" } ∷ [])))
    ≡ Valued (types.relation (pack ((codes "K", char) ∷ (codes "S", integer) ∷ [])))
renamed_at_once = refl

-- ---- statements

abbrev k_tree : AttributeTrees
k_tree = attribute (codes "K") trees.integer no_attributes

-- VAR R BASE RELATION {K INTEGER} is NAME_TAKEN, the same of Q KEY_DECLARATION
name_taken : named_cause (statement_checked scope (define_base (codes "R") k_tree None [])) ≡ Some causes.NameTaken
name_taken = refl

key_missing : named_cause (statement_checked scope (define_base (codes "Q") k_tree None [])) ≡ Some causes.KeyDeclaration
key_missing = refl

-- VAR R VIRTUAL (1 = 'a') is NAME_TAKEN
name_taken_beside : named_cause (statement_checked scope (define_virtual (codes "R") unlike [])) ≡ Some causes.NameTaken
name_taken_beside = refl

-- VAR N BASE RELATION {A INTEGER, A CHAR} INIT (5) KEY {} is HEADING: what INIT must be is not asked
init_not_asked : named_cause (statement_checked scope (define_base (codes "N")
    (attribute (codes "A") trees.integer (attribute (codes "A") trees.char no_attributes)) (Some (literal (number false 5))) ([] ∷ [])))
    ≡ Some causes.Heading
init_not_asked = refl

-- VAR Q BASE RELATION {K INTEGER} KEY {K} is accepted; KEY {} beside it is not
accepted : statement_checked scope (define_base (codes "Q") k_tree None ((codes "K" ∷ []) ∷ [])) ≡ Valued tt
accepted = refl

key_includes : named_cause (statement_checked scope (define_base (codes "Q") k_tree None ((codes "K" ∷ []) ∷ [] ∷ [])))
    ≡ Some causes.KeyDeclaration
key_includes = refl

-- V := 1 is TYPE_MISMATCH, V := Z NAME_UNKNOWN, INSERT V of another heading HEADING, V := V NOT_ASSIGNABLE
virtual_of_number : named_cause (statement_checked scope (assign_all (assign (codes "V") one ∷ []))) ≡ Some causes.TypeMismatch
virtual_of_number = refl

virtual_of_unknown : named_cause (statement_checked scope (assign_all (assign (codes "V") z ∷ []))) ≡ Some causes.NameUnknown
virtual_of_unknown = refl

virtual_of_other : named_cause (statement_checked scope (assign_all (insert (codes "V") r ∷ []))) ≡ Some causes.Heading
virtual_of_other = refl

virtual_assigned : named_cause (statement_checked scope (assign_all (assign (codes "V") (name (codes "V")) ∷ []))) ≡ Some causes.NotAssignable
virtual_assigned = refl

-- D_INSERT V of another heading is HEADING, I_DELETE V V NOT_ASSIGNABLE
virtual_put_in : named_cause (statement_checked scope (assign_all (disjoint_insert (codes "V") r ∷ []))) ≡ Some causes.Heading
virtual_put_in = refl

virtual_taken_from : named_cause (statement_checked scope (assign_all (included_delete (codes "V") (name (codes "V")) ∷ [])))
    ≡ Some causes.NotAssignable
virtual_taken_from = refl

-- UPDATE NOPE WHERE 1 (A := Z) and INSERT NOPE 1 are NAME_UNKNOWN
unknown_updated : named_cause (statement_checked scope (assign_all (update Older (codes "NOPE") (Some one) (more_named (codes "A") z none_named) ∷ [])))
    ≡ Some causes.NameUnknown
unknown_updated = refl

unknown_inserted : named_cause (statement_checked scope (assign_all (insert (codes "NOPE") one ∷ []))) ≡ Some causes.NameUnknown
unknown_inserted = refl

-- UPDATE R (A := 1, K := 'a') is TYPE_MISMATCH, the least of its own causes; UPDATE R : {A := 1} HEADING
least_of_own : named_cause (statement_checked scope (assign_all (update Older (codes "R") None
    (more_named (codes "A") one (more_named (codes "K") (literal (text (codes "a"))) none_named)) ∷ []))) ≡ Some causes.TypeMismatch
least_of_own = refl

no_attribute_set : named_cause (statement_checked scope (assign_all (update Newer (codes "R") None (more_named (codes "A") one none_named) ∷ [])))
    ≡ Some causes.Heading
no_attribute_set = refl
