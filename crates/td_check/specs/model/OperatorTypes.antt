-- The static rules of the operators: the type of what an operator gives, by the types of its operands, or the causes for
-- which it is refused (Tutorial D's; the causes are this project's own).
use Rattle.std.specs.Prelude.{ℕ, Bool, true, false, not, ◌&&◌, ◌||◌, List, [], ◌∷◌, fold, map, Option, Some, None}
use Rattle.std.specs.List.{list_all}
use Rattle.std.specs.Ordering.{eq_by_cmp}
use Rattle.td_tree.specs.declared.cause.Cause.{Cause}
use Rattle.td_tree.specs.declared.cause.Cause.TheVariants as causes
use Rattle.td_tree.specs.declared.operator.Aggregate.{Aggregate}
use Rattle.td_tree.specs.declared.operator.Aggregate.TheVariants as aggregates
use Rattle.td_tree.specs.declared.operator.Comparison.{Comparison}
use Rattle.td_tree.specs.declared.operator.Comparison.TheVariants as comparisons
use Rattle.td_tree.specs.declared.operator.Measure.{Measure}
use Rattle.td_tree.specs.declared.operator.Measure.TheVariants as measures
use Rattle.td_tree.specs.declared.operator.Operator.{Operator}
use Rattle.td_tree.specs.declared.operator.Operator.TheVariants as operators
use Rattle.td_tree.specs.declared.operator.Prefix.{Prefix}
use Rattle.td_tree.specs.declared.operator.Prefix.TheVariants as prefixes
use Rattle.td_tree.specs.model.Outcomes.{Outcome, Valued, Refused, Only, gathered, with_value, with_both, value_if}
use Rattle.td_tree.specs.model.Trees.{Attributes, only, all_but, Renaming, Postfix, project, rename, group, ungroup, wrap, unwrap}
use Rattle.td_types.specs.model.Headings.{agree, are_distinct, common_heading, extended_heading, has_attribute, have_no_common, heading_union, is_closable, is_part, made_heading, outside, projected_heading, renamed_heading, united_heading, with_attribute, without_attribute}
use Rattle.td_types.specs.model.TypeLists.{DeclaredType, declared_at}
use Rattle.td_types.specs.model.Types.{Type', boolean, integer, char, user, tuple, relation, Attribute, Heading, attribute_names, pack, unpack, type_at, type_cmp, heading_cmp}

-- ---- what each rule requires

-- whether two types are one
abbrev pub same_type : Type' → Type' → Bool
same_type = eq_by_cmp type_cmp

-- whether two headings are one
abbrev pub same_heading : Heading → Heading → Bool
same_heading = eq_by_cmp heading_cmp

-- an operand of another type than the rule requires: TYPE_MISMATCH
abbrev pub mismatch : {A : Type 0} → Outcome A
mismatch = Refused (Only causes.TypeMismatch)

-- a heading that does not fit is HEADING
abbrev pub misfit : {A : Type 0} → Outcome A
misfit = Refused (Only causes.Heading)

-- the answer where the first type is the required one, else TYPE_MISMATCH
abbrev pub if_type : {A : Type 0} → Type' → Type' → A → Outcome A
if_type asked t x = value_if (same_type t asked) x causes.TypeMismatch

-- the answer for the heading of a relation type, else TYPE_MISMATCH
abbrev pub over_relation : {A : Type 0} → Type' → (Heading → Outcome A) → Outcome A
over_relation (relation h) f = f (unpack h)
over_relation _ f = mismatch

-- the answer for the heading of a tuple type, else TYPE_MISMATCH
abbrev pub over_tuple : {A : Type 0} → Type' → (Heading → Outcome A) → Outcome A
over_tuple (tuple h) f = f (unpack h)
over_tuple _ f = mismatch

-- the answer for the headings of two relation types, else TYPE_MISMATCH
abbrev pub over_relations : {A : Type 0} → Type' → Type' → (Heading → Heading → Outcome A) → Outcome A
over_relations s t f = over_relation s (λ g. over_relation t (λ h. f g h))

-- the relation type of the heading that is answered
abbrev pub relation_if : Outcome Heading → Outcome Type'
relation_if o = with_value o (λ h. Valued (relation (pack h)))

-- what must be known, else that cause
abbrev pub known_or : {A : Type 0} → Cause → Option A → Outcome A
known_or cause (Some x) = Valued x
known_or cause None = Refused (Only cause)

-- the names of renamings, the old with the new
abbrev pub renaming_pairs : List Renaming → List (List ℕ × List ℕ)
renaming_pairs = map (λ r. (r.old, r.new))

-- ---- headings

-- the attributes of a heading that are named, or those that are not: a name missing or listed twice is HEADING
abbrev pub named_part : Attributes → Heading → Outcome Heading
named_part (only names) h = projected_heading names h
named_part (all_but names) h = with_value (projected_heading names h) (λ part. Valued (outside part h))

-- a heading with further attributes: a new name that is there or twice is HEADING
abbrev pub extended_by : Heading → List Attribute → Outcome Heading
extended_by h attributes =
    value_if (are_distinct (attribute_names attributes) && list_all (λ a. not (has_attribute a.0 h)) attributes)
    (fold with_attribute h attributes) causes.Heading

-- a heading with attributes set: one of a name that is there is replaced, others are added; a name twice is HEADING
abbrev pub set_heading : Heading → List Attribute → Outcome Heading
set_heading h attributes =
    value_if (are_distinct (attribute_names attributes)) (heading_union (outside attributes h) attributes) causes.Heading

-- the heading of two that have no common attribute
abbrev pub joined_apart : Heading → Heading → Outcome Heading
joined_apart g h = value_if (have_no_common g h) (heading_union g h) causes.Heading

-- the attributes that only one of two headings has, where they agree on the common ones
abbrev pub composed_heading : Heading → Heading → Outcome Heading
composed_heading g h = with_value (common_heading g h) (λ common. Valued (heading_union (outside common g) (outside common h)))

-- ---- operators of one operand

-- the type of an attribute, which must be there
abbrev pub attribute_type : List ℕ → Heading → Outcome Type'
attribute_type name h = known_or causes.Heading (type_at name h)

-- two attributes of one type
abbrev pub closure_type : Heading → Outcome Type'
closure_type h = value_if (is_closable h) (relation (pack h)) causes.Heading

abbrev pub prefix_type : Prefix → Type' → Outcome Type'
-- NOT asks BOOLEAN
prefix_type prefixes.Not t = if_type boolean t boolean
-- unary - asks INTEGER
prefix_type prefixes.Negate t = if_type integer t integer
-- TCLOSE asks a relation of two attributes of one type
prefix_type prefixes.TransitiveClosure t = over_relation t closure_type
-- TUPLE FROM asks a relation
prefix_type prefixes.TupleFrom t = over_relation t (λ h. Valued (tuple (pack h)))

-- A FROM t asks a tuple that has the attribute
abbrev pub extracted_type : List ℕ → Type' → Outcome Type'
extracted_type name t = over_tuple t (attribute_type name)

-- THE_c asks a user type, and a component of it
abbrev pub component_type : List DeclaredType → List ℕ → Type' → Outcome Type'
component_type ds name (user n) =
    with_value (known_or causes.NameUnknown (declared_at n ds)) (λ d. known_or causes.NameUnknown (type_at name d.components))
component_type ds name _ = mismatch

-- COUNT and IS_EMPTY ask a relation
abbrev pub measure_type : Measure → Type' → Outcome Type'
measure_type measures.Count t = over_relation t (λ h. Valued integer)
measure_type measures.IsEmpty t = over_relation t (λ h. Valued boolean)

-- SUM asks INTEGER, MAX and MIN INTEGER or CHAR
abbrev pub aggregate_type : Aggregate → Type' → Outcome Type'
aggregate_type aggregates.Sum t = if_type integer t integer
aggregate_type aggregates.Max t = value_if (same_type t integer || same_type t char) t causes.TypeMismatch
aggregate_type aggregates.Min t = value_if (same_type t integer || same_type t char) t causes.TypeMismatch

abbrev pub postfix_type : Postfix → Type' → Outcome Type'
-- projection asks a relation with the names, each once
postfix_type (project attributes) t = over_relation t (λ h. relation_if (named_part attributes h))
-- RENAME asks a relation with the old names, each once, and new names that are distinct
postfix_type (rename style renamings) t = over_relation t (λ h. relation_if (renamed_heading (renaming_pairs renamings) h))
-- GROUP and WRAP ask what projection does, and a new name that is none of the remaining
postfix_type (group style attributes name) t = over_relation t (λ h. with_value (named_part attributes h)
    (λ part. relation_if (extended_heading (outside part h) (name, relation (pack part)))))
postfix_type (wrap style attributes name) t = over_relation t (λ h. with_value (named_part attributes h)
    (λ part. relation_if (extended_heading (outside part h) (name, tuple (pack part)))))
-- UNGROUP and UNWRAP ask a relation, an attribute of a relation or tuple type, and that none of its names is one of the
-- remaining
postfix_type (ungroup name) t = over_relation t (λ h. with_value (attribute_type name h)
    (λ s. over_relation s (λ part. relation_if (joined_apart (without_attribute name h) part))))
postfix_type (unwrap name) t = over_relation t (λ h. with_value (attribute_type name h)
    (λ s. over_tuple s (λ part. relation_if (joined_apart (without_attribute name h) part))))

-- ---- operators between two operands

-- the third type, where both operands are of the first
abbrev pub both_of : Type' → Type' → Type' → Outcome Type'
both_of asked s t = value_if (same_type s asked && same_type t asked) asked causes.TypeMismatch

-- two relations of one heading give one of it
abbrev pub of_one_heading : Type' → Type' → Outcome Type'
of_one_heading s t = over_relations s t (λ g h. value_if (same_heading g h) s causes.Heading)

-- the first of two relations that agree on their common attributes
abbrev pub first_where_agreed : Type' → Type' → Outcome Type'
first_where_agreed s t = over_relations s t (λ g h. value_if (agree g h) s causes.Heading)

-- WHERE asks a condition that is BOOLEAN in the relation's tuples
abbrev pub restriction_type : Type' → Type' → Outcome Type'
restriction_type s t = if_type boolean t s

abbrev pub operator_type : Operator → Type' → Type' → Outcome Type'
-- AND and OR ask BOOLEAN
operator_type operators.Or s t = both_of boolean s t
operator_type operators.And s t = both_of boolean s t
-- UNION, INTERSECT, MINUS, D_UNION and I_MINUS ask relations of one heading
operator_type operators.Union s t = of_one_heading s t
operator_type operators.Intersect s t = of_one_heading s t
operator_type operators.Minus s t = of_one_heading s t
operator_type operators.DisjointUnion s t = of_one_heading s t
operator_type operators.IncludedMinus s t = of_one_heading s t
-- JOIN, COMPOSE, MATCHING and NOT MATCHING ask relations whose common attributes have one type
operator_type operators.Join s t = over_relations s t (λ g h. relation_if (united_heading g h))
operator_type operators.Compose s t = over_relations s t (λ g h. relation_if (composed_heading g h))
operator_type operators.Matching s t = first_where_agreed s t
operator_type operators.NotMatching s t = first_where_agreed s t
-- TIMES asks relations without a common attribute
operator_type operators.Times s t = over_relations s t (λ g h. relation_if (joined_apart g h))
-- + - * / ask INTEGER
operator_type operators.Add s t = both_of integer s t
operator_type operators.Subtract s t = both_of integer s t
operator_type operators.Multiply s t = both_of integer s t
operator_type operators.Divide s t = both_of integer s t
-- || asks CHAR
operator_type operators.Concatenate s t = both_of char s t

-- two relations are compared where they have one heading; other values are equal or not where they have one type
abbrev pub equality_type : Type' → Type' → Outcome Type'
equality_type (relation g) (relation h) = value_if (same_type (relation g) (relation h)) boolean causes.Heading
equality_type s t = if_type s t boolean

-- numbers, texts and relations of one heading have an order
abbrev pub order_type : Type' → Type' → Outcome Type'
order_type (relation g) (relation h) = value_if (same_type (relation g) (relation h)) boolean causes.Heading
order_type integer integer = Valued boolean
order_type char char = Valued boolean
order_type s t = mismatch

-- a tuple is in a relation of its heading or not
abbrev pub membership_type : Type' → Type' → Outcome Type'
membership_type (tuple g) (relation h) = value_if (same_type (tuple g) (tuple h)) boolean causes.Heading
membership_type s t = mismatch

abbrev pub comparison_type : Comparison → Type' → Type' → Outcome Type'
comparison_type comparisons.Equal s t = equality_type s t
comparison_type comparisons.NotEqual s t = equality_type s t
comparison_type comparisons.Less s t = order_type s t
comparison_type comparisons.LessOrEqual s t = order_type s t
comparison_type comparisons.Greater s t = order_type s t
comparison_type comparisons.GreaterOrEqual s t = order_type s t
comparison_type comparisons.In s t = membership_type s t

-- ---- operators of several operands

-- IF asks a BOOLEAN condition and branches of one type
abbrev pub choice_type : Type' → Type' → Type' → Outcome Type'
choice_type condition s t = value_if (same_type condition boolean && same_type s t) s causes.TypeMismatch

-- whether these are, in number and order, the types of those attributes
abbrev pub are_types_of : List Type' → List Attribute → Bool
are_types_of [] [] = true
are_types_of [] (a ∷ attributes) = false
are_types_of (t ∷ ts) [] = false
are_types_of (t ∷ ts) (a ∷ attributes) = same_type t a.1 && are_types_of ts attributes

-- a selector asks a declared type: else NAME_UNKNOWN; and a value of each component's type, in order
abbrev pub selector_type : List DeclaredType → List ℕ → List Type' → Outcome Type'
selector_type ds name ts =
    with_value (known_or causes.NameUnknown (declared_at name ds))
    (λ d. value_if (are_types_of ts d.components) (user name) causes.TypeMismatch)

-- an element of a relation of the heading is a tuple of it
abbrev pub element_type : Heading → Type' → Outcome Type'
element_type h t = over_tuple t (λ g. value_if (same_heading g h) t causes.Heading)

-- RELATION with a heading asks tuples of the heading
abbrev pub headed_type : Heading → List Type' → Outcome Type'
headed_type h ts = with_value (gathered (map (element_type h) ts)) (λ elements. Valued (relation (pack h)))

-- RELATION without one asks tuples of one heading; there is a first
abbrev pub listed_type : List Type' → Outcome Type'
listed_type [] = mismatch
listed_type (t ∷ ts) = over_tuple t (λ h. headed_type h ts)

-- TUPLE asks distinct names
abbrev pub tuple_type : List Attribute → Outcome Type'
tuple_type attributes = with_value (made_heading attributes) (λ h. Valued (tuple (pack h)))

-- EXTEND asks new names that are distinct
abbrev pub extension_type : Heading → List Attribute → Outcome Type'
extension_type h attributes = relation_if (extended_by h attributes)

-- EXTEND with settings asks distinct names
abbrev pub setting_type : Heading → List Attribute → Outcome Type'
setting_type h attributes = relation_if (set_heading h attributes)

-- what SUMMARIZE adds: a count, or an aggregate of an expression of a type
pub data Item : Type 0 where
  count_item : Item
  aggregate_item : Aggregate → Type' → Item

-- an item of SUMMARIZE asks what its aggregate does
abbrev pub item_type : List ℕ × Item → Outcome Attribute
item_type (name, count_item) = Valued (name, integer)
item_type (name, aggregate_item op t) = with_value (aggregate_type op t) (λ s. Valued (name, s))

-- SUMMARIZE over the heading by which it groups: new names that are distinct and none of that heading's
abbrev pub summary_type : Outcome Heading → List (List ℕ × Item) → Outcome Type'
summary_type groups items = with_both groups (gathered (map item_type items)) (λ g attributes. extension_type g attributes)

-- PER asks a relation whose heading is a part of the operand's
abbrev pub per_heading : Heading → Type' → Outcome Heading
per_heading h t = over_relation t (λ g. value_if (is_part g h) g causes.Heading)
