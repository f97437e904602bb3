-- The definition of values on worked expressions.
use Rattle.std.proofs.Common.{◌≡◌, ◌∷◌, ◌-◌, ◌^◌, ℕ, Bool, true, false, List, [], Some, pos, negsuc, refl}
use Rattle.td_catalog.specs.model.Database.{empty_database, with_declared}
use Rattle.td_eval.specs.model.DatabaseWorlds.{world_of}
use Rattle.td_eval.specs.model.TreeValues.{value_of}
use Rattle.td_eval.specs.model.Worlds.{World}
use Rattle.td_tree.specs.declared.cause.Cause.TheVariants as causes
use Rattle.td_tree.specs.declared.operator.Comparison.TheVariants as comparisons
use Rattle.td_tree.specs.declared.operator.Operator.TheVariants as operators
use Rattle.td_tree.specs.declared.operator.Prefix.TheVariants as prefixes
use Rattle.td_tree.specs.model.Outcomes.{Outcome, Valued, named_cause}
use Rattle.td_tree.specs.model.Trees.{Tree, Trees}
use Rattle.td_tree.specs.model.Trees as trees
use Rattle.td_types.specs.model.TypeLists.{DeclaredType, declared_type}
use Rattle.td_types.specs.model.Types as types
use Rattle.td_value.specs.laws.LiteralTrees.{literal_tree}
use Rattle.td_value.specs.model.Values.{Val, boolean, char, integer, Fields, field, no_fields, no_parts, no_rows, part, relation, row, user}

abbrev value : Tree → Outcome Val
value = value_of (world_of empty_database) []

abbrev digit : ℕ → Tree
digit n = trees.literal (trees.number false n)

abbrev below_zero : ℕ → Tree
below_zero n = trees.literal (trees.number true n)

abbrev verity : Bool → Tree
verity b = trees.literal (trees.truth b)

-- the least of both sides' causes: OVERFLOW before ZERO_DIVISOR
sum_of_refused : named_cause (value (trees.binary (trees.binary (digit 1) operators.Divide (digit 0)) operators.Add
    (trees.parentheses (trees.binary (digit (2 ^ 63 - 1)) operators.Add (digit 1))))) ≡ Some causes.Overflow
sum_of_refused = refl

-- the least number has no opposite
least_turned : named_cause (value (trees.binary (below_zero (2 ^ 63)) operators.Divide (below_zero 1))) ≡ Some causes.Overflow
least_turned = refl

-- the quotient is truncated toward zero
truncated : value (trees.binary (below_zero 7) operators.Divide (digit 2)) ≡ Valued (integer (negsuc 2))
truncated = refl

-- both sides of AND count
both_sides_count : named_cause (value (trees.binary (verity false) operators.And
    (trees.compare (trees.binary (digit 1) operators.Divide (digit 0)) comparisons.Equal (digit 1)))) ≡ Some causes.ZeroDivisor
both_sides_count = refl

-- of IF the chosen branch alone
chosen_counts : value (trees.choice (verity true) (digit 1) (trees.binary (digit 1) operators.Divide (digit 0))) ≡ Valued (integer (pos 1))
chosen_counts = refl

abbrev attribute_a : List ℕ
attribute_a = 65 ∷ []

abbrev tuple_of_one : ℕ → Tree
tuple_of_one n = trees.tuple (trees.more_named attribute_a (digit n) trees.none_named)

abbrev of_integers : Trees → Tree
of_integers = trees.headed_relation (trees.attribute attribute_a trees.integer trees.no_attributes)

-- TABLE_DUM joined has no tuple, and the other's heading
joined_with_nothing : value (trees.binary (trees.literal trees.table_dum) operators.Join (trees.relation (trees.more (tuple_of_one 1) trees.none)))
    ≡ Valued (relation (types.attr attribute_a types.integer types.no_attrs) no_rows)
joined_with_nothing = refl

-- a relation without tuples has not one
no_tuple : named_cause (value (trees.prefix prefixes.TupleFrom (of_integers trees.none))) ≡ Some causes.NotOneTuple
no_tuple = refl

only_one : value (trees.extract attribute_a (trees.prefix prefixes.TupleFrom (trees.relation (trees.more (tuple_of_one 5) trees.none))))
    ≡ Valued (integer (pos 5))
only_one = refl

-- a relation is a set
once : value (of_integers (trees.more (tuple_of_one 2) (trees.more (tuple_of_one 1) (trees.more (tuple_of_one 2) trees.none))))
    ≡ Valued (relation (types.attr attribute_a types.integer types.no_attrs)
    (row (field attribute_a (integer (pos 1)) no_fields) (row (field attribute_a (integer (pos 2)) no_fields) no_rows)))
once = refl

-- proper inclusion
proper : value (trees.compare (of_integers (trees.more (tuple_of_one 1) trees.none)) comparisons.Less (of_integers (trees.more (tuple_of_one 1) trees.none)))
    ≡ Valued (boolean false)
proper = refl

-- D_UNION of relations that have no tuple in common is their union, else it is refused
disjoint_union : value (trees.binary (of_integers (trees.more (tuple_of_one 2) trees.none)) operators.DisjointUnion (of_integers (trees.more (tuple_of_one 1) trees.none)))
    ≡ Valued (relation (types.attr attribute_a types.integer types.no_attrs)
    (row (field attribute_a (integer (pos 1)) no_fields) (row (field attribute_a (integer (pos 2)) no_fields) no_rows)))
disjoint_union = refl

overlapping : named_cause (value (trees.binary (of_integers (trees.more (tuple_of_one 2) trees.none)) operators.DisjointUnion
    (of_integers (trees.more (tuple_of_one 1) (trees.more (tuple_of_one 2) trees.none))))) ≡ Some causes.NotDisjoint
overlapping = refl

-- I_MINUS of what is there is the difference, else it is refused
included_minus : value (trees.binary (of_integers (trees.more (tuple_of_one 1) trees.none)) operators.IncludedMinus (of_integers (trees.more (tuple_of_one 1) trees.none)))
    ≡ Valued (relation (types.attr attribute_a types.integer types.no_attrs) no_rows)
included_minus = refl

lacking : named_cause (value (trees.binary (of_integers (trees.more (tuple_of_one 1) trees.none)) operators.IncludedMinus
    (of_integers (trees.more (tuple_of_one 1) (trees.more (tuple_of_one 2) trees.none))))) ≡ Some causes.NotIncluded
lacking = refl

-- of other headings they are refused by that, whatever their tuples
unlike : named_cause (value (trees.binary (of_integers (trees.more (tuple_of_one 1) trees.none)) operators.IncludedMinus (trees.literal trees.table_dee)))
    ≡ Some causes.Heading
unlike = refl

-- WHERE keeps the tuples for which the condition is TRUE
kept : value (trees.restriction (of_integers (trees.more (tuple_of_one 2) (trees.more (tuple_of_one 1) trees.none)))
    (trees.compare (trees.name attribute_a) comparisons.Less (digit 2)))
    ≡ Valued (relation (types.attr attribute_a types.integer types.no_attrs) (row (field attribute_a (integer (pos 1)) no_fields) no_rows))
kept = refl

-- one tuple without a value is enough, and the least of all causes is named
one_refused : named_cause (value (trees.restriction (of_integers (trees.more (tuple_of_one 0) (trees.more (tuple_of_one 1) trees.none)))
    (trees.compare (trees.binary (digit 1) operators.Divide (trees.name attribute_a)) comparisons.Less (digit 2)))) ≡ Some causes.ZeroDivisor
one_refused = refl

-- EXTEND of no tuples has the new attribute
nothing_extended : value (trees.extend (of_integers trees.none) (trees.more_named (66 ∷ []) (trees.literal (trees.text (120 ∷ []))) trees.none_named))
    ≡ Valued (relation (types.attr attribute_a types.integer (types.attr (66 ∷ []) types.char types.no_attrs)) no_rows)
nothing_extended = refl

-- settings are of the operand's tuples, all at once
exchanged : value (trees.extend_setting (trees.relation (trees.more (trees.tuple (trees.more_named attribute_a (digit 1) (trees.more_named (66 ∷ []) (digit 2) trees.none_named))) trees.none))
    (trees.more_named attribute_a (trees.name (66 ∷ [])) (trees.more_named (66 ∷ []) (trees.name attribute_a) trees.none_named)))
    ≡ Valued (relation (types.attr attribute_a types.integer (types.attr (66 ∷ []) types.integer types.no_attrs))
    (row (field attribute_a (integer (pos 2)) (field (66 ∷ []) (integer (pos 1)) no_fields)) no_rows))
exchanged = refl

-- an attribute that is set may change its type, and tuples that coincide are one
retyped : value (trees.extend_setting (of_integers (trees.more (tuple_of_one 1) (trees.more (tuple_of_one 2) trees.none)))
    (trees.more_named attribute_a (trees.literal (trees.text (120 ∷ []))) trees.none_named))
    ≡ Valued (relation (types.attr attribute_a types.char types.no_attrs) (row (field attribute_a (char (120 ∷ [])) no_fields) no_rows))
retyped = refl

nothing_retyped : value (trees.extend_setting (of_integers trees.none) (trees.more_named attribute_a (trees.literal (trees.text (120 ∷ []))) trees.none_named))
    ≡ Valued (relation (types.attr attribute_a types.char types.no_attrs) no_rows)
nothing_retyped = refl

-- a name that is set twice is refused
set_twice : named_cause (value (trees.extend_setting (of_integers trees.none) (trees.more_named attribute_a (digit 1) (trees.more_named attribute_a (digit 2) trees.none_named))))
    ≡ Some causes.Heading
set_twice = refl

-- ---- WITH

abbrev sum_of : Tree → Tree → Tree
sum_of a b = trees.binary a operators.Add b

-- a later item sees the earlier ones, and the result sees them all
later_sees : value (trees.binding (trees.more_named attribute_a (digit 1) (trees.more_named (66 ∷ []) (sum_of (trees.name attribute_a) (digit 1)) trees.none_named))
    (sum_of (trees.name attribute_a) (trees.name (66 ∷ [])))) ≡ Valued (integer (pos 3))
later_sees = refl

-- the innermost of a name is meant
inner_hides : value (trees.binding (trees.more_named attribute_a (digit 1) trees.none_named)
    (trees.binding (trees.more_named attribute_a (sum_of (trees.name attribute_a) (digit 1)) trees.none_named) (trees.name attribute_a))) ≡ Valued (integer (pos 2))
inner_hides = refl

-- an item counts, also where its name is not mentioned
unmentioned_counts : named_cause (value (trees.binding (trees.more_named attribute_a (trees.binary (digit 1) operators.Divide (digit 0)) trees.none_named) (digit 1)))
    ≡ Some causes.ZeroDivisor
unmentioned_counts = refl

-- the first item that has no value decides: ZERO_DIVISOR, though OVERFLOW is less
first_decides : named_cause (value (trees.binding (trees.more_named attribute_a (trees.binary (digit 1) operators.Divide (digit 0))
    (trees.more_named (66 ∷ []) (sum_of (digit (2 ^ 63 - 1)) (digit 1)) trees.none_named)) (digit 1))) ≡ Some causes.ZeroDivisor
first_decides = refl

-- ---- UNGROUP and TCLOSE

abbrev attribute_k : List ℕ
attribute_k = 75 ∷ []

abbrev attribute_x : List ℕ
attribute_x = 88 ∷ []

abbrev attribute_y : List ℕ
attribute_y = 89 ∷ []

abbrev keyed : ℕ → Tree → Tree
keyed n inside = trees.tuple (trees.more_named attribute_k (digit n) (trees.more_named attribute_x inside trees.none_named))

-- a tuple with an empty relation is gone
emptied : value (trees.postfix (trees.relation (trees.more (keyed 1 (of_integers trees.none))
    (trees.more (keyed 2 (of_integers (trees.more (tuple_of_one 7) trees.none))) trees.none))) (trees.ungroup attribute_x))
    ≡ Valued (relation (types.attr attribute_a types.integer (types.attr attribute_k types.integer types.no_attrs))
    (row (field attribute_a (integer (pos 7)) (field attribute_k (integer (pos 2)) no_fields)) no_rows))
emptied = refl

-- an attribute of a tuple type is of no relation type
of_tuples : named_cause (value (trees.postfix (trees.relation (trees.more (keyed 1 (tuple_of_one 7)) trees.none)) (trees.ungroup attribute_x)))
    ≡ Some causes.TypeMismatch
of_tuples = refl

abbrev leading : ℕ → ℕ → Tree
leading m n = trees.tuple (trees.more_named attribute_x (digit m) (trees.more_named attribute_y (digit n) trees.none_named))

abbrev led : ℕ → ℕ → Fields
led m n = field attribute_x (integer (pos m)) (field attribute_y (integer (pos n)) no_fields)

-- in a circle each leads to itself
circled : value (trees.prefix prefixes.TransitiveClosure (trees.relation (trees.more (leading 1 2) (trees.more (leading 2 1) trees.none))))
    ≡ Valued (relation (types.attr attribute_x types.integer (types.attr attribute_y types.integer types.no_attrs))
    (row (led 1 1) (row (led 1 2) (row (led 2 1) (row (led 2 2) no_rows)))))
circled = refl

-- the literal of the least number
least_literal : value (literal_tree (integer (negsuc (2 ^ 63 - 1)))) ≡ Valued (integer (negsuc (2 ^ 63 - 1)))
least_literal = refl

-- a type of one INTEGER below 10
abbrev attribute_n : List ℕ
attribute_n = 78 ∷ []

abbrev low_numbers : DeclaredType
low_numbers =
    declared_type (76 ∷ []) ((attribute_n, types.integer) ∷ [])
    (Some (trees.compare (trees.name attribute_n) comparisons.Less (digit 10)))

abbrev with_low_numbers : World
with_low_numbers = world_of (with_declared low_numbers empty_database)

abbrev low_number : ℕ → Val
low_number n = user (76 ∷ []) (part (integer (pos n)) no_parts)

abbrev low_relation : ℕ → Val
low_relation n =
    relation (types.attr attribute_a (types.user (76 ∷ [])) types.no_attrs)
    (row (field attribute_a (low_number n) no_fields) no_rows)

-- the literal of a relation of values that meet the constraint is that relation
met_literal : value_of with_low_numbers [] (literal_tree (low_relation 9)) ≡ Valued (low_relation 9)
met_literal = refl

-- where one does not meet it there is none
unmet_literal : named_cause (value_of with_low_numbers [] (literal_tree (low_relation 10))) ≡ Some causes.TypeConstraint
unmet_literal = refl
