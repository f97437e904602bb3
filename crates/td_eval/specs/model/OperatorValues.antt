-- The values that the operators give (Tutorial D's; the causes and the inclusion of relations as an order are this project's
-- own). An operand that is not as the static rule asks has that rule's cause, so that there is a value or a
-- cause for all operands; an expression that has a type meets no such operand.
use Rattle.std.specs.Prelude.{ℕ, ℤ, pos, negsuc, neg_ℤ, ◌+ℤ◌, ◌-ℤ◌, ◌*ℤ◌, int_div, nat_eq, Bool, true, false, not, ◌&&◌, ◌||◌, List, [], ◌∷◌, ◌++◌, length, map, if◌then◌else◌}
use Rattle.std.specs.Cmp.Lexicographic.{slice_cmp}
use Rattle.std.specs.List.{zip}
use Rattle.std.specs.Ordering.{eq_by_cmp, int_cmp, is_le, nat_cmp}
use Rattle.td_algebra.specs.model.Operators.{Addition, composition, difference, extended_relation, intersection, is_disjoint, is_subset, join, product, projected_relation, renamed_relation, restriction, semidifference, semijoin, set_relation, union}
use Rattle.td_check.specs.model.OperatorTypes.{attribute_type, equality_type, extended_by, known_or, mismatch, named_part, over_relation, over_tuple, renaming_pairs, same_heading, same_type, set_heading}
use Rattle.td_group.specs.model.Closure.{closure}
use Rattle.td_group.specs.model.Nesting.{can_nest, can_unnest, grouped_relation, unnested_relation, wrapped_relation}
use Rattle.td_tree.specs.declared.cause.Cause.TheVariants as causes
use Rattle.td_tree.specs.declared.operator.Comparison.{Comparison}
use Rattle.td_tree.specs.declared.operator.Comparison.TheVariants as comparisons
use Rattle.td_tree.specs.declared.operator.Measure.{Measure}
use Rattle.td_tree.specs.declared.operator.Measure.TheVariants as measures
use Rattle.td_tree.specs.declared.operator.Operator.{Operator}
use Rattle.td_tree.specs.declared.operator.Operator.TheVariants as operators
use Rattle.td_tree.specs.declared.operator.Prefix.{Prefix}
use Rattle.td_tree.specs.declared.operator.Prefix.TheVariants as prefixes
use Rattle.td_tree.specs.model.Outcomes.{Outcome, Valued, Refused, Only, gathered, value_if, with_value}
use Rattle.td_tree.specs.model.Trees.{Attributes, only, all_but, Literal, number, text, truth, table_dee, table_dum, Postfix, project, rename, group, ungroup, wrap, unwrap}
use Rattle.td_types.specs.model.Headings.{agree, can_rename, has_projection, have_no_common, is_closable, outside, projection}
use Rattle.td_types.specs.model.TypeLists.{DeclaredType, declared_at}
use Rattle.td_types.specs.model.Types.{Type', Attribute, Heading, attribute_names, unpack}
use Rattle.td_value.specs.model.Sets.{has}
use Rattle.td_value.specs.model.Values.{Val, boolean, integer, char, user, tuple, relation, Parts, no_parts, part, Tuple, Relation, heading_of, made_tuple, of_number, relation_of, relation_value, tuple_cmp, tuple_value, type_of, unpack_fields, unpack_rows, value_at, value_cmp, relation_view}

-- ---- what an operator asks of a value

abbrev pub on_truth : {A : Type 0} → Val → (Bool → Outcome A) → Outcome A
on_truth (boolean b) f = f b
on_truth _ f = mismatch

abbrev pub on_number : {A : Type 0} → Val → (ℤ → Outcome A) → Outcome A
on_number (integer z) f = f z
on_number _ f = mismatch

abbrev pub on_text : {A : Type 0} → Val → (List ℕ → Outcome A) → Outcome A
on_text (char s) f = f s
on_text _ f = mismatch

abbrev pub on_tuple : {A : Type 0} → Val → (Tuple → Outcome A) → Outcome A
on_tuple (tuple fs) f = f (unpack_fields fs)
on_tuple _ f = mismatch

abbrev pub on_relation : {A : Type 0} → Val → (Relation → Outcome A) → Outcome A
on_relation (relation h rs) f = f (relation_view (unpack h) (unpack_rows rs))
on_relation _ f = mismatch

abbrev pub on_truths : Val → Val → (Bool → Bool → Outcome Val) → Outcome Val
on_truths v w f = on_truth v (λ a. on_truth w (λ b. f a b))

abbrev pub on_numbers : Val → Val → (ℤ → ℤ → Outcome Val) → Outcome Val
on_numbers v w f = on_number v (λ x. on_number w (λ y. f x y))

abbrev pub on_texts : Val → Val → (List ℕ → List ℕ → Outcome Val) → Outcome Val
on_texts v w f = on_text v (λ s. on_text w (λ t. f s t))

abbrev pub on_relations : Val → Val → (Relation → Relation → Outcome Val) → Outcome Val
on_relations v w f = on_relation v (λ r. on_relation w (λ s. f r s))

-- ---- what an operator gives

abbrev pub of_truth : Bool → Outcome Val
of_truth b = Valued (boolean b)

abbrev pub of_relation : Relation → Outcome Val
of_relation r = Valued (relation_value r)

-- the relation where the headings fit, else HEADING
abbrev pub relation_where : Bool → Relation → Outcome Val
relation_where fits r = value_if fits (relation_value r) causes.Heading

-- ---- literals

-- the number with its sign
abbrev pub signed_number : Bool → ℕ → ℤ
signed_number true n = neg_ℤ (pos n)
signed_number false n = pos n

abbrev pub literal_value : Literal → Outcome Val
literal_value (number minus magnitude) = of_number (signed_number minus magnitude)
literal_value (text content) = Valued (char content)
literal_value (truth b) = of_truth b
-- no attribute, and the tuple that has none
literal_value table_dee = of_relation (relation_of [] ([] ∷ []))
-- no attribute, and no tuple
literal_value table_dum = of_relation (relation_of [] [])

-- ---- operators of one operand

-- a relation's only tuple, else NOT_ONE_TUPLE
abbrev pub only_tuple : List Tuple → Outcome Val
only_tuple (t ∷ []) = Valued (tuple_value t)
only_tuple _ = Refused (Only causes.NotOneTuple)

abbrev pub prefix_value : Prefix → Val → Outcome Val
prefix_value prefixes.Not v = on_truth v (λ b. of_truth (not b))
prefix_value prefixes.Negate v = on_number v (λ z. of_number (neg_ℤ z))
-- of another relation than one of two attributes of one type it is HEADING
prefix_value prefixes.TransitiveClosure v = on_relation v (λ r. relation_where (is_closable r.heading) (closure r))
prefix_value prefixes.TupleFrom v = on_relation v (λ r. only_tuple r.body)

-- A FROM t
abbrev pub extracted_value : List ℕ → Val → Outcome Val
extracted_value name v = on_tuple v (λ t. known_or causes.Heading (value_at name t))

-- a user value's components, in declared order
abbrev pub components_of : Parts → List Val
components_of no_parts = []
components_of (part v ps) = v ∷ components_of ps

-- THE_c: the component of the name
abbrev pub component_value : List DeclaredType → List ℕ → Val → Outcome Val
component_value ds name (user n ps) =
    with_value (known_or causes.NameUnknown (declared_at n ds))
    (λ d. known_or causes.NameUnknown (value_at name (zip (attribute_names d.components) (components_of ps))))
component_value ds name _ = mismatch

-- COUNT and IS_EMPTY
abbrev pub measure_value : Measure → Val → Outcome Val
measure_value measures.Count v = on_relation v (λ r. of_number (pos (length r.body)))
measure_value measures.IsEmpty v = on_relation v (λ r. of_truth (nat_eq (length r.body) 0))

-- the names that are listed, or those of the heading that are not
abbrev pub projected_names : Attributes → Heading → List (List ℕ)
projected_names (only names) h = names
projected_names (all_but names) h = attribute_names (outside (projection names h) h)

-- the names that are listed
abbrev pub listed_names : Attributes → List (List ℕ)
listed_names (only names) = names
listed_names (all_but names) = names

-- the names of the attributes that GROUP and WRAP put into a new one: one that is missing or listed twice is HEADING, and so
-- is a new name that one of the remaining has
abbrev pub nested_names : Attributes → List ℕ → Heading → Outcome (List (List ℕ))
nested_names attributes name h =
    with_value (named_part attributes h) (λ part. value_if (can_nest (attribute_names part) name h) (attribute_names part) causes.Heading)

abbrev pub postfix_value : Postfix → Val → Outcome Val
postfix_value (project attributes) v =
    on_relation v (λ r. relation_where (has_projection (listed_names attributes) r.heading) (projected_relation (projected_names attributes r.heading) r))
postfix_value (rename style renamings) v =
    on_relation v (λ r. relation_where (can_rename (renaming_pairs renamings) r.heading) (renamed_relation (renaming_pairs renamings) r))
postfix_value (group style attributes name) v =
    on_relation v (λ r. with_value (nested_names attributes name r.heading) (λ names. of_relation (grouped_relation names name r)))
postfix_value (wrap style attributes name) v =
    on_relation v (λ r. with_value (nested_names attributes name r.heading) (λ names. of_relation (wrapped_relation names name r)))
-- an attribute that is missing is HEADING, one of another type TYPE_MISMATCH, and HEADING is a name in it that one of the
-- remaining has
postfix_value (ungroup name) v =
    on_relation v (λ r. with_value (attribute_type name r.heading)
    (λ t. over_relation t (λ part. relation_where (can_unnest name r.heading) (unnested_relation name r))))
postfix_value (unwrap name) v =
    on_relation v (λ r. with_value (attribute_type name r.heading)
    (λ t. over_tuple t (λ part. relation_where (can_unnest name r.heading) (unnested_relation name r))))

-- ---- operators between two operands

-- a zero divisor is ZERO_DIVISOR; the quotient is truncated toward zero
abbrev pub is_zero : ℤ → Bool
is_zero (pos n) = nat_eq n 0
is_zero (negsuc n) = false

abbrev pub quotient : ℤ → ℤ → Outcome Val
quotient x y = if is_zero y then Refused (Only causes.ZeroDivisor) else of_number (int_div x y)

-- r D_UNION s: where a tuple is in both it is NOT_DISJOINT, else their union
abbrev pub disjoint_union : Relation → Relation → Outcome Relation
disjoint_union r s = value_if (is_disjoint r s) (union r s) causes.NotDisjoint

-- r I_MINUS s: where a tuple of s is not in r it is NOT_INCLUDED, else their difference
abbrev pub included_difference : Relation → Relation → Outcome Relation
included_difference r s = value_if (is_subset s r) (difference r s) causes.NotIncluded

-- what two relations of one heading give, else HEADING
abbrev pub over_one_heading : (Relation → Relation → Outcome Relation) → Relation → Relation → Outcome Val
over_one_heading f r s =
    with_value (value_if (same_heading r.heading s.heading) s causes.Heading) (λ same. with_value (f r same) of_relation)

abbrev pub operator_value : Operator → Val → Val → Outcome Val
operator_value operators.Or v w = on_truths v w (λ a b. of_truth (a || b))
operator_value operators.And v w = on_truths v w (λ a b. of_truth (a && b))
operator_value operators.Union v w = on_relations v w (λ r s. relation_where (same_heading r.heading s.heading) (union r s))
operator_value operators.Intersect v w = on_relations v w (λ r s. relation_where (same_heading r.heading s.heading) (intersection r s))
operator_value operators.Minus v w = on_relations v w (λ r s. relation_where (same_heading r.heading s.heading) (difference r s))
operator_value operators.DisjointUnion v w = on_relations v w (over_one_heading disjoint_union)
operator_value operators.IncludedMinus v w = on_relations v w (over_one_heading included_difference)
operator_value operators.Join v w = on_relations v w (λ r s. relation_where (agree r.heading s.heading) (join r s))
operator_value operators.Times v w = on_relations v w (λ r s. relation_where (have_no_common r.heading s.heading) (product r s))
operator_value operators.Compose v w = on_relations v w (λ r s. relation_where (agree r.heading s.heading) (composition r s))
operator_value operators.Matching v w = on_relations v w (λ r s. relation_where (agree r.heading s.heading) (semijoin r s))
operator_value operators.NotMatching v w = on_relations v w (λ r s. relation_where (agree r.heading s.heading) (semidifference r s))
operator_value operators.Add v w = on_numbers v w (λ x y. of_number (x +ℤ y))
operator_value operators.Subtract v w = on_numbers v w (λ x y. of_number (x -ℤ y))
operator_value operators.Multiply v w = on_numbers v w (λ x y. of_number (x *ℤ y))
operator_value operators.Divide v w = on_numbers v w quotient
operator_value operators.Concatenate v w = on_texts v w (λ s t. Valued (char (s ++ t)))

-- whether two values of one type are one value
abbrev pub equality_value : Val → Val → (Bool → Bool) → Outcome Val
equality_value v w f = with_value (equality_type (type_of v) (type_of w)) (λ t. of_truth (f (eq_by_cmp value_cmp v w)))

-- whether a number, a text or a relation is at most another: by size, by its bytes in UTF-8, by inclusion
abbrev pub at_most : Val → Val → Outcome Bool
at_most (integer x) (integer y) = Valued (is_le (int_cmp x y))
at_most (char s) (char t) = Valued (is_le (slice_cmp nat_cmp s t))
at_most (relation g rs) (relation h ss) =
    value_if (same_heading (unpack g) (unpack h)) (is_subset (relation_view (unpack g) (unpack_rows rs)) (relation_view (unpack h) (unpack_rows ss)))
    causes.Heading
at_most v w = mismatch

-- at most the other, and not the same
abbrev pub less_than : Val → Val → Outcome Val
less_than v w = with_value (at_most v w) (λ least. of_truth (least && not (eq_by_cmp value_cmp v w)))

abbrev pub less_or_equal : Val → Val → Outcome Val
less_or_equal v w = with_value (at_most v w) of_truth

-- t IN r
abbrev pub membership_value : Val → Val → Outcome Val
membership_value (tuple fs) (relation h rs) =
    value_if (same_heading (heading_of (unpack_fields fs)) (unpack h)) (boolean (has tuple_cmp (unpack_fields fs) (unpack_rows rs))) causes.Heading
membership_value v w = mismatch

abbrev pub comparison_value : Comparison → Val → Val → Outcome Val
comparison_value comparisons.Equal v w = equality_value v w (λ same. same)
comparison_value comparisons.NotEqual v w = equality_value v w not
comparison_value comparisons.Less v w = less_than v w
comparison_value comparisons.LessOrEqual v w = less_or_equal v w
comparison_value comparisons.Greater v w = less_than w v
comparison_value comparisons.GreaterOrEqual v w = less_or_equal w v
comparison_value comparisons.In v w = membership_value v w

-- ---- tuples and relations

-- TUPLE: a name twice is HEADING
abbrev pub tuple_from : Tuple → Outcome Val
tuple_from entries = with_value (made_tuple entries) (λ t. Valued (tuple_value t))

-- an element of a relation of the heading is a tuple of it
abbrev pub element_of : Heading → Val → Outcome Tuple
element_of h v = on_tuple v (λ t. value_if (same_heading (heading_of t) h) t causes.Heading)

-- RELATION with a heading: the set of its elements
abbrev pub headed_value : Heading → List Val → Outcome Val
headed_value h vs = with_value (gathered (map (element_of h) vs)) (λ ts. of_relation (relation_of h ts))

-- RELATION without one: the heading is the first element's
abbrev pub listed_value : List Val → Outcome Val
listed_value [] = mismatch
listed_value (v ∷ vs) = on_tuple v (λ t. headed_value (heading_of t) (v ∷ vs))

-- ---- what is applied to each tuple of a relation

-- a truth value
abbrev pub truth_value : Outcome Val → Outcome Bool
truth_value o = with_value o (λ v. on_truth v Valued)

-- whether it is TRUE
abbrev pub is_true : Outcome Val → Bool
is_true (Valued (boolean b)) = b
is_true _ = false

-- r WHERE p: where p has a truth value for each tuple, those for which it is TRUE
abbrev pub restricted_value : (Tuple → Outcome Val) → Relation → Outcome Val
restricted_value p r =
    with_value (gathered (map (λ t. truth_value (p t)) r.body)) (λ truths. of_relation (restriction (λ t. is_true (p t)) r))

-- a value of the type
abbrev pub value_of_type : Type' → Val → Outcome Val
value_of_type t v = value_if (same_type (type_of v) t) v causes.TypeMismatch

-- the values of a new attribute, one for each tuple
abbrev pub column_values : Type' → (Tuple → Outcome Val) → List Tuple → Outcome (List Val)
column_values t f tuples = gathered (map (λ u. with_value (f u) (value_of_type t)) tuples)

-- the values of each new attribute in the tuples
abbrev pub columns_values : List Attribute → List (Tuple → Outcome Val) → List Tuple → List (Outcome (List Val))
columns_values [] fs tuples = []
columns_values (a ∷ attributes) [] tuples = []
columns_values (a ∷ attributes) (f ∷ fs) tuples = column_values a.1 f tuples ∷ columns_values attributes fs tuples

-- the value, where there is one
abbrev pub value_or_false : Outcome Val → Val
value_or_false (Valued v) = v
value_or_false (Refused cs) = boolean false

-- the new attributes with their values in each tuple
abbrev pub additions_of : List Attribute → List (Tuple → Outcome Val) → List Addition
additions_of [] fs = []
additions_of (a ∷ attributes) [] = []
additions_of (a ∷ attributes) (f ∷ fs) =
    record { name = a.0; kind = a.1; value = λ t. value_or_false (f t) } ∷ additions_of attributes fs

-- EXTEND r ADD (..): where each e has a value for each tuple, the tuples with each new attribute set to the value of its e.
-- The types of the new attributes are the static ones, since a relation may have no tuple that tells them
abbrev pub extended_value : Outcome (List Attribute) → List (Tuple → Outcome Val) → Relation → Outcome Val
extended_value types fs r =
    with_value types (λ attributes. with_value (extended_by r.heading attributes)
    (λ heading. with_value (gathered (columns_values attributes fs r.body))
    (λ columns. of_relation (extended_relation (additions_of attributes fs) r))))

-- the tuples with attributes set: where each of the parts has a value of its attribute's type in each tuple, those values, all
-- at once
abbrev pub set_value : List Attribute → List (Tuple → Outcome Val) → Relation → Outcome Relation
set_value attributes fs r =
    with_value (gathered (columns_values attributes fs r.body)) (λ columns. Valued (set_relation (additions_of attributes fs) r))

-- EXTEND r : {A := e, ..}: where each e has a value for each tuple, the tuples with each attribute set to the value of its e, all
-- at once. The types of the attributes are the static ones, since a relation may have no tuple that tells them
abbrev pub extended_by_settings : Outcome (List Attribute) → List (Tuple → Outcome Val) → Relation → Outcome Val
extended_by_settings types fs r =
    with_value types (λ attributes. with_value (set_heading r.heading attributes)
    (λ heading. with_value (set_value attributes fs r) of_relation))
