-- What the operators that cannot fail give of whatever operands: a value, or a cause that no evaluation has.
use Rattle.std.proofs.Common.{◌≡◌, ◌++◌, ℕ, nat_eq, Bool, true, not, ◌&&◌, ◌||◌, List, [], ◌∷◌, length, map, refl}
use Rattle.std.specs.List.{zip}
use Rattle.std.specs.Ordering.{eq_by_cmp}
use Rattle.td_algebra.specs.model.Operators.{composition, difference, intersection, is_subset, join, product, projected_relation, renamed_relation, semidifference, semijoin, union}
use Rattle.td_check.specs.laws.CannotFail.{measure_cannot_fail, operator_cannot_fail, prefix_cannot_fail}
use Rattle.td_check.specs.model.OperatorTypes.{attribute_type, equality_type, known_or, named_part, over_relation, over_tuple, renaming_pairs, same_heading, same_type}
use Rattle.td_eval.specs.model.OperatorValues.{at_most, comparison_value, component_value, components_of, element_of, equality_value, extracted_value, headed_value, less_or_equal, less_than, listed_names, listed_value, measure_value, membership_value, nested_names, of_relation, of_truth, on_relations, on_text, operator_value, postfix_value, prefix_value, projected_names, relation_where, tuple_from}
use Rattle.td_group.specs.model.Closure.{closure}
use Rattle.td_group.specs.model.Nesting.{can_nest, can_unnest, grouped_relation, unnested_relation, wrapped_relation}
use Rattle.td_eval.proofs.law_lemmas.StaticOutcomes.{IsStatic, gathered_static, known_static, over_relation_static, over_tuple_static, relation_static, relations_static, test_static, text_static, truth_static, truths_static, tuple_static, with_static}
use Rattle.td_tree.specs.declared.cause.Cause.TheVariants as causes
use Rattle.td_tree.specs.declared.operator.Comparison.{Comparison}
use Rattle.td_tree.specs.declared.operator.Comparison.TheVariants as comparisons
use Rattle.td_tree.specs.declared.operator.Measure.{Measure}
use Rattle.td_tree.specs.declared.operator.Measure.TheVariants as measures
use Rattle.td_tree.specs.declared.operator.Operator.{Operator}
use Rattle.td_tree.specs.declared.operator.Operator.TheVariants as operators
use Rattle.td_tree.specs.declared.operator.Prefix.{Prefix}
use Rattle.td_tree.specs.declared.operator.Prefix.TheVariants as prefixes
use Rattle.td_tree.specs.model.Outcomes.{Valued, gathered, value_if, with_value}
use Rattle.td_tree.specs.model.Trees.{Attributes, only, all_but, Postfix, project, rename, group, ungroup, wrap, unwrap}
use Rattle.td_types.specs.model.Headings.{agree, are_distinct, can_rename, has_projection, have_no_common, is_closable, outside, projected_heading, projection}
use Rattle.td_types.specs.model.TypeLists.{DeclaredType, declared_at}
use Rattle.td_types.specs.model.Types.{Type', Heading, attribute_names, type_at, unpack}
use Rattle.td_types.specs.model.Types as types
use Rattle.td_value.specs.model.Sets.{has}
use Rattle.td_value.specs.model.Values.{Val, boolean, integer, char, relation_value, tuple_value, user, tuple, relation, Relation, Tuple, heading_of, made_tuple, relation_of, tuple_cmp, tuple_names, tuple_of, type_of, unpack_fields, unpack_rows, value_at, value_cmp, relation_view}

-- ---- operators of one operand

fits_static : (fits : Bool) (r : Relation) → IsStatic (relation_where fits r)
fits_static fits r = test_static fits (relation_value r) causes.Heading (λ h. h)

pub prefix_static : (op : Prefix) (v : Val) → prefix_cannot_fail op ≡ true → IsStatic (prefix_value op v)
prefix_static prefixes.Not v e = truth_static v (λ b. of_truth (not b)) (λ b. tt)
prefix_static prefixes.Negate v e = absurd (cc)
prefix_static prefixes.TransitiveClosure v e =
    relation_static v (λ r. relation_where (is_closable r.heading) (closure r)) (λ r. fits_static (is_closable r.heading) (closure r))
prefix_static prefixes.TupleFrom v e = absurd (cc)

pub extracted_static : (name : List ℕ) (v : Val) → IsStatic (extracted_value name v)
extracted_static name v =
    tuple_static v (λ t. known_or causes.Heading (value_at name t)) (λ t. known_static causes.Heading (value_at name t) (λ h. h))

pub component_static : (ds : List DeclaredType) (name : List ℕ) (v : Val) → IsStatic (component_value ds name v)
component_static ds name (user n ps) =
    with_static (known_or causes.NameUnknown (declared_at n ds))
    (λ d. known_or causes.NameUnknown (value_at name (zip (attribute_names d.components) (components_of ps))))
    (known_static causes.NameUnknown (declared_at n ds) (λ h. h))
    (λ d. known_static causes.NameUnknown (value_at name (zip (attribute_names d.components) (components_of ps))) (λ h. h))
component_static ds name _ = (causes.TypeMismatch, refl, λ h. h)

pub measure_static : (op : Measure) (v : Val) → measure_cannot_fail op ≡ true → IsStatic (measure_value op v)
measure_static measures.Count v e = absurd (cc)
measure_static measures.IsEmpty v e = relation_static v (λ r. of_truth (nat_eq (length r.body) 0)) (λ r. tt)

part_static : (attributes : Attributes) (h : Heading) → IsStatic (named_part attributes h)
part_static (only names) h = test_static (has_projection names h) (projection names h) causes.Heading (λ k. k)
part_static (all_but names) h =
    with_static (projected_heading names h) (λ part. Valued (outside part h))
    (test_static (has_projection names h) (projection names h) causes.Heading (λ k. k)) (λ part. tt)

nested_static : (attributes : Attributes) (name : List ℕ) (h : Heading) → IsStatic (nested_names attributes name h)
nested_static attributes name h =
    with_static (named_part attributes h) (λ part. value_if (can_nest (attribute_names part) name h) (attribute_names part) causes.Heading)
    (part_static attributes h)
    (λ part. test_static (can_nest (attribute_names part) name h) (attribute_names part) causes.Heading (λ k. k))

attribute_static : (name : List ℕ) (h : Heading) → IsStatic (attribute_type name h)
attribute_static name h = known_static causes.Heading (type_at name h) (λ k. k)

pub postfix_static : (op : Postfix) (v : Val) → IsStatic (postfix_value op v)
postfix_static (project attributes) v =
    relation_static v
    (λ r. relation_where (has_projection (listed_names attributes) r.heading) (projected_relation (projected_names attributes r.heading) r))
    (λ r. fits_static (has_projection (listed_names attributes) r.heading) (projected_relation (projected_names attributes r.heading) r))
postfix_static (rename style renamings) v =
    relation_static v
    (λ r. relation_where (can_rename (renaming_pairs renamings) r.heading) (renamed_relation (renaming_pairs renamings) r))
    (λ r. fits_static (can_rename (renaming_pairs renamings) r.heading) (renamed_relation (renaming_pairs renamings) r))
postfix_static (group style attributes name) v =
    relation_static v (λ r. with_value (nested_names attributes name r.heading) (λ names. of_relation (grouped_relation names name r)))
    (λ r. with_static (nested_names attributes name r.heading) (λ names. of_relation (grouped_relation names name r))
    (nested_static attributes name r.heading) (λ names. tt))
postfix_static (wrap style attributes name) v =
    relation_static v (λ r. with_value (nested_names attributes name r.heading) (λ names. of_relation (wrapped_relation names name r)))
    (λ r. with_static (nested_names attributes name r.heading) (λ names. of_relation (wrapped_relation names name r))
    (nested_static attributes name r.heading) (λ names. tt))
postfix_static (ungroup name) v =
    relation_static v
    (λ r. with_value (attribute_type name r.heading)
    (λ t. over_relation t (λ part. relation_where (can_unnest name r.heading) (unnested_relation name r))))
    (λ r. with_static (attribute_type name r.heading)
    (λ t. over_relation t (λ part. relation_where (can_unnest name r.heading) (unnested_relation name r)))
    (attribute_static name r.heading)
    (λ t. over_relation_static t (λ part. relation_where (can_unnest name r.heading) (unnested_relation name r))
    (λ part. fits_static (can_unnest name r.heading) (unnested_relation name r))))
postfix_static (unwrap name) v =
    relation_static v
    (λ r. with_value (attribute_type name r.heading)
    (λ t. over_tuple t (λ part. relation_where (can_unnest name r.heading) (unnested_relation name r))))
    (λ r. with_static (attribute_type name r.heading)
    (λ t. over_tuple t (λ part. relation_where (can_unnest name r.heading) (unnested_relation name r)))
    (attribute_static name r.heading)
    (λ t. over_tuple_static t (λ part. relation_where (can_unnest name r.heading) (unnested_relation name r))
    (λ part. fits_static (can_unnest name r.heading) (unnested_relation name r))))

-- ---- operators between two operands

-- of two relations, where their headings fit
where_fit : (v w : Val) (fits : Heading → Heading → Bool) (made : Relation → Relation → Relation)
    → IsStatic (on_relations v w (λ q r. relation_where (fits q.heading r.heading) (made q r)))
where_fit v w fits made =
    relations_static v w (λ q r. relation_where (fits q.heading r.heading) (made q r)) (λ q r. fits_static (fits q.heading r.heading) (made q r))

pub operator_static : (op : Operator) (v w : Val) → operator_cannot_fail op ≡ true → IsStatic (operator_value op v w)
operator_static operators.Or v w e = truths_static v w (λ a b. of_truth (a || b)) (λ a b. tt)
operator_static operators.And v w e = truths_static v w (λ a b. of_truth (a && b)) (λ a b. tt)
operator_static operators.Union v w e = where_fit v w same_heading union
operator_static operators.Intersect v w e = where_fit v w same_heading intersection
operator_static operators.Minus v w e = where_fit v w same_heading difference
operator_static operators.DisjointUnion v w e = absurd (cc)
operator_static operators.IncludedMinus v w e = absurd (cc)
operator_static operators.Join v w e = where_fit v w agree join
operator_static operators.Times v w e = where_fit v w have_no_common product
operator_static operators.Compose v w e = where_fit v w agree composition
operator_static operators.Matching v w e = where_fit v w agree semijoin
operator_static operators.NotMatching v w e = where_fit v w agree semidifference
operator_static operators.Add v w e = absurd (cc)
operator_static operators.Subtract v w e = absurd (cc)
operator_static operators.Multiply v w e = absurd (cc)
operator_static operators.Divide v w e = absurd (cc)
operator_static operators.Concatenate v w e =
    text_static v (λ x. on_text w (λ y. Valued (char (x ++ y)))) (λ x. text_static w (λ y. Valued (char (x ++ y))) (λ y. tt))

equality_static : (s t : Type') → IsStatic (equality_type s t)
equality_static (types.relation g) (types.relation h) =
    test_static (same_type (types.relation g) (types.relation h)) types.boolean causes.Heading (λ k. k)
equality_static s t = test_static (same_type t s) types.boolean causes.TypeMismatch (λ k. k)

equal_static : (v w : Val) (f : Bool → Bool) → IsStatic (equality_value v w f)
equal_static v w f =
    with_static (equality_type (type_of v) (type_of w)) (λ t. of_truth (f (eq_by_cmp value_cmp v w)))
    (equality_static (type_of v) (type_of w)) (λ t. tt)

order_static : (v w : Val) → IsStatic (at_most v w)
order_static (integer x) (integer y) = tt
order_static (char s) (char t) = tt
order_static (relation g rs) (relation h ss) =
    test_static (same_heading (unpack g) (unpack h))
    (is_subset (relation_view (unpack g) (unpack_rows rs)) (relation_view (unpack h) (unpack_rows ss))) causes.Heading (λ k. k)
order_static v w = (causes.TypeMismatch, refl, λ h. h)

less_static : (v w : Val) → IsStatic (less_than v w)
less_static v w =
    with_static (at_most v w) (λ least. of_truth (least && not (eq_by_cmp value_cmp v w))) (order_static v w) (λ least. tt)

least_static : (v w : Val) → IsStatic (less_or_equal v w)
least_static v w = with_static (at_most v w) of_truth (order_static v w) (λ least. tt)

membership_static : (v w : Val) → IsStatic (membership_value v w)
membership_static (tuple fs) (relation h rs) =
    test_static (same_heading (heading_of (unpack_fields fs)) (unpack h)) (boolean (has tuple_cmp (unpack_fields fs) (unpack_rows rs)))
    causes.Heading (λ k. k)
membership_static v w = (causes.TypeMismatch, refl, λ h. h)

pub comparison_static : (op : Comparison) (v w : Val) → IsStatic (comparison_value op v w)
comparison_static comparisons.Equal v w = equal_static v w (λ same. same)
comparison_static comparisons.NotEqual v w = equal_static v w not
comparison_static comparisons.Less v w = less_static v w
comparison_static comparisons.LessOrEqual v w = least_static v w
comparison_static comparisons.Greater v w = less_static w v
comparison_static comparisons.GreaterOrEqual v w = least_static w v
comparison_static comparisons.In v w = membership_static v w

-- ---- tuples and relations

pub tuple_from_static : (entries : Tuple) → IsStatic (tuple_from entries)
tuple_from_static entries =
    with_static (made_tuple entries) (λ t. Valued (tuple_value t))
    (test_static (are_distinct (tuple_names entries)) (tuple_of entries) causes.Heading (λ h. h)) (λ t. tt)

pub headed_static : (h : Heading) (vs : List Val) → IsStatic (headed_value h vs)
headed_static h vs =
    with_static (gathered (map (element_of h) vs)) (λ ts. of_relation (relation_of h ts))
    (gathered_static (element_of h) vs
    (λ v c. tuple_static v (λ t. value_if (same_heading (heading_of t) h) t causes.Heading)
    (λ t. test_static (same_heading (heading_of t) h) t causes.Heading (λ k. k))))
    (λ ts. tt)

pub listed_static : (vs : List Val) → IsStatic (listed_value vs)
listed_static [] = (causes.TypeMismatch, refl, λ h. h)
listed_static (v ∷ vs) = tuple_static v (λ t. headed_value (heading_of t) (v ∷ vs)) (λ t. headed_static (heading_of t) (v ∷ vs))
