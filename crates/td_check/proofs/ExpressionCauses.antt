-- Types and expressions are refused by their own causes alone: by induction on the trees.
use Rattle.std.proofs.Common.{◌∷◌, Bool, true, false, ℕ, List, [], map, Option, Some, None}
use Rattle.std.specs.Prelude.{if◌then◌else◌}
use Rattle.td_check.specs.model.OperatorTypes as rules
use Rattle.td_check.specs.model.OperatorTypes.{Item, aggregate_item, aggregate_type, attribute_type, closure_type, comparison_type, component_type, composed_heading, count_item, element_type, equality_type, extended_by, extension_type, extracted_type, headed_type, item_type, known_or, listed_type, measure_type, membership_type, mismatch, named_part, operator_type, order_type, over_relation, per_heading, postfix_type, prefix_type, restriction_type, selector_type, set_heading, setting_type, summary_type, tuple_type}
use Rattle.td_check.specs.model.Scopes.{Scope, bound_to, entered_with, innermost, known_relvar}
use Rattle.td_check.specs.laws.StaticCauses.{IsRefusedOnlyBy}
use Rattle.td_check.specs.model.StaticTypes.{items_of, name_type, named_types, both_types, type_of, type_where_bound, types_of, with_items}
use Rattle.td_check.proofs.Refusals.{by_both, by_each, by_known, by_one, by_relation, by_test, by_tuple, by_value}
use Rattle.td_tree.specs.declared.cause.Cause.{Cause}
use Rattle.td_tree.specs.declared.cause.Cause.TheVariants as causes
use Rattle.td_tree.specs.declared.operator.Aggregate.{Aggregate}
use Rattle.td_tree.specs.declared.operator.Aggregate.TheVariants as aggregates
use Rattle.td_tree.specs.declared.operator.Comparison.{Comparison}
use Rattle.td_tree.specs.declared.operator.Comparison.TheVariants as comparisons
use Rattle.td_tree.specs.declared.operator.Measure.{Measure}
use Rattle.td_tree.specs.declared.operator.Measure.TheVariants as measures
use Rattle.td_tree.specs.declared.operator.Operator.{Operator}
use Rattle.td_tree.specs.declared.operator.Operator.TheVariants as operators
use Rattle.td_tree.specs.declared.operator.Prefix.{Prefix}
use Rattle.td_tree.specs.declared.operator.Prefix.TheVariants as prefixes
use Rattle.td_tree.specs.model.Outcomes.{Outcome, Valued, gathered, value_if, with_value}
use Rattle.td_tree.specs.model.Trees.{AttributeTrees, Attributes, only, all_but, Postfix, project, rename, group, ungroup, wrap, unwrap, Tree, literal, name, parentheses, prefix, extract, restriction, binary, compare, postfix, select, component, measure, aggregate, relation, headed_relation, tuple, extend, extend_setting, summarize_per, summarize_by, choice, binding, Trees, none, more, NamedTrees, none_named, more_named, Summaries, no_summaries, counted, summed, TypeTree, no_attributes, attribute}
use Rattle.td_tree.specs.model.Trees as trees
use Rattle.td_types.specs.model.Headings.{agree, common_heading, common_part, has_name, has_projection, heading_union, made_heading, outside, projected_heading, projection}
use Rattle.td_types.specs.model.TypeLists.{DeclaredType, attributes_meant, declared_at, heading_meant, is_declared, type_meant}
use Rattle.td_types.specs.model.Types.{Attribute, Heading, Type', pack, type_at}
use Rattle.td_types.specs.model.Types as types

-- ---- types

module _ (P : Cause → Type 0) (unknown : P causes.NameUnknown) (misfit : P causes.Heading) (ds : List DeclaredType) where
  mutual
    pub type_refused : (tree : TypeTree) → IsRefusedOnlyBy P (type_meant ds tree)
    type_refused trees.integer = tt
    type_refused trees.char = tt
    type_refused trees.boolean = tt
    type_refused (trees.user n) = by_test P (is_declared n ds) _ causes.NameUnknown unknown
    type_refused (trees.tuple_type heading) =
        by_value P (attributes_meant ds heading) _ (attributes_refused heading)
        (λ xs. by_value P (made_heading xs) _ (by_test P _ _ causes.Heading misfit) (λ h. tt))
    type_refused (trees.relation_type heading) =
        by_value P (attributes_meant ds heading) _ (attributes_refused heading)
        (λ xs. by_value P (made_heading xs) _ (by_test P _ _ causes.Heading misfit) (λ h. tt))

    pub attributes_refused : (heading : AttributeTrees) → IsRefusedOnlyBy P (attributes_meant ds heading)
    attributes_refused no_attributes = tt
    attributes_refused (attribute n ty rest) =
        by_both P (type_meant ds ty) (attributes_meant ds rest) _ (type_refused ty) (attributes_refused rest) (λ t xs. tt)

  pub heading_refused : (heading : AttributeTrees) → IsRefusedOnlyBy P (heading_meant ds heading)
  heading_refused heading =
      by_value P (attributes_meant ds heading) made_heading (attributes_refused heading)
      (λ xs. by_test P _ _ causes.Heading misfit)

-- ---- operators

module _ (P : Cause → Type 0) (unknown : P causes.NameUnknown) (mismatched : P causes.TypeMismatch) (misfit : P causes.Heading) where
  -- a heading that is asked for, and what follows of it
  relation_of : (o : Outcome Heading) → IsRefusedOnlyBy P o → IsRefusedOnlyBy P (with_value o (λ h. Valued (types.relation (pack h))))
  relation_of o p = by_value P o _ p (λ h. tt)

  fitting : {A : Type 0} (test : Bool) (x : A) → IsRefusedOnlyBy P (value_if test x causes.Heading)
  fitting test x = by_test P test x causes.Heading misfit

  typed : {A : Type 0} (test : Bool) (x : A) → IsRefusedOnlyBy P (value_if test x causes.TypeMismatch)
  typed test x = by_test P test x causes.TypeMismatch mismatched

  part_refused : (attributes : Attributes) (h : Heading) → IsRefusedOnlyBy P (named_part attributes h)
  part_refused (only names) h = fitting _ _
  part_refused (all_but names) h =
      by_value P (projected_heading names h) (λ part. Valued (outside part h)) (fitting (has_projection names h) (projection names h)) (λ part. tt)

  attribute_refused : (n : List ℕ) (h : Heading) → IsRefusedOnlyBy P (attribute_type n h)
  attribute_refused n h = by_known P causes.Heading (type_at n h) misfit

  closure_refused : (h : Heading) → IsRefusedOnlyBy P (closure_type h)
  closure_refused h = fitting _ _

  prefix_refused : (op : Prefix) (t : Type') → IsRefusedOnlyBy P (prefix_type op t)
  prefix_refused prefixes.Not t = typed _ _
  prefix_refused prefixes.Negate t = typed _ _
  prefix_refused prefixes.TransitiveClosure t = by_relation P mismatched t closure_type closure_refused
  prefix_refused prefixes.TupleFrom t = by_relation P mismatched t _ (λ h. tt)

  extracted_refused : (n : List ℕ) (t : Type') → IsRefusedOnlyBy P (extracted_type n t)
  extracted_refused n t = by_tuple P mismatched t (attribute_type n) (attribute_refused n)

  component_refused : (ds : List DeclaredType) (n : List ℕ) (t : Type') → IsRefusedOnlyBy P (component_type ds n t)
  component_refused ds n (types.user m) =
      by_value P _ _ (by_known P causes.NameUnknown (declared_at m ds) unknown)
      (λ d. by_known P causes.NameUnknown (type_at n d.components) unknown)
  component_refused ds n types.boolean = by_one P causes.TypeMismatch mismatched
  component_refused ds n types.integer = by_one P causes.TypeMismatch mismatched
  component_refused ds n types.char = by_one P causes.TypeMismatch mismatched
  component_refused ds n (types.tuple xs) = by_one P causes.TypeMismatch mismatched
  component_refused ds n (types.relation xs) = by_one P causes.TypeMismatch mismatched

  measure_refused : (op : Measure) (t : Type') → IsRefusedOnlyBy P (measure_type op t)
  measure_refused measures.Count t = by_relation P mismatched t _ (λ h. tt)
  measure_refused measures.IsEmpty t = by_relation P mismatched t _ (λ h. tt)

  aggregate_refused : (op : Aggregate) (t : Type') → IsRefusedOnlyBy P (aggregate_type op t)
  aggregate_refused aggregates.Sum t = typed _ _
  aggregate_refused aggregates.Max t = typed _ _
  aggregate_refused aggregates.Min t = typed _ _

  nested_refused : (attributes : Attributes) (t : Type') (f : Heading → Heading → Outcome Heading) → ((h part : Heading) → IsRefusedOnlyBy P (f h part))
      → IsRefusedOnlyBy P (over_relation t (λ h. with_value (named_part attributes h) (λ part. with_value (f h part) (λ g. Valued (types.relation (pack g))))))
  nested_refused attributes t f p =
      by_relation P mismatched t _ (λ h. by_value P (named_part attributes h) _ (part_refused attributes h) (λ part. relation_of (f h part) (p h part)))

  postfix_refused : (op : Postfix) (t : Type') → IsRefusedOnlyBy P (postfix_type op t)
  postfix_refused (project attributes) t = by_relation P mismatched t _ (λ h. relation_of (named_part attributes h) (part_refused attributes h))
  postfix_refused (rename style renamings) t = by_relation P mismatched t _ (λ h. relation_of _ (fitting _ _))
  postfix_refused (group style attributes n) t = nested_refused attributes t _ (λ h part. fitting _ _)
  postfix_refused (wrap style attributes n) t = nested_refused attributes t _ (λ h part. fitting _ _)
  postfix_refused (ungroup n) t =
      by_relation P mismatched t _ (λ h. by_value P (attribute_type n h) _ (attribute_refused n h)
      (λ s. by_relation P mismatched s _ (λ part. relation_of _ (fitting _ _))))
  postfix_refused (unwrap n) t =
      by_relation P mismatched t _ (λ h. by_value P (attribute_type n h) _ (attribute_refused n h)
      (λ s. by_tuple P mismatched s _ (λ part. relation_of _ (fitting _ _))))

  over_both : {A : Type 0} (s t : Type') (f : Heading → Heading → Outcome A) → ((g h : Heading) → IsRefusedOnlyBy P (f g h))
      → IsRefusedOnlyBy P (over_relation s (λ g. over_relation t (λ h. f g h)))
  over_both s t f p = by_relation P mismatched s _ (λ g. by_relation P mismatched t _ (p g))

  operator_refused : (op : Operator) (s t : Type') → IsRefusedOnlyBy P (operator_type op s t)
  operator_refused operators.Or s t = typed _ _
  operator_refused operators.And s t = typed _ _
  operator_refused operators.Union s t = over_both s t _ (λ g h. fitting _ _)
  operator_refused operators.Intersect s t = over_both s t _ (λ g h. fitting _ _)
  operator_refused operators.Minus s t = over_both s t _ (λ g h. fitting _ _)
  operator_refused operators.DisjointUnion s t = over_both s t _ (λ g h. fitting _ _)
  operator_refused operators.IncludedMinus s t = over_both s t _ (λ g h. fitting _ _)
  operator_refused operators.Join s t = over_both s t _ (λ g h. relation_of _ (fitting _ _))
  operator_refused operators.Compose s t = over_both s t _
      (λ g h. relation_of (composed_heading g h) (by_value P (common_heading g h) (λ common. Valued (heading_union (outside common g) (outside common h)))
      (fitting (agree g h) (common_part g h)) (λ common. tt)))
  operator_refused operators.Matching s t = over_both s t _ (λ g h. fitting _ _)
  operator_refused operators.NotMatching s t = over_both s t _ (λ g h. fitting _ _)
  operator_refused operators.Times s t = over_both s t _ (λ g h. relation_of _ (fitting _ _))
  operator_refused operators.Add s t = typed _ _
  operator_refused operators.Subtract s t = typed _ _
  operator_refused operators.Multiply s t = typed _ _
  operator_refused operators.Divide s t = typed _ _
  operator_refused operators.Concatenate s t = typed _ _

  equality_refused : (s t : Type') → IsRefusedOnlyBy P (equality_type s t)
  equality_refused (types.relation g) (types.relation h) = fitting _ _
  equality_refused (types.relation g) types.boolean = by_one P causes.TypeMismatch mismatched
  equality_refused (types.relation g) types.integer = by_one P causes.TypeMismatch mismatched
  equality_refused (types.relation g) types.char = by_one P causes.TypeMismatch mismatched
  equality_refused (types.relation g) (types.user n) = by_one P causes.TypeMismatch mismatched
  equality_refused (types.relation g) (types.tuple h) = by_one P causes.TypeMismatch mismatched
  equality_refused types.boolean t = typed _ _
  equality_refused types.integer t = typed _ _
  equality_refused types.char t = typed _ _
  equality_refused (types.user n) t = typed _ _
  equality_refused (types.tuple g) t = typed _ _

  order_refused : (s t : Type') → IsRefusedOnlyBy P (order_type s t)
  order_refused types.boolean t = by_one P causes.TypeMismatch mismatched
  order_refused types.integer types.boolean = by_one P causes.TypeMismatch mismatched
  order_refused types.integer types.integer = tt
  order_refused types.integer types.char = by_one P causes.TypeMismatch mismatched
  order_refused types.integer (types.user m) = by_one P causes.TypeMismatch mismatched
  order_refused types.integer (types.tuple h) = by_one P causes.TypeMismatch mismatched
  order_refused types.integer (types.relation h) = by_one P causes.TypeMismatch mismatched
  order_refused types.char types.boolean = by_one P causes.TypeMismatch mismatched
  order_refused types.char types.integer = by_one P causes.TypeMismatch mismatched
  order_refused types.char types.char = tt
  order_refused types.char (types.user m) = by_one P causes.TypeMismatch mismatched
  order_refused types.char (types.tuple h) = by_one P causes.TypeMismatch mismatched
  order_refused types.char (types.relation h) = by_one P causes.TypeMismatch mismatched
  order_refused (types.user n) t = by_one P causes.TypeMismatch mismatched
  order_refused (types.tuple g) t = by_one P causes.TypeMismatch mismatched
  order_refused (types.relation g) types.boolean = by_one P causes.TypeMismatch mismatched
  order_refused (types.relation g) types.integer = by_one P causes.TypeMismatch mismatched
  order_refused (types.relation g) types.char = by_one P causes.TypeMismatch mismatched
  order_refused (types.relation g) (types.user m) = by_one P causes.TypeMismatch mismatched
  order_refused (types.relation g) (types.tuple h) = by_one P causes.TypeMismatch mismatched
  order_refused (types.relation g) (types.relation h) = fitting _ _

  membership_refused : (s t : Type') → IsRefusedOnlyBy P (membership_type s t)
  membership_refused types.boolean t = by_one P causes.TypeMismatch mismatched
  membership_refused types.integer t = by_one P causes.TypeMismatch mismatched
  membership_refused types.char t = by_one P causes.TypeMismatch mismatched
  membership_refused (types.user n) t = by_one P causes.TypeMismatch mismatched
  membership_refused (types.tuple g) types.boolean = by_one P causes.TypeMismatch mismatched
  membership_refused (types.tuple g) types.integer = by_one P causes.TypeMismatch mismatched
  membership_refused (types.tuple g) types.char = by_one P causes.TypeMismatch mismatched
  membership_refused (types.tuple g) (types.user m) = by_one P causes.TypeMismatch mismatched
  membership_refused (types.tuple g) (types.tuple h) = by_one P causes.TypeMismatch mismatched
  membership_refused (types.tuple g) (types.relation h) = fitting _ _
  membership_refused (types.relation g) t = by_one P causes.TypeMismatch mismatched

  comparison_refused : (op : Comparison) (s t : Type') → IsRefusedOnlyBy P (comparison_type op s t)
  comparison_refused comparisons.Equal s t = equality_refused s t
  comparison_refused comparisons.NotEqual s t = equality_refused s t
  comparison_refused comparisons.Less s t = order_refused s t
  comparison_refused comparisons.LessOrEqual s t = order_refused s t
  comparison_refused comparisons.Greater s t = order_refused s t
  comparison_refused comparisons.GreaterOrEqual s t = order_refused s t
  comparison_refused comparisons.In s t = membership_refused s t

  selector_refused : (ds : List DeclaredType) (n : List ℕ) (ts : List Type') → IsRefusedOnlyBy P (selector_type ds n ts)
  selector_refused ds n ts = by_value P _ _ (by_known P causes.NameUnknown (declared_at n ds) unknown) (λ d. typed _ _)

  element_refused : (h : Heading) (t : Type') → IsRefusedOnlyBy P (element_type h t)
  element_refused h t = by_tuple P mismatched t _ (λ g. fitting _ _)

  headed_refused : (h : Heading) (ts : List Type') → IsRefusedOnlyBy P (headed_type h ts)
  headed_refused h ts = by_value P _ _ (by_each P (element_type h) ts (element_refused h)) (λ elements. tt)

  listed_refused : (ts : List Type') → IsRefusedOnlyBy P (listed_type ts)
  listed_refused [] = by_one P causes.TypeMismatch mismatched
  listed_refused (t ∷ ts) = by_tuple P mismatched t _ (λ h. headed_refused h ts)

  tuple_refused : (xs : List Attribute) → IsRefusedOnlyBy P (tuple_type xs)
  tuple_refused xs = by_value P (made_heading xs) _ (fitting _ _) (λ h. tt)

  extension_refused : (h : Heading) (xs : List Attribute) → IsRefusedOnlyBy P (extension_type h xs)
  extension_refused h xs = relation_of (extended_by h xs) (fitting _ _)

  setting_refused : (h : Heading) (xs : List Attribute) → IsRefusedOnlyBy P (setting_type h xs)
  setting_refused h xs = relation_of (set_heading h xs) (fitting _ _)

  item_refused : (item : List ℕ × Item) → IsRefusedOnlyBy P (item_type item)
  item_refused (n, count_item) = tt
  item_refused (n, aggregate_item op t) = by_value P (aggregate_type op t) _ (aggregate_refused op t) (λ s. tt)

  summary_refused : (groups : Outcome Heading) (items : List (List ℕ × Item)) → IsRefusedOnlyBy P groups → IsRefusedOnlyBy P (summary_type groups items)
  summary_refused groups items p =
      by_both P groups (gathered (map item_type items)) _ p (by_each P item_type items item_refused) (λ g xs. extension_refused g xs)

  per_refused : (h : Heading) (t : Type') → IsRefusedOnlyBy P (per_heading h t)
  per_refused h t = by_relation P mismatched t _ (λ g. fitting _ _)

  or_mismatch : {A : Type 0} (o : Option A) (f : A → Outcome Type') → ((x : A) → IsRefusedOnlyBy P (f x))
      → IsRefusedOnlyBy P (elim o as (λ _. Outcome Type') [ Some x ↦ f x | None ↦ mismatch ])
  or_mismatch None f p = by_one P causes.TypeMismatch mismatched
  or_mismatch (Some x) f p = p x

  -- ---- names

  name_refused : (scope : Scope) (n : List ℕ) → IsRefusedOnlyBy P (name_type scope n)
  name_refused scope n = by_place (innermost n scope.entered)
    where
      by_place : (o : Option Type') → IsRefusedOnlyBy P (elim o as (λ _. Outcome Type') [
        | Some t ↦ Valued t
        | None ↦ with_value (known_or causes.NameUnknown (known_relvar scope n)) (λ r. Valued (types.relation (pack r.heading)))
      ])
      by_place (Some t) = tt
      by_place None = by_value P _ _ (by_known P causes.NameUnknown (known_relvar scope n) unknown) (λ r. tt)

  items_among : (t : Type') (f : Heading → Outcome (List (List ℕ × Item))) → ((h : Heading) → IsRefusedOnlyBy P (f h)) → IsRefusedOnlyBy P (with_items t f)
  items_among types.boolean f p = tt
  items_among types.integer f p = tt
  items_among types.char f p = tt
  items_among (types.user n) f p = tt
  items_among (types.tuple xs) f p = tt
  items_among (types.relation xs) f p = by_value P (f (types.unpack xs)) _ (p (types.unpack xs)) (λ items. tt)

  unless_twice : (twice : Bool) (o : Outcome Type') → IsRefusedOnlyBy P o → IsRefusedOnlyBy P (if twice then rules.misfit else o)
  unless_twice true o p = by_one P causes.Heading misfit
  unless_twice false o p = p

  -- ---- every expression

  mutual
    pub expression_refused : (e : Tree) (s : Scope) → IsRefusedOnlyBy P (type_of s e)
    expression_refused (literal l) s = tt
    expression_refused (name n) s = name_refused s n
    expression_refused (parentheses inner) s = expression_refused inner s
    expression_refused (prefix op operand) s = by_value P (type_of s operand) (prefix_type op) (expression_refused operand s) (prefix_refused op)
    expression_refused (extract n operand) s = by_value P (type_of s operand) (extracted_type n) (expression_refused operand s) (extracted_refused n)
    expression_refused (restriction operand condition) s =
        by_value P (type_of s operand) _ (expression_refused operand s)
        (λ t. by_relation P mismatched t _ (λ h. by_value P (type_of (entered_with h s) condition) (restriction_type t)
        (expression_refused condition (entered_with h s)) (λ u. typed _ _)))
    expression_refused (binary left op right) s =
        by_both P (type_of s left) (type_of s right) (operator_type op) (expression_refused left s) (expression_refused right s) (operator_refused op)
    expression_refused (compare left op right) s =
        by_both P (type_of s left) (type_of s right) (comparison_type op) (expression_refused left s) (expression_refused right s) (comparison_refused op)
    expression_refused (postfix operand op) s = by_value P (type_of s operand) (postfix_type op) (expression_refused operand s) (postfix_refused op)
    expression_refused (select ty arguments) s =
        by_value P (types_of s arguments) (selector_type s.types ty) (expressions_refused arguments s) (selector_refused s.types ty)
    expression_refused (component rest operand) s =
        by_value P (type_of s operand) (component_type s.types rest) (expression_refused operand s) (component_refused s.types rest)
    expression_refused (measure op operand) s = by_value P (type_of s operand) (measure_type op) (expression_refused operand s) (measure_refused op)
    expression_refused (aggregate op operand value) s =
        by_value P (type_of s operand) _ (expression_refused operand s)
        (λ t. by_relation P mismatched t _ (λ h. by_value P (type_of (entered_with h s) value) (aggregate_type op)
        (expression_refused value (entered_with h s)) (aggregate_refused op)))
    expression_refused (relation elements) s = by_value P (types_of s elements) listed_type (expressions_refused elements s) listed_refused
    expression_refused (headed_relation heading elements) s =
        by_both P (heading_meant s.types heading) (types_of s elements) headed_type (heading_refused P unknown misfit s.types heading)
        (expressions_refused elements s) headed_refused
    expression_refused (tuple parts) s = by_value P (named_types s parts) tuple_type (parts_refused parts s) tuple_refused
    expression_refused (extend operand parts) s =
        by_value P (type_of s operand) _ (expression_refused operand s)
        (λ t. by_relation P mismatched t _ (λ h. by_value P (named_types (entered_with h s) parts) (extension_type h)
        (parts_refused parts (entered_with h s)) (extension_refused h)))
    expression_refused (extend_setting operand settings) s =
        by_value P (type_of s operand) _ (expression_refused operand s)
        (λ t. by_relation P mismatched t _ (λ h. by_value P (named_types (entered_with h s) settings) (setting_type h)
        (parts_refused settings (entered_with h s)) (setting_refused h)))
    expression_refused (summarize_per operand per summaries) s =
        by_both P _ (type_of s per) _
        (by_value P (type_of s operand) _ (expression_refused operand s) (λ t. items_among t _ (λ h. items_refused summaries (entered_with h s))))
        (expression_refused per s)
        (λ both t. or_mismatch both _ (λ x. summary_refused (per_heading x.0 t) x.1 (per_refused x.0 t)))
    expression_refused (summarize_by operand by summaries) s =
        by_value P _ _
        (by_value P (type_of s operand) _ (expression_refused operand s) (λ t. items_among t _ (λ h. items_refused summaries (entered_with h s))))
        (λ both. or_mismatch both _ (λ x. summary_refused (named_part by x.0) x.1 (part_refused by x.0)))
    expression_refused (choice condition consequent alternative) s =
        by_both P (type_of s condition) (both_types (type_of s consequent) (type_of s alternative)) _ (expression_refused condition s)
        (by_both P (type_of s consequent) (type_of s alternative) _ (expression_refused consequent s) (expression_refused alternative s) (λ t u. tt))
        (λ t both. typed _ _)
    expression_refused (binding items result) s = bound_refused items [] s (λ t. type_of t result) (expression_refused result)

    -- behind WITH's items
    bound_refused : (items : NamedTrees) (before : List (List ℕ)) (s : Scope) (inside : Scope → Outcome Type') → ((t : Scope) → IsRefusedOnlyBy P (inside t))
        → IsRefusedOnlyBy P (type_where_bound before s items inside)
    bound_refused none_named before s inside p = p s
    bound_refused (more_named n value rest) before s inside p =
        by_value P (type_of s value) _ (expression_refused value s)
        (λ t. unless_twice (has_name n before) _ (bound_refused rest (n ∷ before) (bound_to n t s) inside p))

    expressions_refused : (es : Trees) (s : Scope) → IsRefusedOnlyBy P (types_of s es)
    expressions_refused none s = tt
    expressions_refused (more first rest) s =
        by_both P (type_of s first) (types_of s rest) _ (expression_refused first s) (expressions_refused rest s) (λ t ts. tt)

    pub parts_refused : (parts : NamedTrees) (s : Scope) → IsRefusedOnlyBy P (named_types s parts)
    parts_refused none_named s = tt
    parts_refused (more_named n value rest) s =
        by_both P (type_of s value) (named_types s rest) _ (expression_refused value s) (parts_refused rest s) (λ t xs. tt)

    items_refused : (items : Summaries) (s : Scope) → IsRefusedOnlyBy P (items_of s items)
    items_refused no_summaries s = tt
    items_refused (counted n rest) s = by_value P (items_of s rest) _ (items_refused rest s) (λ items. tt)
    items_refused (summed op value n rest) s =
        by_both P (type_of s value) (items_of s rest) _ (expression_refused value s) (items_refused rest s) (λ t items. tt)
