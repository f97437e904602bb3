-- The values that operators give of operands in which each user value has a property: each user value in them has it.
use Rattle.std.proofs.Common.{ℕ, ℤ, pos, Bool, true, false, List, [], ◌∷◌, length, map}
use Rattle.std.specs.Prelude.{◌+ℤ◌, ◌-ℤ◌, ◌*ℤ◌, if◌then◌else◌, int_div, neg_ℤ}
use Rattle.std.specs.List.{AllByRecursion, Contains, zip}
use Rattle.td_algebra.proofs.Lists.{contains_first}
use Rattle.td_algebra.specs.model.Operators.{composition, difference, extended_relation, intersection, is_disjoint, is_subset, join, product, projected_relation, renamed_relation, restriction, semidifference, semijoin, union}
use Rattle.td_check.proofs.OperatorLaws.{Gives, gives_after, gives_all, gives_if, gives_known, gives_with}
use Rattle.td_check.specs.model.OperatorTypes.{attribute_type, equality_type, extended_by, known_or, over_relation, over_tuple, renaming_pairs, same_heading, set_heading}
use Rattle.td_eval.proofs.code_lemmas.KeepsGathered.{member_from_all}
use Rattle.td_eval.proofs.code_lemmas.KeepsRelations.{all_made}
use Rattle.td_eval.proofs.law_lemmas.MetRelations.{EntryMeets, RelationMeets, TupleMeets, ValuesMeet, closure_meets, composition_meets, extended_meets, fields_meet, grouped_meets, join_meets, product_meets, projected_meets, relation_meets, renamed_meets, restriction_meets, rows_meet, set_attributes_meet, set_meets, union_meets, unnested_meets, unpacked_meet, value_meets, wrapped_meets}
use Rattle.td_eval.specs.model.MetConstraints.{EachInParts, EachUserValue}
use Rattle.td_eval.specs.model.OperatorValues.{additions_of, at_most, columns_values, comparison_value, component_value, components_of, disjoint_union, element_of, extended_by_settings, extended_value, extracted_value, headed_value, included_difference, is_true, is_zero, less_or_equal, less_than, listed_value, literal_value, measure_value, membership_value, nested_names, of_relation, of_truth, on_number, on_relation, on_relations, on_text, on_truth, on_tuple, only_tuple, operator_value, over_one_heading, postfix_value, prefix_value, projected_names, quotient, relation_where, restricted_value, set_value, signed_number, truth_value, tuple_from, value_or_false}
use Rattle.td_group.specs.model.Closure.{closure}
use Rattle.td_group.specs.model.Nesting.{grouped_relation, unnested_relation, wrapped_relation}
use Rattle.td_tree.specs.declared.cause.Cause.TheVariants as causes
use Rattle.td_tree.specs.declared.operator.Comparison.{Comparison}
use Rattle.td_tree.specs.declared.operator.Comparison.TheVariants as comparisons
use Rattle.td_tree.specs.declared.operator.Measure.{Measure}
use Rattle.td_tree.specs.declared.operator.Measure.TheVariants as measures
use Rattle.td_tree.specs.declared.operator.Operator.{Operator}
use Rattle.td_tree.specs.declared.operator.Operator.TheVariants as operators
use Rattle.td_tree.specs.declared.operator.Prefix.{Prefix}
use Rattle.td_tree.specs.declared.operator.Prefix.TheVariants as prefixes
use Rattle.td_tree.specs.model.Outcomes.{Outcome, Valued, Refused, Only, gathered, value_if, with_value}
use Rattle.td_tree.specs.model.Trees.{Literal, number, text, truth, table_dee, table_dum, Postfix, project, rename, group, ungroup, wrap, unwrap}
use Rattle.td_types.specs.model.Headings.{are_distinct}
use Rattle.td_types.specs.model.TypeLists.{DeclaredType, declared_at}
use Rattle.td_types.specs.model.Types.{Attribute, Heading, Type', attribute_names, unpack}
use Rattle.td_types.specs.model.Types as types
use Rattle.td_value.specs.model.Values.{Val, boolean, integer, char, of_number, relation_value, tuple_value, user, tuple, relation, Parts, no_parts, part, Relation, Tuple, heading_of, made_tuple, relation_of, tuple_names, tuple_of, type_of, unpack_fields, unpack_rows, value_at, relation_view}

module _ (P : List ℕ → Parts → Type 0) where
  abbrev pub HasOnly : Val → Type 0
  HasOnly = EachUserValue P

  -- a value in which each user value has it, or causes
  abbrev pub GivesMet : Outcome Val → Type 0
  GivesMet = Gives HasOnly

  -- ---- what an operator asks of a value

  pub truth_meets : (v : Val) (f : Bool → Outcome Val) → ((b : Bool) → GivesMet (f b)) → GivesMet (on_truth v f)
  truth_meets (boolean b) f h = h b
  truth_meets _ f h = tt

  number_meets : (v : Val) (f : ℤ → Outcome Val) → ((z : ℤ) → GivesMet (f z)) → GivesMet (on_number v f)
  number_meets (integer z) f h = h z
  number_meets _ f h = tt

  text_meets : (v : Val) (f : List ℕ → Outcome Val) → ((s : List ℕ) → GivesMet (f s)) → GivesMet (on_text v f)
  text_meets (char s) f h = h s
  text_meets _ f h = tt

  module _ {A : Type 0} (Q : A → Type 0) where
    tuple_gives : (v : Val) (f : Tuple → Outcome A) → HasOnly v → ((t : Tuple) → TupleMeets P t → Gives Q (f t)) → Gives Q (on_tuple v f)
    tuple_gives (tuple fs) f m h = h (unpack_fields fs) (unpacked_meet P fs m)
    tuple_gives (boolean b) f m h = tt
    tuple_gives (integer z) f m h = tt
    tuple_gives (char s) f m h = tt
    tuple_gives (user n ps) f m h = tt
    tuple_gives (relation g rs) f m h = tt

    pub relation_gives : (v : Val) (f : Relation → Outcome A) → HasOnly v → ((r : Relation) → RelationMeets P r → Gives Q (f r))
        → Gives Q (on_relation v f)
    relation_gives (relation g rs) f m h = h (relation_view (unpack g) (unpack_rows rs)) (rows_meet P rs m)
    relation_gives (boolean b) f m h = tt
    relation_gives (integer z) f m h = tt
    relation_gives (char s) f m h = tt
    relation_gives (user n ps) f m h = tt
    relation_gives (tuple fs) f m h = tt

  pub relations_give : (v w : Val) (f : Relation → Relation → Outcome Val) → HasOnly v → HasOnly w
      → ((q r : Relation) → RelationMeets P q → RelationMeets P r → GivesMet (f q r)) → GivesMet (on_relations v w f)
  relations_give v w f m n h =
      relation_gives HasOnly v (λ q. on_relation w (λ r. f q r)) m (λ q a. relation_gives HasOnly w (λ r. f q r) n (λ r b. h q r a b))

  -- ---- what it gives

  in_range_meets : (z : ℤ) → GivesMet (of_number z)
  in_range_meets z = gives_if HasOnly _ (integer z) causes.Overflow tt

  where_meets : (test : Bool) (r : Relation) → RelationMeets P r → GivesMet (relation_where test r)
  where_meets test r m = gives_if HasOnly test (relation_value r) causes.Heading (relation_meets P r m)

  -- ---- literals, and operators of one operand

  pub literal_meets : (l : Literal) → GivesMet (literal_value l)
  literal_meets (number minus magnitude) = in_range_meets (signed_number minus magnitude)
  literal_meets (text content) = tt
  literal_meets (truth b) = tt
  literal_meets table_dee = (tt, tt)
  literal_meets table_dum = tt

  only_meets : (ts : List Tuple) → ((t : Tuple) → Contains ts t → TupleMeets P t) → GivesMet (only_tuple ts)
  only_meets [] m = tt
  only_meets (t ∷ []) m = fields_meet P t (m t (contains_first t []))
  only_meets (t ∷ u ∷ ts) m = tt

  pub prefix_meets : (op : Prefix) (v : Val) → HasOnly v → GivesMet (prefix_value op v)
  prefix_meets prefixes.Not v m = truth_meets v _ (λ b. tt)
  prefix_meets prefixes.Negate v m = number_meets v _ (λ z. in_range_meets (neg_ℤ z))
  prefix_meets prefixes.TransitiveClosure v m = relation_gives HasOnly v _ m (λ r a. where_meets _ (closure r) (closure_meets P r a))
  prefix_meets prefixes.TupleFrom v m = relation_gives HasOnly v _ m (λ r a. only_meets r.body a)

  pub extracted_meets : (name : List ℕ) (v : Val) → HasOnly v → GivesMet (extracted_value name v)
  extracted_meets name v m =
      tuple_gives HasOnly v (λ t. known_or causes.Heading (value_at name t)) m
      (λ t a. gives_known HasOnly causes.Heading (value_at name t) (λ u e. value_meets P name t u a e))

  components_meet : (names : List (List ℕ)) (ps : Parts) → EachInParts P ps → TupleMeets P (zip names (components_of ps))
  components_meet [] no_parts m = tt
  components_meet [] (part v ps) m = tt
  components_meet (n ∷ names) no_parts m = tt
  components_meet (n ∷ names) (part v ps) m = (m.0, components_meet names ps m.1)

  pub component_meets : (ds : List DeclaredType) (name : List ℕ) (v : Val) → HasOnly v → GivesMet (component_value ds name v)
  component_meets ds name (user n ps) m =
      gives_after HasOnly (known_or causes.NameUnknown (declared_at n ds)) _
      (λ d.
      let t = zip (attribute_names d.components) (components_of ps) in
      gives_known HasOnly causes.NameUnknown (value_at name t)
      (λ u e. value_meets P name t u (components_meet (attribute_names d.components) ps m.1) e))
  component_meets ds name (boolean b) m = tt
  component_meets ds name (integer z) m = tt
  component_meets ds name (char s) m = tt
  component_meets ds name (tuple fs) m = tt
  component_meets ds name (relation g rs) m = tt

  pub measure_meets : (op : Measure) (v : Val) → HasOnly v → GivesMet (measure_value op v)
  measure_meets measures.Count v m = relation_gives HasOnly v _ m (λ r a. in_range_meets (pos (length r.body)))
  measure_meets measures.IsEmpty v m = relation_gives HasOnly v _ m (λ r a. tt)

  -- what is put into or taken out of an attribute of a type
  over_relation_meets : (t : Type') (f : Heading → Outcome Val) → ((h : Heading) → GivesMet (f h)) → GivesMet (over_relation t f)
  over_relation_meets (types.relation xs) f h = h (unpack xs)
  over_relation_meets _ f h = tt

  over_tuple_meets : (t : Type') (f : Heading → Outcome Val) → ((h : Heading) → GivesMet (f h)) → GivesMet (over_tuple t f)
  over_tuple_meets (types.tuple xs) f h = h (unpack xs)
  over_tuple_meets _ f h = tt

  pub postfix_meets : (op : Postfix) (v : Val) → HasOnly v → GivesMet (postfix_value op v)
  postfix_meets (project attributes) v m =
      relation_gives HasOnly v _ m
      (λ r a. where_meets _ (projected_relation (projected_names attributes r.heading) r) (projected_meets P (projected_names attributes r.heading) r a))
  postfix_meets (rename style renamings) v m =
      relation_gives HasOnly v _ m
      (λ r a. where_meets _ (renamed_relation (renaming_pairs renamings) r) (renamed_meets P (renaming_pairs renamings) r a))
  postfix_meets (group style attributes name) v m =
      relation_gives HasOnly v _ m
      (λ r a. gives_after HasOnly (nested_names attributes name r.heading) _
      (λ names. relation_meets P (grouped_relation names name r) (grouped_meets P names name r a)))
  postfix_meets (wrap style attributes name) v m =
      relation_gives HasOnly v _ m
      (λ r a. gives_after HasOnly (nested_names attributes name r.heading) _
      (λ names. relation_meets P (wrapped_relation names name r) (wrapped_meets P names name r a)))
  postfix_meets (ungroup name) v m =
      relation_gives HasOnly v _ m
      (λ r a. gives_after HasOnly (attribute_type name r.heading) _
      (λ t. over_relation_meets t _ (λ h. where_meets _ (unnested_relation name r) (unnested_meets P name r a))))
  postfix_meets (unwrap name) v m =
      relation_gives HasOnly v _ m
      (λ r a. gives_after HasOnly (attribute_type name r.heading) _
      (λ t. over_tuple_meets t _ (λ h. where_meets _ (unnested_relation name r) (unnested_meets P name r a))))

  -- ---- operators between two operands

  -- two scalar operands give a scalar
  truths_meet : (v w : Val) (f : Bool → Bool → Bool) → GivesMet (on_truth v (λ a. on_truth w (λ b. of_truth (f a b))))
  truths_meet v w f = truth_meets v _ (λ a. truth_meets w _ (λ b. tt))

  numbers_meet : (v w : Val) (f : ℤ → ℤ → Outcome Val) → ((x y : ℤ) → GivesMet (f x y)) → GivesMet (on_number v (λ x. on_number w (λ y. f x y)))
  numbers_meet v w f h = number_meets v _ (λ x. number_meets w _ (λ y. h x y))

  quotient_meets : (x y : ℤ) → GivesMet (quotient x y)
  quotient_meets x y = by_test (is_zero y)
    where
      by_test : (b : Bool) → GivesMet (if b then Refused (Only causes.ZeroDivisor) else of_number (int_div x y))
      by_test true = tt
      by_test false = in_range_meets (int_div x y)

  -- of two relations of one heading
  one_heading_meets : (f : Relation → Relation → Outcome Relation) (q r : Relation) → RelationMeets P r
      → ((s : Relation) → RelationMeets P s → Gives (RelationMeets P) (f q s)) → GivesMet (over_one_heading f q r)
  one_heading_meets f q r m h =
      gives_with (RelationMeets P) HasOnly (value_if (same_heading q.heading r.heading) r causes.Heading) (λ s. with_value (f q s) of_relation)
      (gives_if (RelationMeets P) (same_heading q.heading r.heading) r causes.Heading m)
      (λ s a. gives_with (RelationMeets P) HasOnly (f q s) of_relation (h s a) (λ u b. relation_meets P u b))

  pub operator_meets : (op : Operator) (v w : Val) → HasOnly v → HasOnly w → GivesMet (operator_value op v w)
  operator_meets operators.Or v w m n = truths_meet v w _
  operator_meets operators.And v w m n = truths_meet v w _
  operator_meets operators.Union v w m n =
      relations_give v w _ m n (λ q r a b. where_meets _ (union q r) (union_meets P q r a b))
  operator_meets operators.Intersect v w m n =
      relations_give v w _ m n (λ q r a b. where_meets _ (intersection q r) (restriction_meets P _ q a))
  operator_meets operators.Minus v w m n =
      relations_give v w _ m n (λ q r a b. where_meets _ (difference q r) (restriction_meets P _ q a))
  operator_meets operators.DisjointUnion v w m n =
      relations_give v w _ m n
      (λ q r a b. one_heading_meets disjoint_union q r b
      (λ s c. gives_if (RelationMeets P) (is_disjoint q s) (union q s) causes.NotDisjoint (union_meets P q s a c)))
  operator_meets operators.IncludedMinus v w m n =
      relations_give v w _ m n
      (λ q r a b. one_heading_meets included_difference q r b
      (λ s c. gives_if (RelationMeets P) (is_subset s q) (difference q s) causes.NotIncluded (restriction_meets P _ q a)))
  operator_meets operators.Join v w m n =
      relations_give v w _ m n (λ q r a b. where_meets _ (join q r) (join_meets P q r a b))
  operator_meets operators.Times v w m n =
      relations_give v w _ m n (λ q r a b. where_meets _ (product q r) (product_meets P q r a b))
  operator_meets operators.Compose v w m n =
      relations_give v w _ m n (λ q r a b. where_meets _ (composition q r) (composition_meets P q r a b))
  operator_meets operators.Matching v w m n =
      relations_give v w _ m n (λ q r a b. where_meets _ (semijoin q r) (restriction_meets P _ q a))
  operator_meets operators.NotMatching v w m n =
      relations_give v w _ m n (λ q r a b. where_meets _ (semidifference q r) (restriction_meets P _ q a))
  operator_meets operators.Add v w m n = numbers_meet v w _ (λ x y. in_range_meets (x +ℤ y))
  operator_meets operators.Subtract v w m n = numbers_meet v w _ (λ x y. in_range_meets (x -ℤ y))
  operator_meets operators.Multiply v w m n = numbers_meet v w _ (λ x y. in_range_meets (x *ℤ y))
  operator_meets operators.Divide v w m n = numbers_meet v w quotient quotient_meets
  operator_meets operators.Concatenate v w m n = text_meets v _ (λ s. text_meets w _ (λ t. tt))

  less_meets : (v w : Val) → GivesMet (less_than v w)
  less_meets v w = gives_after HasOnly (at_most v w) _ (λ least. tt)

  least_meets : (v w : Val) → GivesMet (less_or_equal v w)
  least_meets v w = gives_after HasOnly (at_most v w) of_truth (λ least. tt)

  membership_meets : (v w : Val) → GivesMet (membership_value v w)
  membership_meets (tuple fs) (relation h rs) = gives_if HasOnly _ (boolean _) causes.Heading tt
  membership_meets _ _ = tt

  pub comparison_meets : (op : Comparison) (v w : Val) → GivesMet (comparison_value op v w)
  comparison_meets comparisons.Equal v w = gives_after HasOnly (equality_type (type_of v) (type_of w)) _ (λ t. tt)
  comparison_meets comparisons.NotEqual v w = gives_after HasOnly (equality_type (type_of v) (type_of w)) _ (λ t. tt)
  comparison_meets comparisons.Less v w = less_meets v w
  comparison_meets comparisons.LessOrEqual v w = least_meets v w
  comparison_meets comparisons.Greater v w = less_meets w v
  comparison_meets comparisons.GreaterOrEqual v w = least_meets w v
  comparison_meets comparisons.In v w = membership_meets v w

  -- ---- tuples and relations

  pub tuple_from_meets : (es : Tuple) → TupleMeets P es → GivesMet (tuple_from es)
  tuple_from_meets es m =
      gives_with (TupleMeets P) HasOnly (made_tuple es) (λ t. Valued (tuple_value t))
      (gives_if (TupleMeets P) (are_distinct (tuple_names es)) (tuple_of es) causes.Heading (all_made (EntryMeets P) es m))
      (λ t a. fields_meet P t a)

  pub headed_meets : (h : Heading) (vs : List Val) → AllByRecursion HasOnly vs → GivesMet (headed_value h vs)
  headed_meets h vs m =
      gives_with (AllByRecursion (TupleMeets P)) HasOnly (gathered (map (element_of h) vs)) (λ ts. of_relation (relation_of h ts))
      (gives_all HasOnly (TupleMeets P) (element_of h) vs m
      (λ v a. tuple_gives (TupleMeets P) v (λ t. value_if (same_heading (heading_of t) h) t causes.Heading) a
      (λ t b. gives_if (TupleMeets P) (same_heading (heading_of t) h) t causes.Heading b)))
      (λ ts a. relation_meets P (relation_of h ts) (set_meets P h ts (member_from_all (TupleMeets P) ts a)))

  pub listed_meets : (vs : List Val) → AllByRecursion HasOnly vs → GivesMet (listed_value vs)
  listed_meets [] m = tt
  listed_meets (v ∷ vs) m = tuple_gives HasOnly v _ m.0 (λ t a. headed_meets (heading_of t) (v ∷ vs) m)

  -- ---- what is applied to each tuple of a relation

  pub restricted_meets : (p : Tuple → Outcome Val) (r : Relation) → RelationMeets P r → GivesMet (restricted_value p r)
  restricted_meets p r m =
      gives_after HasOnly (gathered (map (λ t. truth_value (p t)) r.body)) _
      (λ truths. relation_meets P (restriction (λ t. is_true (p t)) r) (restriction_meets P (λ t. is_true (p t)) r m))

  -- the values of parts in a tuple
  abbrev pub PartsMeet : List (Tuple → Outcome Val) → Tuple → Type 0
  PartsMeet fs t = AllByRecursion (λ (f : Tuple → Outcome Val). GivesMet (f t)) fs

  there_or_false : (o : Outcome Val) → GivesMet o → HasOnly (value_or_false o)
  there_or_false (Valued v) m = m
  there_or_false (Refused cs) m = tt

  pub additions_meet : (attributes : List Attribute) (fs : List (Tuple → Outcome Val)) (t : Tuple) → PartsMeet fs t
      → ValuesMeet P (additions_of attributes fs) t
  additions_meet [] fs t m = tt
  additions_meet (a ∷ attributes) [] t m = tt
  additions_meet (a ∷ attributes) (f ∷ fs) t m = (there_or_false (f t) m.0, additions_meet attributes fs t m.1)

  pub extended_value_meets : (attributes : Outcome (List Attribute)) (fs : List (Tuple → Outcome Val)) (r : Relation) → RelationMeets P r
      → ((t : Tuple) → Contains r.body t → PartsMeet fs t) → GivesMet (extended_value attributes fs r)
  extended_value_meets attributes fs r m h =
      gives_after HasOnly attributes _
      (λ xs. gives_after HasOnly (extended_by r.heading xs) _
      (λ heading. gives_after HasOnly (gathered (columns_values xs fs r.body)) _
      (λ columns. relation_meets P (extended_relation (additions_of xs fs) r)
      (extended_meets P (additions_of xs fs) r m (λ t c. additions_meet xs fs t (h t c))))))

  pub set_value_meets : (attributes : List Attribute) (fs : List (Tuple → Outcome Val)) (r : Relation) → RelationMeets P r
      → ((t : Tuple) → Contains r.body t → PartsMeet fs t) → Gives (RelationMeets P) (set_value attributes fs r)
  set_value_meets attributes fs r m h =
      gives_after (RelationMeets P) (gathered (columns_values attributes fs r.body)) _
      (λ columns. set_attributes_meet P (additions_of attributes fs) r m (λ t c. additions_meet attributes fs t (h t c)))

  pub extended_by_settings_meets : (attributes : Outcome (List Attribute)) (fs : List (Tuple → Outcome Val)) (r : Relation) → RelationMeets P r
      → ((t : Tuple) → Contains r.body t → PartsMeet fs t) → GivesMet (extended_by_settings attributes fs r)
  extended_by_settings_meets attributes fs r m h =
      gives_after HasOnly attributes _
      (λ xs. gives_after HasOnly (set_heading r.heading xs) _
      (λ heading. gives_with (RelationMeets P) HasOnly (set_value xs fs r) of_relation (set_value_meets xs fs r m h)
      (λ q a. relation_meets P q a)))
