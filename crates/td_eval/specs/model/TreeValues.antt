-- The value of an expression in a world, with tuples in scope, or the causes for which it has none
-- (Tutorial D's; the causes are this project's own). The causes of all parts count, on both sides of every operator; what
-- is applied to the tuples of an operand counts for each of them; IF counts its condition and the chosen branch alone.
use Rattle.std.specs.Prelude.{true, List, [], ◌∷◌, if◌then◌else◌}
use Rattle.td_check.specs.model.Scopes.{entered_with}
use Rattle.td_check.specs.model.StaticTypes.{named_types}
use Rattle.td_eval.specs.model.AggregateValues.{Summand, aggregated_value, asked_of, summary_attributes, summary_value}
use Rattle.td_eval.specs.model.OperatorValues.{comparison_value, component_value, extended_by_settings, extended_value, extracted_value, headed_value, listed_value, literal_value, measure_value, of_truth, on_relation, on_truth, operator_value, postfix_value, prefix_value, restricted_value, tuple_from}
use Rattle.td_eval.specs.model.Worlds.{World, name_value, selector_outcome, with_tuples}
use Rattle.td_group.specs.declared.aggregates.Agg.TheVariants as asked
use Rattle.td_tree.specs.model.Outcomes.{Outcome, Valued, with_both, with_value}
use Rattle.td_tree.specs.model.Trees.{Tree, literal, name, parentheses, prefix, extract, restriction, binary, compare, postfix, select, component, measure, aggregate, relation, headed_relation, tuple, extend, extend_setting, summarize_per, summarize_by, choice, binding, Trees, none, more, NamedTrees, none_named, more_named, Summaries, no_summaries, counted, summed, project}
use Rattle.td_types.specs.model.TypeLists.{heading_meant}
use Rattle.td_value.specs.model.Values.{Val, Tuple}

abbrev mutual
  pub value_of : World → List Tuple → Tree → Outcome Val
  value_of w s (literal l) = literal_value l
  value_of w s (name n) = name_value w s n
  value_of w s (parentheses inner) = value_of w s inner
  value_of w s (prefix op operand) = with_value (value_of w s operand) (prefix_value op)
  value_of w s (extract a operand) = with_value (value_of w s operand) (extracted_value a)
  value_of w s (restriction operand condition) =
      with_value (value_of w s operand) (λ v. on_relation v (restricted_value (λ t. value_of w (t ∷ s) condition)))
  value_of w s (binary left op right) = with_both (value_of w s left) (value_of w s right) (operator_value op)
  value_of w s (compare left op right) = with_both (value_of w s left) (value_of w s right) (comparison_value op)
  value_of w s (postfix operand op) = with_value (value_of w s operand) (postfix_value op)
  value_of w s (select ty arguments) = with_value (argument_values w s arguments) (selector_outcome w ty)
  value_of w s (component rest operand) = with_value (value_of w s operand) (component_value w.scope.types rest)
  value_of w s (measure op operand) = with_value (value_of w s operand) (measure_value op)
  value_of w s (aggregate op operand value) =
      with_value (value_of w s operand) (λ v. on_relation v (aggregated_value (asked_of op) (λ t. value_of w (t ∷ s) value)))
  value_of w s (relation elements) = with_value (argument_values w s elements) listed_value
  value_of w s (headed_relation heading elements) =
      with_both (heading_meant w.scope.types heading) (argument_values w s elements) headed_value
  value_of w s (tuple parts) = with_value (entry_values w s parts) tuple_from
  value_of w s (extend operand parts) =
      with_value (value_of w s operand) (λ v. on_relation v
      (λ r. extended_value (named_types (entered_with r.heading (with_tuples w.scope s)) parts) (values_in_tuples w s parts) r))
  value_of w s (extend_setting operand settings) =
      with_value (value_of w s operand) (λ v. on_relation v
      (λ r. extended_by_settings (named_types (entered_with r.heading (with_tuples w.scope s)) settings) (values_in_tuples w s settings) r))
  value_of w s (summarize_per operand per items) =
      with_both (value_of w s operand) (value_of w s per)
      (summary_value (λ h. summary_attributes (entered_with h (with_tuples w.scope s)) items) (items_in_tuples w s items))
  -- PER of the projection of the operand
  value_of w s (summarize_by operand by items) =
      with_value (value_of w s operand) (λ v. with_value (postfix_value (project by) v)
      (summary_value (λ h. summary_attributes (entered_with h (with_tuples w.scope s)) items) (items_in_tuples w s items) v))
  value_of w s (choice condition consequent alternative) =
      with_value (value_of w s condition) (λ v. on_truth v (λ b. if b then value_of w s consequent else value_of w s alternative))
  value_of w s (binding items result) = value_where_bound w s items (λ inner. value_of w inner result)

  -- the value of what stands where the values of WITH's items are in scope, each as a tuple of one attribute. An item has its
  -- value where those before it are in scope, and the first that has none decides
  pub value_where_bound : World → List Tuple → NamedTrees → (List Tuple → Outcome Val) → Outcome Val
  value_where_bound w s none_named inside = inside s
  value_where_bound w s (more_named n value rest) inside =
      with_value (value_of w s value) (λ v. value_where_bound w (((n, v) ∷ []) ∷ s) rest inside)

  -- the values of expressions, in the order written
  pub argument_values : World → List Tuple → Trees → Outcome (List Val)
  argument_values w s none = Valued []
  argument_values w s (more first rest) = with_both (value_of w s first) (argument_values w s rest) (λ v vs. Valued (v ∷ vs))

  -- names with the values of their expressions
  pub entry_values : World → List Tuple → NamedTrees → Outcome Tuple
  entry_values w s none_named = Valued []
  entry_values w s (more_named n value rest) =
      with_both (value_of w s value) (entry_values w s rest) (λ v entries. Valued ((n, v) ∷ entries))

  -- the values of expressions where a further tuple is in scope
  pub values_in_tuples : World → List Tuple → NamedTrees → List (Tuple → Outcome Val)
  values_in_tuples w s none_named = []
  values_in_tuples w s (more_named n value rest) = (λ t. value_of w (t ∷ s) value) ∷ values_in_tuples w s rest

  -- what each item of SUMMARIZE takes of a further tuple; COUNT counts a term for each tuple
  pub items_in_tuples : World → List Tuple → Summaries → List Summand
  items_in_tuples w s no_summaries = []
  items_in_tuples w s (counted n rest) = (asked.Count, λ t. of_truth true) ∷ items_in_tuples w s rest
  items_in_tuples w s (summed op value n rest) = (asked_of op, λ t. value_of w (t ∷ s) value) ∷ items_in_tuples w s rest
