-- The value of an expression where the relvars, the selectors and the tuples in hand give only values in which each user value
-- has a property: each user value in it has it.
use Rattle.std.proofs.Common.{◌≡◌, ℕ, Bool, true, false, None, Option, Some, List, [], ◌∷◌, refl}
use Rattle.std.specs.Prelude.{if◌then◌else◌, ⊤}
use Rattle.std.specs.List.{AllByRecursion}
use Rattle.td_check.proofs.OperatorLaws.{Gives, gives_both, gives_with}
use Rattle.td_check.specs.model.Scopes.{entered_with}
use Rattle.td_check.specs.model.StaticTypes.{named_types}
use Rattle.td_eval.proofs.law_lemmas.MetAssignments.{gives_met, met_given}
use Rattle.td_eval.proofs.law_lemmas.MetOperators.{GivesMet, HasOnly, PartsMeet, comparison_meets, component_meets, extended_by_settings_meets, extended_value_meets, extracted_meets, headed_meets, listed_meets, literal_meets, measure_meets, operator_meets, postfix_meets, prefix_meets, relation_gives, restricted_meets, truth_meets, tuple_from_meets}
use Rattle.td_eval.proofs.law_lemmas.MetRelations.{TupleMeets, entries_meet, met_relation, value_meets}
use Rattle.td_eval.proofs.law_lemmas.MetSummaries.{ItemsMeet, aggregated_meets, summary_meets}
use Rattle.td_eval.specs.model.AggregateValues.{aggregated_value, asked_of, summary_attributes, summary_value}
use Rattle.td_eval.specs.laws.MetConstraintLaws.{EachInTuple, EachInValues, GivesOnly}
use Rattle.td_eval.specs.model.OperatorValues.{comparison_value, component_value, extended_by_settings, extended_value, extracted_value, headed_value, listed_value, measure_value, on_relation, on_truth, operator_value, postfix_value, prefix_value, restricted_value, tuple_from}
use Rattle.td_eval.specs.model.TreeValues.{argument_values, entry_values, items_in_tuples, value_of, value_where_bound, values_in_tuples}
use Rattle.td_eval.specs.model.Worlds.{World, innermost_value, known_outcome, name_value, selector_outcome, with_tuples}
use Rattle.td_tree.specs.model.Outcomes.{Outcome, Valued, Refused}
use Rattle.td_tree.specs.model.Trees.{Tree, literal, name, parentheses, prefix, extract, restriction, binary, compare, postfix, select, component, measure, aggregate, relation, headed_relation, tuple, extend, extend_setting, summarize_per, summarize_by, choice, binding, Trees, none, more, NamedTrees, none_named, more_named, Summaries, no_summaries, counted, summed, project}
use Rattle.td_types.specs.model.TypeLists.{heading_meant}
use Rattle.td_types.specs.model.Types.{Heading}
use Rattle.td_value.specs.model.Values.{Val, Parts, Relation, Tuple, relation_value, value_at}

module _ (P : List ℕ → Parts → Type 0) where
  -- ---- names

  -- the tuples in hand have only such values
  abbrev AreMet : List Tuple → Type 0
  AreMet = AllByRecursion (TupleMeets P)

  innermost_meets : (n : List ℕ) (s : List Tuple) → AreMet s → (v : Val) → innermost_value n s ≡ Some v → HasOnly P v
  innermost_meets n [] m v e = absurd (cc)
  innermost_meets n (t ∷ s) m v e = by_option (value_at n t) (λ u f. value_meets P n t u m.0 f) (innermost_meets n s m.1 v) e
    where
      some_is : (u : Val) → HasOnly P u → Some u ≡ Some v → HasOnly P v
      some_is u h f = let is : u ≡ v = cc in rw (← is) h

      by_option : (o : Option Val) → ((u : Val) → o ≡ Some u → HasOnly P u) → (innermost_value n s ≡ Some v → HasOnly P v)
          → elim o as (λ _. Option Val) [ Some u ↦ Some u | None ↦ innermost_value n s ] ≡ Some v → HasOnly P v
      by_option (Some u) h rest f = some_is u (h u refl) f
      by_option None h rest f = rest f

  else_meets : (o : Option Val) (p : Outcome Val) → ((v : Val) → o ≡ Some v → HasOnly P v) → GivesMet P p
      → GivesMet P (elim o as (λ _. Outcome Val) [ Some v ↦ Valued v | None ↦ p ])
  else_meets (Some v) p h k = h v refl
  else_meets None p h k = k

  known_meets : (o : Option (Outcome Val)) → ((v : Val) → o ≡ Some (Valued v) → HasOnly P v) → GivesMet P (known_outcome o)
  known_meets (Some (Valued v)) h = h v refl
  known_meets (Some (Refused cs)) h = tt
  known_meets None h = tt

  any_heading : (o : Outcome Heading) → Gives (λ (h : Heading). ⊤) o
  any_heading (Valued h) = tt
  any_heading (Refused cs) = tt

  -- ---- trees

  module _ (w : World) (gives : GivesOnly P w) where
    name_meets : (n : List ℕ) (s : List Tuple) → AreMet s → GivesMet P (name_value w s n)
    name_meets n s m =
        else_meets (innermost_value n s) (known_outcome (w.relvar n)) (innermost_meets n s m) (known_meets (w.relvar n) (gives.relvars n))

    choice_meets : (v : Val) (o p : Outcome Val) → GivesMet P o → GivesMet P p → GivesMet P (on_truth v (λ b. if b then o else p))
    choice_meets v o p h k = truth_meets P v (λ b. if b then o else p) by_test
      where
        by_test : (b : Bool) → GivesMet P (if b then o else p)
        by_test true = h
        by_test false = k

    mutual
      pub value_has : (e : Tree) (s : List Tuple) → AreMet s → GivesMet P (value_of w s e)
      value_has (literal l) s m = literal_meets P l
      value_has (name n) s m = name_meets n s m
      value_has (parentheses inner) s m = value_has inner s m
      value_has (prefix op operand) s m =
          gives_with (HasOnly P) (HasOnly P) (value_of w s operand) (prefix_value op) (value_has operand s m) (prefix_meets P op)
      value_has (extract a operand) s m =
          gives_with (HasOnly P) (HasOnly P) (value_of w s operand) (extracted_value a) (value_has operand s m) (extracted_meets P a)
      value_has (restriction operand condition) s m =
          gives_with (HasOnly P) (HasOnly P) (value_of w s operand) (λ v. on_relation v (restricted_value (λ t. value_of w (t ∷ s) condition)))
          (value_has operand s m)
          (λ v a. relation_gives P (HasOnly P) v (restricted_value (λ t. value_of w (t ∷ s) condition)) a
          (λ r b. restricted_meets P (λ t. value_of w (t ∷ s) condition) r b))
      value_has (binary left op right) s m =
          gives_both (HasOnly P) (HasOnly P) (HasOnly P) (value_of w s left) (value_of w s right) (operator_value op)
          (value_has left s m) (value_has right s m) (λ v u a b. operator_meets P op v u a b)
      value_has (compare left op right) s m =
          gives_both (HasOnly P) (HasOnly P) (HasOnly P) (value_of w s left) (value_of w s right) (comparison_value op)
          (value_has left s m) (value_has right s m) (λ v u a b. comparison_meets P op v u)
      value_has (postfix operand op) s m =
          gives_with (HasOnly P) (HasOnly P) (value_of w s operand) (postfix_value op) (value_has operand s m) (postfix_meets P op)
      value_has (select ty arguments) s m =
          gives_with (AllByRecursion (HasOnly P)) (HasOnly P) (argument_values w s arguments) (selector_outcome w ty) (arguments_have arguments s m)
          (λ vs a. gives_met P (selector_outcome w ty vs) (λ v e. gives.selectors ty vs v a e))
      value_has (component rest operand) s m =
          gives_with (HasOnly P) (HasOnly P) (value_of w s operand) (component_value w.scope.types rest) (value_has operand s m)
          (component_meets P w.scope.types rest)
      value_has (measure op operand) s m =
          gives_with (HasOnly P) (HasOnly P) (value_of w s operand) (measure_value op) (value_has operand s m) (measure_meets P op)
      value_has (aggregate op operand value) s m =
          gives_with (HasOnly P) (HasOnly P) (value_of w s operand)
          (λ v. on_relation v (aggregated_value (asked_of op) (λ t. value_of w (t ∷ s) value))) (value_has operand s m)
          (λ v a. relation_gives P (HasOnly P) v (aggregated_value (asked_of op) (λ t. value_of w (t ∷ s) value)) a
          (λ r b. aggregated_meets P (asked_of op) (λ t. value_of w (t ∷ s) value) r b (λ t c. value_has value (t ∷ s) (c, m))))
      value_has (relation elements) s m =
          gives_with (AllByRecursion (HasOnly P)) (HasOnly P) (argument_values w s elements) listed_value (arguments_have elements s m) (listed_meets P)
      value_has (headed_relation heading elements) s m =
          gives_both (λ (h : Heading). ⊤) (AllByRecursion (HasOnly P)) (HasOnly P) (heading_meant w.scope.types heading) (argument_values w s elements) headed_value
          (any_heading (heading_meant w.scope.types heading)) (arguments_have elements s m) (λ h vs a b. headed_meets P h vs b)
      value_has (tuple parts) s m =
          gives_with (TupleMeets P) (HasOnly P) (entry_values w s parts) tuple_from (entries_have parts s m) (tuple_from_meets P)
      value_has (extend operand parts) s m =
          gives_with (HasOnly P) (HasOnly P) (value_of w s operand)
          (λ v. on_relation v
          (λ r. extended_value (named_types (entered_with r.heading (with_tuples w.scope s)) parts) (values_in_tuples w s parts) r))
          (value_has operand s m)
          (λ v a. relation_gives P (HasOnly P) v
          (λ r. extended_value (named_types (entered_with r.heading (with_tuples w.scope s)) parts) (values_in_tuples w s parts) r) a
          (λ r b. extended_value_meets P (named_types (entered_with r.heading (with_tuples w.scope s)) parts) (values_in_tuples w s parts) r b
          (λ t c. parts_have parts s m t (b t c))))
      value_has (extend_setting operand settings) s m =
          gives_with (HasOnly P) (HasOnly P) (value_of w s operand)
          (λ v. on_relation v
          (λ r. extended_by_settings (named_types (entered_with r.heading (with_tuples w.scope s)) settings) (values_in_tuples w s settings) r))
          (value_has operand s m)
          (λ v a. relation_gives P (HasOnly P) v
          (λ r. extended_by_settings (named_types (entered_with r.heading (with_tuples w.scope s)) settings) (values_in_tuples w s settings) r) a
          (λ r b. extended_by_settings_meets P (named_types (entered_with r.heading (with_tuples w.scope s)) settings) (values_in_tuples w s settings) r b
          (λ t c. parts_have settings s m t (b t c))))
      value_has (summarize_per operand per items) s m =
          gives_both (HasOnly P) (HasOnly P) (HasOnly P) (value_of w s operand) (value_of w s per)
          (summary_value (λ h. summary_attributes (entered_with h (with_tuples w.scope s)) items) (items_in_tuples w s items))
          (value_has operand s m) (value_has per s m)
          (λ v u a b. summary_meets P (λ h. summary_attributes (entered_with h (with_tuples w.scope s)) items) (items_in_tuples w s items) v u a b
          (items_have items s m))
      value_has (summarize_by operand by items) s m =
          gives_with (HasOnly P) (HasOnly P) (value_of w s operand) _ (value_has operand s m)
          (λ v a. gives_with (HasOnly P) (HasOnly P) (postfix_value (project by) v)
          (summary_value (λ h. summary_attributes (entered_with h (with_tuples w.scope s)) items) (items_in_tuples w s items) v)
          (postfix_meets P (project by) v a)
          (λ u b. summary_meets P (λ h. summary_attributes (entered_with h (with_tuples w.scope s)) items) (items_in_tuples w s items) v u a b
          (items_have items s m)))
      value_has (choice condition consequent alternative) s m =
          gives_with (HasOnly P) (HasOnly P) (value_of w s condition)
          (λ v. on_truth v (λ b. if b then value_of w s consequent else value_of w s alternative)) (value_has condition s m)
          (λ v a. choice_meets v (value_of w s consequent) (value_of w s alternative) (value_has consequent s m) (value_has alternative s m))
      value_has (binding items result) s m =
          bound_has items s (λ inner. value_of w inner result) m (λ inner a. value_has result inner a)

      bound_has : (items : NamedTrees) (s : List Tuple) (given : List Tuple → Outcome Val) → AreMet s
          → ((inner : List Tuple) → AreMet inner → GivesMet P (given inner)) → GivesMet P (value_where_bound w s items given)
      bound_has none_named s given m inside = inside s m
      bound_has (more_named n value rest) s given m inside =
          gives_with (HasOnly P) (HasOnly P) (value_of w s value) (λ v. value_where_bound w (((n, v) ∷ []) ∷ s) rest given) (value_has value s m)
          (λ v a. bound_has rest (((n, v) ∷ []) ∷ s) given ((a, tt), m) inside)

      arguments_have : (es : Trees) (s : List Tuple) → AreMet s → Gives (AllByRecursion (HasOnly P)) (argument_values w s es)
      arguments_have none s m = tt
      arguments_have (more first rest) s m =
          gives_both (HasOnly P) (AllByRecursion (HasOnly P)) (AllByRecursion (HasOnly P)) (value_of w s first) (argument_values w s rest)
          (λ v vs. Valued (v ∷ vs)) (value_has first s m) (arguments_have rest s m) (λ v vs a b. (a, b))

      entries_have : (parts : NamedTrees) (s : List Tuple) → AreMet s → Gives (TupleMeets P) (entry_values w s parts)
      entries_have none_named s m = tt
      entries_have (more_named n value rest) s m =
          gives_both (HasOnly P) (TupleMeets P) (TupleMeets P) (value_of w s value) (entry_values w s rest)
          (λ v entries. Valued ((n, v) ∷ entries)) (value_has value s m) (entries_have rest s m) (λ v entries a b. (a, b))

      pub parts_have : (parts : NamedTrees) (s : List Tuple) → AreMet s → (t : Tuple) → TupleMeets P t → PartsMeet P (values_in_tuples w s parts) t
      parts_have none_named s m t c = tt
      parts_have (more_named n value rest) s m t c = (value_has value (t ∷ s) (c, m), parts_have rest s m t c)

      items_have : (items : Summaries) (s : List Tuple) → AreMet s → ItemsMeet P (items_in_tuples w s items)
      items_have no_summaries s m = tt
      items_have (counted n rest) s m = ((λ t c. tt), items_have rest s m)
      items_have (summed op value n rest) s m = ((λ t c. value_has value (t ∷ s) (c, m)), items_have rest s m)

    -- ---- laws

    are_met : (s : List Tuple) → AllByRecursion (EachInTuple P) s → AreMet s
    are_met [] h = tt
    are_met (t ∷ s) h = (entries_meet P t h.0, are_met s h.1)

    pub values_have : (s : List Tuple) (e : Tree) (v : Val) → AllByRecursion (EachInTuple P) s → value_of w s e ≡ Valued v → HasOnly P v
    values_have s e v h is = met_given P (value_of w s e) v (value_has e s (are_met s h)) is

    pub values_in_parts : (s : List Tuple) (parts : NamedTrees) (r : Relation) → AllByRecursion (EachInTuple P) s → HasOnly P (relation_value r)
        → EachInValues P r (values_in_tuples w s parts)
    values_in_parts s none_named r h k = tt
    values_in_parts s (more_named n value rest) r h k = (
      λ t v c is. met_given P (value_of w (t ∷ s) value) v (value_has value (t ∷ s) (met_relation P r k t c, are_met s h)) is,
      values_in_parts s rest r h k,
    )
