-- Plans, and the values that they have: attributes are places in slots. What operators give is what expressions give.
use Rattle.std.specs.Prelude.{ℕ, nat_eq, nat_lt, suc, List, [], ◌∷◌, length, Option, Some, None, if◌then◌else◌}
use Rattle.std.specs.List.{slice_get, zip}
use Rattle.td_eval.specs.model.AggregateValues.{Summand, aggregated_value, asked_of, summary_value}
use Rattle.td_body.specs.model.Bodies.{agreeing}
use Rattle.td_eval.specs.model.OperatorValues.{comparison_value, component_value, extended_by_settings, extracted_value, headed_value, listed_value, measure_value, of_relation, on_relation, on_truth, on_tuple, operator_value, postfix_value, prefix_value, restricted_value, tuple_from}
use Rattle.td_eval.specs.model.Worlds.{World, known_outcome, selector_outcome}
use Rattle.td_group.specs.declared.aggregates.Agg.{Agg}
use Rattle.td_tree.specs.declared.cause.Cause.{Cause}
use Rattle.td_tree.specs.declared.cause.Cause.TheVariants as causes
use Rattle.td_tree.specs.declared.operator.Aggregate.{Aggregate}
use Rattle.td_tree.specs.declared.operator.Comparison.{Comparison}
use Rattle.td_tree.specs.declared.operator.Measure.{Measure}
use Rattle.td_tree.specs.declared.operator.Operator.{Operator}
use Rattle.td_tree.specs.declared.operator.Prefix.{Prefix}
use Rattle.td_tree.specs.model.Outcomes.{Outcome, Valued, Refused, Only, gathered, with_both, with_value}
use Rattle.td_tree.specs.model.Trees.{Attributes, Postfix, project}
use Rattle.td_types.specs.model.Types.{Attribute, Heading}
use Rattle.td_value.specs.code.Views.{values_of}
use Rattle.td_value.specs.model.Values.{Val, Relation, Tuple}

-- ---- operators, by how many operands they have

-- of one operand
pub data Monadic : Type 0 where
  prefix : Prefix → Monadic
  extract : List ℕ → Monadic
  postfix : Postfix → Monadic
  component : List ℕ → Monadic
  measure : Measure → Monadic

-- between two operands
pub data Dyadic : Type 0 where
  operator : Operator → Dyadic
  comparison : Comparison → Dyadic

-- of any number of parts: components, the tuples of a relation, or the values of a tuple's attributes
pub data Selector : Type 0 where
  user : List ℕ → Selector
  relation : Selector
  headed_relation : Heading → Selector
  tuple : List (List ℕ) → Selector

-- ---- plans

mutual
  -- a number beside the parts of a plan is the slot in which what is applied to each tuple has that tuple
  pub data PlanTree : Type 0 where
    constant : Val → PlanTree
    refused : Cause → PlanTree
    attribute : ℕ → ℕ → PlanTree
    relvar : List ℕ → PlanTree
    look_up : List ℕ → List (List ℕ) → PlanTree → PlanTree
    monadic : Monadic → PlanTree → PlanTree
    dyadic : PlanTree → Dyadic → PlanTree → PlanTree
    select : Selector → PlanTrees → PlanTree
    restriction : PlanTree → ℕ → PlanTree → PlanTree
    extend : PlanTree → List Attribute → ℕ → PlanTrees → PlanTree
    aggregate : Aggregate → PlanTree → ℕ → PlanTree → PlanTree
    summarize_per : PlanTree → PlanTree → List Attribute → List Agg → ℕ → PlanTrees → PlanTree
    summarize_by : PlanTree → Attributes → List Attribute → List Agg → ℕ → PlanTrees → PlanTree
    choice : PlanTree → PlanTree → PlanTree → PlanTree
    -- tuples, each in a slot of its own from the first number on, and what stands where they are in scope
    bound : ℕ → PlanTrees → PlanTree → PlanTree

  pub data PlanTrees : Type 0 where
    none : PlanTrees
    more : PlanTree → PlanTrees → PlanTrees

-- ---- tuples in scope

-- the values of the tuple in each slot
abbrev pub Slots : Type 0
Slots = ℕ → List Val

-- where a tuple of these values is in the slot
abbrev pub with_slot : ℕ → List Val → Slots → Slots
with_slot slot row s = λ j. if nat_eq j slot then row else s j

-- where only the tuples in the slots before this one are in scope
abbrev pub slots_before : ℕ → Slots → Slots
slots_before slot s = λ j. if nat_lt j slot then s j else []

-- where no tuple is in scope
abbrev pub no_slots : Slots
no_slots = λ j. []

-- what a place that there is not gives
abbrev pub unknown_place : Outcome Val
unknown_place = Refused (Only causes.NameUnknown)

abbrev pub value_or : Option Val → Outcome Val
value_or (Some v) = Valued v
value_or None = unknown_place

-- ---- what operators give

-- where there are as many new attributes as parts that give them values, what these give: else HEADING
abbrev pub where_as_many : {A : Type 0} → List Attribute → List A → Outcome Val → Outcome Val
where_as_many attributes parts o = if nat_eq (length attributes) (length parts) then o else Refused (Only causes.Heading)

-- EXTEND by attributes whose types are known, each there before or new. Where all are new, it is what ADD gives.
abbrev pub extension_of : List Attribute → List (Tuple → Outcome Val) → Relation → Outcome Val
extension_of attributes fs r = where_as_many attributes fs (extended_by_settings (Valued attributes) fs r)

-- SUMMARIZE by attributes whose types are known
abbrev pub summary_of : List Attribute → List Summand → Val → Val → Outcome Val
summary_of attributes items v p = where_as_many attributes items (summary_value (λ h. Valued attributes) items v p)

-- the tuples of what a relvar gives that agree with a tuple on the names of a key
abbrev pub agreeing_value : List (List ℕ) → Outcome Val → Tuple → Outcome Val
agreeing_value key o t = with_value o (λ u. on_relation u (λ r. of_relation (agreeing key t r)))

-- the tuples of a relation that agree on the key with the tuple that a value is
abbrev pub looked_up : List (List ℕ) → Outcome Val → Val → Outcome Val
looked_up key o v = on_tuple v (agreeing_value key o)

abbrev pub monadic_value : World → Monadic → Val → Outcome Val
monadic_value w (prefix op) v = prefix_value op v
monadic_value w (extract a) v = extracted_value a v
monadic_value w (postfix op) v = postfix_value op v
monadic_value w (component rest) v = component_value w.scope.types rest v
monadic_value w (measure op) v = measure_value op v

abbrev pub dyadic_value : Dyadic → Val → Val → Outcome Val
dyadic_value (operator op) v u = operator_value op v u
dyadic_value (comparison op) v u = comparison_value op v u

abbrev pub selected_value : World → Selector → List Val → Outcome Val
selected_value w (user n) vs = selector_outcome w n vs
selected_value w relation vs = listed_value vs
selected_value w (headed_relation h) vs = headed_value h vs
selected_value w (tuple names) vs = tuple_from (zip names vs)

-- ---- the values of plans

abbrev mutual
  pub plan_value : World → Slots → PlanTree → Outcome Val
  plan_value w s (constant v) = Valued v
  plan_value w s (refused c) = Refused (Only c)
  plan_value w s (attribute slot place) = value_or (slice_get (s slot) place)
  plan_value w s (relvar n) = known_outcome (w.relvar n)
  plan_value w s (look_up n key part) = with_value (plan_value w s part) (looked_up key (known_outcome (w.relvar n)))
  plan_value w s (monadic op operand) = with_value (plan_value w s operand) (monadic_value w op)
  plan_value w s (dyadic left op right) = with_both (plan_value w s left) (plan_value w s right) (dyadic_value op)
  plan_value w s (select selector parts) = with_value (gathered (plan_values w s parts)) (selected_value w selector)
  plan_value w s (restriction operand slot condition) =
      with_value (plan_value w s operand)
      (λ v. on_relation v (restricted_value (λ t. plan_value w (with_slot slot (values_of t) s) condition)))
  plan_value w s (extend operand attributes slot values) =
      with_value (plan_value w s operand) (λ v. on_relation v (extension_of attributes (plan_columns w s slot values)))
  plan_value w s (aggregate op operand slot value) =
      with_value (plan_value w s operand)
      (λ v. on_relation v (aggregated_value (asked_of op) (λ t. plan_value w (with_slot slot (values_of t) s) value)))
  plan_value w s (summarize_per operand per attributes aggregates slot values) =
      with_both (plan_value w s operand) (plan_value w s per)
      (summary_of attributes (zip aggregates (plan_columns w s slot values)))
  plan_value w s (summarize_by operand by attributes aggregates slot values) =
      with_value (plan_value w s operand) (λ v. with_value (postfix_value (project by) v)
      (summary_of attributes (zip aggregates (plan_columns w s slot values)) v))
  plan_value w s (choice condition consequent alternative) =
      with_value (plan_value w s condition)
      (λ v. on_truth v (λ b. if b then plan_value w s consequent else plan_value w s alternative))
  plan_value w s (bound slot items result) = plan_where_bound w (slots_before slot s) slot items (λ inner. plan_value w inner result)

  -- the value of what stands where each item's tuple is in the next slot. The first item that has none decides
  pub plan_where_bound : World → Slots → ℕ → PlanTrees → (Slots → Outcome Val) → Outcome Val
  plan_where_bound w s slot none inside = inside s
  plan_where_bound w s slot (more first rest) inside =
      with_value (plan_value w s first)
      (λ v. on_tuple v (λ t. plan_where_bound w (with_slot slot (values_of t) s) (suc slot) rest inside))

  pub plan_values : World → Slots → PlanTrees → List (Outcome Val)
  plan_values w s none = []
  plan_values w s (more first rest) = plan_value w s first ∷ plan_values w s rest

  -- the functions of a further tuple, in the slot, that plans are
  pub plan_columns : World → Slots → ℕ → PlanTrees → List (Tuple → Outcome Val)
  plan_columns w s slot none = []
  plan_columns w s slot (more first rest) = (λ t. plan_value w (with_slot slot (values_of t) s) first) ∷ plan_columns w s slot rest
