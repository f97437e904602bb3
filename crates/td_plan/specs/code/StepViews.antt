-- What the steps of the code stand for.
use Rattle.std.specs.Prelude.{List, [], ◌∷◌}
use Rattle.std.specs.Rc.{rc_str_bytes}
use Rattle.td_plan.specs.declared.plan.step.Dyadic.{Dyadic}
use Rattle.td_plan.specs.declared.plan.step.Dyadic.TheVariants as dyadics
use Rattle.td_plan.specs.declared.plan.step.Monadic.{Monadic}
use Rattle.td_plan.specs.declared.plan.step.Monadic.TheVariants as monadics
use Rattle.td_plan.specs.declared.plan.step.Selector.{Selector}
use Rattle.td_plan.specs.declared.plan.step.Selector.TheVariants as selectors
use Rattle.td_plan.specs.declared.plan.step.Step.{Step, Row_of-Step, end_of-Step, more_of-Step}
use Rattle.td_plan.specs.declared.plan.step.Step.TheVariants as p
use Rattle.td_plan.specs.code.Plans as plans
use Rattle.td_tree.specs.code.TreeViews.{attributes_view, postfix_view}
use Rattle.td_types.specs.code.Views.{pairs_view}

abbrev pub monadic_view : Monadic → plans.Monadic
monadic_view (monadics.Prefix op) = plans.prefix op
monadic_view (monadics.Extract attribute) = plans.extract attribute
monadic_view (monadics.Postfix op) = plans.postfix (postfix_view op)
monadic_view (monadics.Component rest) = plans.component (rc_str_bytes rest)
monadic_view (monadics.Measure op) = plans.measure op

abbrev pub dyadic_view : Dyadic → plans.Dyadic
dyadic_view (dyadics.Operator op) = plans.operator op
dyadic_view (dyadics.Comparison op) = plans.comparison op

abbrev pub selector_view : Selector → plans.Selector
selector_view (selectors.User name) = plans.user name
selector_view selectors.Relation = plans.relation
selector_view (selectors.HeadedRelation heading) = plans.headed_relation heading
selector_view (selectors.Tuple names) = plans.tuple names.items

abbrev mutual
  pub step_view : Step → plans.PlanTree
  step_view (p.Constant v) = plans.constant v
  step_view (p.Refused c) = plans.refused c
  step_view (p.Attribute slot place) = plans.attribute slot place
  step_view (p.Relvar name) = plans.relvar name
  step_view (p.LookUp' name key _ part) = plans.look_up name key.items (step_view part)
  step_view (p.Monadic' op _ operand) = plans.monadic (monadic_view op) (step_view operand)
  step_view (p.Dyadic' _ left op _ right) = plans.dyadic (step_view left) (dyadic_view op) (step_view right)
  step_view (p.Select' selector _ parts) = plans.select (selector_view selector) (steps_row parts)
  step_view (p.Restriction' _ operand slot _ condition origin) =
      plans.restriction (step_view operand) slot (step_view condition)
  step_view (p.Extend' _ operand attributes slot _ values) =
      plans.extend (step_view operand) (pairs_view attributes.items) slot (steps_row values)
  step_view (p.Aggregate' op _ operand slot _ value) =
      plans.aggregate op (step_view operand) slot (step_view value)
  step_view (p.SummarizePer' _ operand _ per attributes aggregates slot _ values) =
      plans.summarize_per (step_view operand) (step_view per) (pairs_view attributes.items) aggregates.items slot (steps_row values)
  step_view (p.SummarizeBy' _ operand by attributes aggregates slot _ values) =
      plans.summarize_by (step_view operand) (attributes_view by) (pairs_view attributes.items) aggregates.items slot (steps_row values)
  step_view (p.If' _ condition _ consequent _ alternative) =
      plans.choice (step_view condition) (step_view consequent) (step_view alternative)
  step_view (p.Bound' slot reach _ items _ result) = plans.bound slot (steps_row items) (step_view result)
  -- what is kept stands for its part
  step_view (p.Once' place reach _ part) = step_view part

  pub steps_row : {m : _} → Row_of-Step m → plans.PlanTrees
  steps_row end_of-Step = plans.none
  steps_row (more_of-Step first rest) = plans.more (step_view first) (steps_row rest)

abbrev pub steps_view : List Step → plans.PlanTrees
steps_view [] = plans.none
steps_view (first ∷ rest) = plans.more (step_view first) (steps_view rest)
