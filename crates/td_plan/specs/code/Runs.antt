-- What plans give, and steps inside a loop over tuples, as the code has it (this project's own).
use Rattle.std.specs.Borrow.{Bor}
use Rattle.std.specs.Prelude.{ℕ, List, Bool, Option, Some, None, Result, map, option_map}
use Rattle.td_check.specs.model.Scopes.{Scope}
use Rattle.td_eval.specs.model.OperatorValues.{truth_value, value_of_type}
use Rattle.td_eval.specs.laws.UnfailingValues.{GivesValues}
use Rattle.td_eval.specs.model.Worlds.{World}
use Rattle.td_plan.specs.declared.plan.step.Step.{Step}
use Rattle.td_plan.specs.code.Plans.{PlanTree, Slots, plan_columns, plan_value, plan_values, with_slot}
use Rattle.td_plan.specs.code.PlansOf.{AreInHand, IsPlanFor, outermost}
use Rattle.td_plan.specs.code.StepViews.{step_view, steps_view}
use Rattle.td_tree.specs.declared.fault.Fault.{Fault}
use Rattle.td_tree.specs.model.Outcomes.{Answers, Outcome, gathered, with_value}
use Rattle.td_types.specs.model.Types.{Type'}
use Rattle.td_types.specs.declared.ty.Ty.{Ty}
use Rattle.td_types.specs.code.Views.{type_view}
use Rattle.td_value.specs.code.Views.{values_of}
use Rattle.td_value.specs.model.Values.{Tuple, Val}

-- the answer is what the plan is for
abbrev pub AnswersPlan : World → List Tuple → PlanTree → Result Val Fault → Type 0
AnswersPlan w hand plan answer =
    (scope : Scope) (outcome : World → List Tuple → Outcome Val) → IsPlanFor scope plan outcome → GivesValues w (outermost scope)
    → AreInHand scope hand → Answers (λ v. v) answer (outcome w hand)

-- the value of a step
abbrev pub step_value : World → Slots → Step → Outcome Val
step_value w s step = plan_value w s (step_view step)

-- the values of steps
abbrev pub step_values : World → Slots → List Step → List (Outcome Val)
step_values w s steps = plan_values w s (steps_view steps)

-- the value of a step in a further tuple, in the slot
abbrev pub value_in : World → Slots → ℕ → Step → Tuple → Outcome Val
value_in w s slot step t = plan_value w (with_slot slot (values_of t) s) (step_view step)

-- the values of each of the steps in a further tuple
abbrev pub values_in : World → Slots → ℕ → List Step → List (Tuple → Outcome Val)
values_in w s slot steps = plan_columns w s slot (steps_view steps)

-- the type that is asked for, if one is
abbrev pub type_asked : Option (Bor Ty) → Option Type'
type_asked ty = option_map (λ t. type_view t.now) ty

-- the outcome, where its value is of the type
abbrev pub of_type_asked : Option Type' → Outcome Val → Outcome Val
of_type_asked None o = o
of_type_asked (Some t) o = with_value o (value_of_type t)

-- the values in tuples, where they are of the type
abbrev pub all_of_type : Option Type' → (Tuple → Outcome Val) → List Tuple → Outcome (List Val)
all_of_type ty f ts = gathered (map (λ t. of_type_asked ty (f t)) ts)

-- the truth values of a condition in tuples
abbrev pub truths_in : World → Slots → ℕ → Step → List Tuple → Outcome (List Bool)
truths_in w s slot condition ts = gathered (map (λ t. truth_value (value_in w s slot condition t)) ts)
