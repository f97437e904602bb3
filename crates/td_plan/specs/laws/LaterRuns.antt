-- Plans that are run in another state than the one in which they were made.
use Rattle.std.specs.Prelude.{List, Result}
use Rattle.td_check.specs.model.Scopes.{Scope}
use Rattle.td_eval.specs.model.TreeValues.{value_of}
use Rattle.td_eval.specs.model.Worlds.{World}
use Rattle.td_plan.specs.code.Plans.{PlanTree}
use Rattle.td_plan.specs.code.PlansOf.{IsPlanIfTyped, MeetsRules}
use Rattle.td_plan.specs.code.Runs.{AnswersPlan}
use Rattle.td_tree.specs.declared.fault.Fault.{Fault}
use Rattle.td_tree.specs.model.Outcomes.{Answers}
use Rattle.td_tree.specs.model.Trees.{Tree}
use Rattle.td_value.specs.model.Values.{Tuple, Val}

-- a plan that was made of an expression where this was known gives its value, or its causes, wherever the same is known: the
-- same types, headings and names, and tuples of the same headings in scope, whatever relations the base relvars hold
abbrev pub PlansServeTheirScope : Type 0
PlansServeTheirScope =
    (scope : Scope) (plan : PlanTree) (e : Tree) → IsPlanIfTyped scope plan e → (w : World) (s : List Tuple) → MeetsRules w scope s e
    → (answer : Result Val Fault) → AnswersPlan w s plan answer → Answers (λ v. v) answer (value_of w s e)
