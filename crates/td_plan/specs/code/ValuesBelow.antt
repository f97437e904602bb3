-- The steps that are lower than a height may be evaluated, and get the values that plans give them.
use Rattle.std.specs.Borrow.{Bor, MutBor}
use Rattle.std.specs.Prelude.{ℕ, ◌<◌, Result}
use Rattle.td_eval.specs.model.Worlds.{World}
use Rattle.td_plan.specs.declared.plan.step.Step.{Step}
use Rattle.td_plan.specs.declared.running.evaluator.Evaluator.{Evaluator}
use Rattle.td_plan.specs.declared.running.hand.Hand.{Hand}
use Rattle.td_plan.specs.declared.running.memo.Memo.{Memo}
use Rattle.td_plan.specs.code.Hands.{slots_of}
use Rattle.td_plan.specs.code.Memos.{IsReady, IsSound, Keeps}
use Rattle.td_plan.specs.code.Runs.{step_value}
use Rattle.td_plan.specs.code.StepHeights.{step_height}
use Rattle.td_tree.specs.declared.fault.Fault.{Fault}
use Rattle.td_tree.specs.model.Outcomes.{Answers}
use Rattle.td_value.specs.model.Values.{Val}

pub record ValuesBelow {A F : Type 0} (world : A → World) (e : Evaluator A F) (height : ℕ)
    (pre : F → Bor A → MutBor Memo → Bor Hand → Bor Step → Type 0)
    (post : F → Bor A → MutBor Memo → Bor Hand → Bor Step → Result Val Fault → MutBor Memo → Type 0) : Type 0 where
  pub callable : (memo : MutBor Memo) (hand : Bor Hand) (step : Bor Step) → step_height step.now < height
      → IsReady (world e.around.now) (slots_of hand.now) memo.now (λ ps. IsSound ps step.now) → pre e.inner e.around memo hand step
  pub values : (memo : MutBor Memo) (hand : Bor Hand) (step : Bor Step) (answer : Result Val Fault) (after : MutBor Memo)
      → post e.inner e.around memo hand step answer after
      → Keeps (world e.around.now) (slots_of hand.now) memo.now after.now (λ ps. IsSound ps step.now)
      (Answers (λ v. v) answer (step_value (world e.around.now) (slots_of hand.now) step.now))
