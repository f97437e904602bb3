-- What values the steps below a height values those below a lower one.
use Rattle.std.proofs.Common.{ℕ, suc, ◌≤◌, arith}
use Rattle.std.specs.Borrow.{Bor, MutBor}
use Rattle.std.specs.Prelude.{Result}
use Rattle.td_eval.specs.model.Worlds.{World}
use Rattle.td_plan.specs.declared.running.evaluator.Evaluator.{Evaluator}
use Rattle.td_plan.specs.declared.running.hand.Hand.{Hand}
use Rattle.td_plan.specs.declared.running.memo.Memo.{Memo}
use Rattle.td_plan.specs.declared.plan.step.Step.{Step}
use Rattle.td_plan.specs.code.ValuesBelow.{ValuesBelow}
use Rattle.td_tree.specs.declared.fault.Fault.{Fault}
use Rattle.td_value.specs.model.Values.{Val}

pub lower : {A F : Type 0} {world : A → World} {e : Evaluator A F} {height low : ℕ}
    {pre : F → Bor A → MutBor Memo → Bor Hand → Bor Step → Type 0}
    {post : F → Bor A → MutBor Memo → Bor Hand → Bor Step → Result Val Fault → MutBor Memo → Type 0}
    → low ≤ height → ValuesBelow world e (suc height) pre post → ValuesBelow world e (suc low) pre post
lower l v = record { callable = λ memo hand step h ready. v.callable memo hand step (omega (arith, l, h)) ready; values = v.values }
