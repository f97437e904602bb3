use Rattle.std.proofs.Common.{map, take}
use Rattle.td_plan.specs.code.Hands.{slots_of}
use Rattle.td_plan.specs.code.Memos.{AreSound, Keeps}
use Rattle.td_plan.specs.code.Runs.{step_value}
use Rattle.td_tree.specs.code.Gatherings.{IsGathered}
use Rattle.td_plan.proofs.running.evaluator.Evaluator.values_of.Given as goal

abbrev pub invariant-loop-step : goal.invariant-loop-step
invariant-loop-step g l =
    Keeps (g.A.InWorld.world l.self.around.now) (slots_of l.hand) l.initial.memo l.memo (λ ps. AreSound ps l.steps)
    (IsGathered l.causes (map (λ v. v) l.values.items) (map (step_value (g.A.InWorld.world l.self.around.now) (slots_of l.hand)) (take l.step-index l.steps)))
