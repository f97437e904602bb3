use Rattle.std.proofs.Common.{◌+◌, drop}
use Rattle.td_plan.proofs.BoundRuns.{GoesOn}
use Rattle.td_plan.specs.code.Hands.{slots_in}
use Rattle.td_plan.specs.code.Memos.{AreSound, IsMemo, Parts}
use Rattle.td_plan.specs.code.StepViews.{steps_view}
use Rattle.td_plan.proofs.running.evaluator.Evaluator.bind_all.Given as goal

abbrev pub invariant-loop-place : goal.invariant-loop-place
invariant-loop-place g l =
    (ps : Parts) → AreSound ps l.items → IsMemo ps (g.A.InWorld.world l.self.around.now) (slots_in l.fn.rows.items) l.fn.memo
    → GoesOn ps (g.A.InWorld.world l.self.around.now) l.slot (slots_in l.fn.rows.items) (steps_view l.items) (l.slot + l.place) (steps_view (drop l.place l.items)) l.rows.items l.memo
