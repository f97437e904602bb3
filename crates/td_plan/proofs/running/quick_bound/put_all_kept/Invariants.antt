use Rattle.std.proofs.Common.{◌+◌, drop}
use Rattle.td_eval.specs.model.Worlds.{World}
use Rattle.td_plan.proofs.BoundRuns.{GoesOn}
use Rattle.td_plan.specs.code.Hands.{slots_in}
use Rattle.td_plan.specs.code.Memos.{AreSound, IsMemoBelow, Parts}
use Rattle.td_plan.specs.code.StepViews.{steps_view}
use Rattle.td_plan.proofs.running.quick_bound.put_all_kept.Given as goal

abbrev pub invariant-loop-place : goal.invariant-loop-place
invariant-loop-place l =
    (ps : Parts) (w : World) → AreSound ps l.items → IsMemoBelow ps w l.slot (slots_in l.fn.rows.items) l.memo
    → GoesOn ps w l.slot (slots_in l.fn.rows.items) (steps_view l.items) (l.slot + l.place) (steps_view (drop l.place l.items)) l.rows.items l.memo
