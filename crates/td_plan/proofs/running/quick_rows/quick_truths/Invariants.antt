use Rattle.std.proofs.Common.{◌≡◌, ◌++◌, length, map}
use Rattle.td_eval.specs.model.Worlds.{World}
use Rattle.td_plan.specs.code.Memos.{IsSound, Parts}
use Rattle.td_plan.specs.code.QuickInside.{IsMemoInside, value_inside}
use Rattle.td_tree.specs.model.Outcomes.{Valued}
use Rattle.td_value.specs.model.Values.{boolean}
use Rattle.td_plan.proofs.running.quick_rows.quick_truths.Given as goal

abbrev pub invariant-loop-rest : goal.invariant-loop-rest
invariant-loop-rest l =
    (ps : Parts) (w : World) → IsSound ps l.condition → IsMemoInside ps w l.batch.inside.now l.batch.memo.now
    → map (value_inside w l.batch.inside.now l.condition) l.batch.rows.now ≡ map (λ b. Valued (boolean b)) l.truths.items ++ map (value_inside w l.batch.inside.now l.condition) l.rest

abbrev pub decreases-loop-rest : goal.decreases-loop-rest
decreases-loop-rest l = length l.rest
