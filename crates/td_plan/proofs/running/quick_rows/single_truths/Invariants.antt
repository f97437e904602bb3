use Rattle.std.proofs.Common.{take}
use Rattle.td_eval.specs.model.Worlds.{World}
use Rattle.td_plan.specs.code.Memos.{IsSound, Parts}
use Rattle.td_plan.specs.code.Quick.{AreInRows}
use Rattle.td_plan.specs.code.QuickInside.{IsMemoInside, value_inside}
use Rattle.td_value.specs.model.Values.{boolean}
use Rattle.td_plan.proofs.running.quick_rows.single_truths.Given as goal

abbrev pub invariant-loop-row : goal.invariant-loop-row
invariant-loop-row l =
    (ps : Parts) (w : World) → IsSound ps l.condition → IsMemoInside ps w l.batch.inside.now l.batch.memo.now
    → AreInRows boolean (value_inside w l.batch.inside.now l.condition) (take l.row-index l.batch.rows.now) l.truths.items
