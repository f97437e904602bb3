use Rattle.std.proofs.Common.{◌≡◌, take}
use Rattle.td_eval.specs.model.Worlds.{World}
use Rattle.td_plan.specs.code.Memberships.{tuple_inside}
use Rattle.td_plan.specs.code.Memos.{AreSound, Parts}
use Rattle.td_plan.specs.code.Quick.{AreInRows}
use Rattle.td_plan.specs.code.QuickInside.{IsMemoInside}
use Rattle.td_value.specs.model.Values.{tuple_value}
use Rattle.td_plan.proofs.running.memberships.tuples_of.Given as goal

abbrev pub invariant-loop-row : goal.invariant-loop-row
invariant-loop-row l =
    (l.laid.0 ≡ l.layout)
    × ((ps : Parts) (w : World) → AreSound ps l.parts → IsMemoInside ps w l.batch.inside.now l.batch.memo.now
    → AreInRows tuple_value (tuple_inside w l.batch.inside.now l.names l.parts) (take l.row-index l.batch.rows.now) l.laid.1)
