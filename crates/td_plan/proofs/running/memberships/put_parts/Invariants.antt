use Rattle.std.proofs.Common.{◌≡◌, map, take}
use Rattle.td_eval.specs.model.Worlds.{World}
use Rattle.td_plan.specs.code.Hands.{slots_of}
use Rattle.td_plan.specs.code.Memos.{AreSound, IsMemo, Parts}
use Rattle.td_plan.specs.code.Runs.{step_value}
use Rattle.td_tree.specs.model.Outcomes.{Valued, gathered}
use Rattle.td_plan.proofs.running.memberships.put_parts.Given as goal

abbrev pub invariant-loop-part : goal.invariant-loop-part
invariant-loop-part l =
    (ps : Parts) (w : World) → AreSound ps l.parts → IsMemo ps w (slots_of l.hand) l.memo
    → gathered (map (step_value w (slots_of l.hand)) (take l.part-index l.parts)) ≡ Valued l.row.items
