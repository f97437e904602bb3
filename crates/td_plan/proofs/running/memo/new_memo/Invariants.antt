use Rattle.std.proofs.Common.{ℕ}
use Rattle.td_plan.specs.code.Memos.{AreKept, AreWithin, Parts}
use Rattle.td_plan.specs.code.Plans.{Slots}
use Rattle.td_eval.specs.model.Worlds.{World}
use Rattle.td_plan.proofs.running.memo.new_memo.Given as goal

abbrev pub invariant-loop-place : goal.invariant-loop-place
invariant-loop-place l = record {
  kept : (ps : Parts) (w : World) (s : Slots) → AreKept ps w s l.kept.items;
  within : (d : ℕ) → AreWithin d l.kept.items;
}
