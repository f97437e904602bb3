use Rattle.std.proofs.Common.{◌≡◌, ◌<◌, ℕ, length}
use Rattle.std.specs.List.{slice_get}
use Rattle.td_plan.specs.code.Memos.{AreKept, Parts, Reaches}
use Rattle.td_plan.specs.code.Plans.{Slots}
use Rattle.td_eval.specs.model.Worlds.{World}
use Rattle.td_plan.proofs.running.memo.forget_all.Given as goal

abbrev pub invariant-loop-place : goal.invariant-loop-place
invariant-loop-place l = record {
  kept : (ps : Parts) (w : World) (s : Slots) → AreKept ps w s l.initial.kept.items → AreKept ps w s l.kept.items;
  count : length l.kept.items ≡ length l.initial.kept.items;
  within : (j : ℕ) → j < l.place → Reaches l.slot (slice_get l.kept.items j);
}
