use Rattle.std.proofs.Common.{map, take}
use Rattle.std.specs.List.{zip}
use Rattle.td_eval.specs.code.Totals.{total_of, total_view}
use Rattle.td_plan.specs.code.Hands.{slots_in}
use Rattle.td_plan.specs.code.Memos.{AreSound, KeepsBelow}
use Rattle.td_plan.specs.code.Runs.{values_in}
use Rattle.td_tree.specs.code.Gatherings.{IsGathered}
use Rattle.td_plan.proofs.running.evaluator.Evaluator.totals.Given as goal

abbrev pub invariant-loop-place : goal.invariant-loop-place
invariant-loop-place g l =
    KeepsBelow (g.A.InWorld.world l.self.around.now) l.inside.slot (slots_in l.inside.outer.items) l.initial.memo l.memo (λ ps. AreSound ps l.steps)
    (IsGathered l.causes (map total_view l.totals.items)
    (map (total_of l.groups) (take l.place (zip l.aggregates (values_in (g.A.InWorld.world l.self.around.now) (slots_in l.inside.outer.items) l.inside.slot l.steps)))))
