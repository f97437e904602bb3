use Rattle.std.proofs.Common.{map, take}
use Rattle.td_plan.specs.code.Hands.{slots_in}
use Rattle.td_plan.specs.code.Memos.{IsSound, KeepsBelow}
use Rattle.td_plan.specs.code.Runs.{of_type_asked, type_asked, value_in}
use Rattle.td_plan.specs.code.StepHeights.{step_height}
use Rattle.td_tree.specs.code.Gatherings.{IsGathered}
use Rattle.td_plan.proofs.running.evaluator.Evaluator.+values_in_rows.Given as goal

abbrev pub decreases-values_in_rows : goal.decreases-values_in_rows
decreases-values_in_rows g l = step_height l.step.now

abbrev pub invariant-loop-row : goal.invariant-loop-row
invariant-loop-row g l =
    KeepsBelow (g.A.InWorld.world l.self.around.now) l.inside.slot (slots_in l.inside.outer.items) l.initial.memo l.memo (λ ps. IsSound ps l.step)
    (IsGathered l.causes (map (λ v. v) l.values.items)
    (map (λ t. of_type_asked (type_asked l.ty) (value_in (g.A.InWorld.world l.self.around.now) (slots_in l.inside.outer.items) l.inside.slot l.step t)) (take l.row-index l.rows)))
