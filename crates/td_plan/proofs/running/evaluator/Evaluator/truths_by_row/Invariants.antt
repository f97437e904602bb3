use Rattle.std.proofs.Common.{map, take}
use Rattle.td_plan.specs.code.Hands.{slots_in}
use Rattle.td_plan.specs.code.Memos.{IsSound, KeepsBelow}
use Rattle.td_plan.specs.code.Runs.{value_in}
use Rattle.td_tree.specs.code.Gatherings.{IsGathered}
use Rattle.td_eval.specs.model.OperatorValues.{truth_value}
use Rattle.td_plan.proofs.running.evaluator.Evaluator.truths_by_row.Given as goal

abbrev pub invariant-loop-row : goal.invariant-loop-row
invariant-loop-row g l =
    KeepsBelow (g.A.InWorld.world l.self.around.now) l.inside.slot (slots_in l.inside.outer.items) l.initial.memo l.memo (λ ps. IsSound ps l.condition)
    (IsGathered l.causes (map (λ v. v) l.truths.items) (map (λ t. truth_value (value_in (g.A.InWorld.world l.self.around.now) (slots_in l.inside.outer.items) l.inside.slot l.condition t)) (take l.row-index l.rows)))
