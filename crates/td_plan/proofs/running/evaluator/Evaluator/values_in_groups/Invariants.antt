use Rattle.std.proofs.Common.{map, take}
use Rattle.td_plan.proofs.SummaryLaws.{group_found}
use Rattle.td_plan.specs.code.Hands.{slots_in}
use Rattle.td_plan.specs.code.Memos.{IsSound, KeepsBelow}
use Rattle.td_tree.specs.code.Gatherings.{IsGathered}
use Rattle.td_plan.proofs.running.evaluator.Evaluator.values_in_groups.Given as goal

abbrev pub invariant-loop-group : goal.invariant-loop-group
invariant-loop-group g l =
    KeepsBelow (g.A.InWorld.world l.self.around.now) l.inside.slot (slots_in l.inside.outer.items) l.initial.memo l.memo (λ ps. IsSound ps l.step)
    (IsGathered l.causes (map (λ vs. vs.items) l.values.items)
    (map (group_found (g.A.InWorld.world l.self.around.now) (slots_in l.inside.outer.items) l.inside.slot l.step) (take l.group-index l.groups)))
