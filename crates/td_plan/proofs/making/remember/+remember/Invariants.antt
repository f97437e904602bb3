use Rattle.std.proofs.Common.{◌≡◌, ◌+◌, ◌*◌, drop, map, max, take}
use Rattle.td_plan.specs.code.Remembered.{AreEachRemembered}
use Rattle.td_plan.specs.code.StepHeights.{step_height, steps_height}
use Rattle.td_plan.proofs.making.remember.+remember.Given as goal

abbrev pub decreases-named_step : goal.decreases-named_step
decreases-named_step l = 8 * step_height l.step

abbrev pub decreases-remember : goal.decreases-remember
decreases-remember l = 8 * step_height l.step.now + 1

abbrev pub decreases-both : goal.decreases-both
decreases-both l = 8 * max (step_height l.left.now) (step_height l.right.now) + 2

abbrev pub decreases-three : goal.decreases-three
decreases-three l = 8 * max (step_height l.first.now) (max (step_height l.second.now) (step_height l.third.now)) + 3

abbrev pub decreases-inside : goal.decreases-inside
decreases-inside l = 8 * max (step_height l.operand.now) (step_height l.body.now) + 2

abbrev pub decreases-remember_all : goal.decreases-remember_all
decreases-remember_all l = 8 * steps_height l.steps.now.items + 2

abbrev pub decreases-all : goal.decreases-all
decreases-all l = 8 * steps_height l.steps.now.items + 3

abbrev pub decreases-all_inside : goal.decreases-all_inside
decreases-all_inside l = 8 * max (step_height l.operand.now) (steps_height l.steps.now.items) + 3

abbrev pub decreases-all_inside_both : goal.decreases-all_inside_both
decreases-all_inside_both l = 8 * max (max (step_height l.operand.now) (step_height l.per.now)) (steps_height l.steps.now.items) + 4

abbrev pub decreases-all_bound : goal.decreases-all_bound
decreases-all_bound l = 8 * max (steps_height l.items.now.items) (step_height l.value.now) + 3

abbrev pub decreases-bound : goal.decreases-bound
decreases-bound l = 8 * max (steps_height l.items.items) (step_height l.value.value) + 4

abbrev pub invariant-remember_all-loop-step : goal.invariant-remember_all-loop-step
invariant-remember_all-loop-step l =
    AreEachRemembered l.fn.places l.places (map (λ ns. ns.items) l.all.items) (take l.step-index l.fn.steps.items) (take l.step-index l.step-items)
    × (drop l.step-index l.step-items ≡ drop l.step-index l.fn.steps.items)
