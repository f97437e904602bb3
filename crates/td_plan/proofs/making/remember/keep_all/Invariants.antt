use Rattle.std.proofs.Common.{◌≡◌, drop, map, take}
use Rattle.td_plan.specs.code.Remembered.{AreEachKept}
use Rattle.td_plan.proofs.making.remember.keep_all.Given as goal

abbrev pub invariant-loop-place : goal.invariant-loop-place
invariant-loop-place l =
    AreEachKept l.fn.places l.places (map (λ ns. ns.items) (take l.place l.all)) (take l.place l.fn.steps.items) (take l.place l.step-items)
    × (drop l.place l.step-items ≡ drop l.place l.fn.steps.items)
