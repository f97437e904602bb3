use Rattle.std.proofs.Common.{◌≡◌, None, take}
use Rattle.td_plan.specs.code.Planners.{place_in}
use Rattle.td_plan.proofs.making.planner.place_in.Given as goal

abbrev pub invariant-loop-place : goal.invariant-loop-place
invariant-loop-place l = place_in l.name (take l.place l.heading) ≡ None
