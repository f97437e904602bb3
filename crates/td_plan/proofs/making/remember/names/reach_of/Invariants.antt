use Rattle.std.proofs.Common.{◌<◌, ◌^◌, ◌-◌, take}
use Rattle.td_plan.specs.code.Remembered.{AreBefore}
use Rattle.td_plan.proofs.making.remember.names.reach_of.Given as goal

abbrev pub invariant-loop-name : goal.invariant-loop-name
invariant-loop-name l = l.reach < 2 ^ 64 - 1 → AreBefore l.reach (take l.name-index l.names)
