use Rattle.std.proofs.Common.{take}
use Rattle.td_plan.specs.code.Remembered.{AreAmongBut}
use Rattle.td_plan.proofs.making.remember.names.without.Given as goal

abbrev pub invariant-loop-name : goal.invariant-loop-name
invariant-loop-name l = AreAmongBut l.slot (take l.name-index l.names) l.others.items
