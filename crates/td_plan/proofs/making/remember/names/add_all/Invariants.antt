use Rattle.std.proofs.Common.{take}
use Rattle.td_plan.specs.code.Remembered.{AreAmong}
use Rattle.td_plan.proofs.making.remember.names.add_all.Given as goal

abbrev pub invariant-loop-other : goal.invariant-loop-other
invariant-loop-other l = AreAmong l.fn.names.items l.names.items × AreAmong (take l.other-index l.others) l.names.items
