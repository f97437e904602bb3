use Rattle.std.proofs.Common.{map, take}
use Rattle.td_plan.specs.code.Remembered.{AreAllAmong}
use Rattle.td_plan.proofs.making.remember.names.union_of.Given as goal

abbrev pub invariant-loop-some : goal.invariant-loop-some
invariant-loop-some l = AreAllAmong (map (λ ns. ns.items) (take l.some-index l.all)) l.names.items
