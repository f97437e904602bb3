use Rattle.std.proofs.Common.{◌≡◌, map, take}
use Rattle.td_eval.proofs.rows.copies_of_lent.Given as goal

abbrev pub invariant-loop-tuple : goal.invariant-loop-tuple
invariant-loop-tuple l = l.copy.items ≡ map (λ t. t.now) (take l.tuple-index l.tuples)
