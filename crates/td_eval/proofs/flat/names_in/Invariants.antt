use Rattle.std.proofs.Common.{◌≡◌, map, take}
use Rattle.td_eval.proofs.flat.names_in.Given as goal

abbrev pub invariant-loop-part : goal.invariant-loop-part
invariant-loop-part l = l.names.items ≡ map (λ p. p.name) (take l.part-index l.parts)
