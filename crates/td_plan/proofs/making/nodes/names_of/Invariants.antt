use Rattle.std.proofs.Common.{◌≡◌, map, take}
use Rattle.td_plan.proofs.making.nodes.names_of.Given as goal

abbrev pub invariant-loop-part : goal.invariant-loop-part
invariant-loop-part l = l.names.items ≡ map (λ part. part.name) (take l.part-index l.parts)
