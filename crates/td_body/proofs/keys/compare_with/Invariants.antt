use Rattle.std.proofs.Common.{◌≡◌, drop}
use Rattle.td_body.specs.code.KeyParts.{values_cmp}
use Rattle.td_body.proofs.keys.compare_with.Given as goal

abbrev pub invariant-loop-index : goal.invariant-loop-index
invariant-loop-index l = values_cmp (drop l.index l.places) l.tuple (drop l.index l.values) ≡ values_cmp l.places l.tuple l.values
