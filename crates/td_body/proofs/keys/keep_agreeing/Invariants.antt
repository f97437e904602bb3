use Rattle.std.proofs.Common.{◌≡◌, take, filter}
use Rattle.std.specs.Ordering.{is_eq}
use Rattle.td_body.specs.code.KeyParts.{values_cmp}
use Rattle.td_body.proofs.keys.keep_agreeing.Given as goal

abbrev pub invariant-loop-tuple : goal.invariant-loop-tuple
invariant-loop-tuple l = l.kept.items ≡ filter (λ t. is_eq (values_cmp l.places t l.values)) (take l.tuple-index l.tuples)
