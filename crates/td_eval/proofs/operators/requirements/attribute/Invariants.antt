use Rattle.std.proofs.Common.{◌≡◌, reverse}
use Rattle.td_eval.specs.model.Worlds.{innermost_value}
use Rattle.td_eval.proofs.operators.requirements.attribute.Given as goal

abbrev pub invariant-loop-tuple : goal.invariant-loop-tuple
invariant-loop-tuple l = innermost_value l.name (reverse l.tuple-iterator.iter.rest.now) ≡ innermost_value l.name (reverse l.tuples)
