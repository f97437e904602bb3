use Rattle.std.proofs.Common.{◌≡◌, take}
use Rattle.td_types.specs.model.Types.{attribute_names}
use Rattle.td_eval.proofs.operators.postfix.names_in.Given as goal

abbrev pub invariant-loop-place : goal.invariant-loop-place
invariant-loop-place l = l.names.items ≡ attribute_names (take l.place l.heading)
