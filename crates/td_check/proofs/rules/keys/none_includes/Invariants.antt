use Rattle.std.proofs.Common.{◌≡◌, length, map}
use Rattle.td_check.specs.model.StatementTypes.{none_includes}
use Rattle.td_check.proofs.rules.keys.none_includes.Given as goal

abbrev pub invariant-loop-rest : goal.invariant-loop-rest
invariant-loop-rest l = none_includes (map (λ key. key.items) l.rest) ≡ none_includes (map (λ key. key.items) l.keys)

abbrev pub decreases-loop-rest : goal.decreases-loop-rest
decreases-loop-rest l = length l.rest
