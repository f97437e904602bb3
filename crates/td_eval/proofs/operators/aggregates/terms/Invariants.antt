use Rattle.std.proofs.Common.{◌≡◌, map, take, true}
use Rattle.td_value.specs.model.Values.{boolean}
use Rattle.td_eval.proofs.operators.aggregates.terms.Given as goal

abbrev pub invariant-loop : goal.invariant-loop
invariant-loop l = l.terms.items ≡ map (λ t. boolean true) (take l.index l.rows)
