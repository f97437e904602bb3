use Rattle.std.proofs.Common.{◌≡◌, drop, map}
use Rattle.td_engine.specs.model.Checks.{keys_hold}
use Rattle.td_engine.proofs.checks.keys_hold.Given as goal

abbrev pub invariant-loop-key : goal.invariant-loop-key
invariant-loop-key l = keys_hold (map (λ key. key.items) (drop l.key-index l.keys)) l.relation.body ≡ keys_hold (map (λ key. key.items) l.keys) l.relation.body
