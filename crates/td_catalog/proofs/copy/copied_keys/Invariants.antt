use Rattle.std.proofs.Common.{◌≡◌, map, take}
use Rattle.td_catalog.proofs.copy.copied_keys.Given as goal

abbrev pub invariant-loop-key : goal.invariant-loop-key
invariant-loop-key l = map (λ key. key.items) l.copy.items ≡ map (λ key. key.items) (take l.key-index l.key-items)
