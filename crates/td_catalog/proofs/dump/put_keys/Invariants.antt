use Rattle.std.proofs.Common.{◌≡◌, ◌++◌, drop, map, string_bytes}
use Rattle.td_catalog.specs.model.Dumps.{keys_text}
use Rattle.td_catalog.proofs.dump.put_keys.Given as goal

abbrev pub invariant-loop-key : goal.invariant-loop-key
invariant-loop-key l =
    string_bytes l.out ++ keys_text l.heading (map (λ key. key.items) (drop l.key-index l.keys))
    ≡ string_bytes l.initial.out ++ keys_text l.heading (map (λ key. key.items) l.keys)
