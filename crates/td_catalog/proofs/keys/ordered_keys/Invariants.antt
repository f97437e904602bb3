use Rattle.std.proofs.Common.{◌≡◌, map, take}
use Rattle.td_catalog.specs.model.Dumps.{ordered_names}
use Rattle.td_catalog.proofs.keys.ordered_keys.Given as goal

abbrev pub invariant-loop-key : goal.invariant-loop-key
invariant-loop-key l =
    map (λ key. key.items) l.ordered.items ≡ map (ordered_names l.heading) (map (λ key. key.items) (take l.key-index l.keys))
