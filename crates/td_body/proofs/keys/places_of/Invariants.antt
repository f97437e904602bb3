use Rattle.std.proofs.Common.{◌≡◌, ◌++◌, drop}
use Rattle.td_body.specs.code.KeyParts.{places_from}
use Rattle.td_body.proofs.keys.places_of.Given as goal

abbrev pub invariant-loop-name : goal.invariant-loop-name
invariant-loop-name l = (l.place ≡ l.name-index) × (l.places.items ++ places_from l.place l.key (drop l.place l.names) ≡ places_from 0 l.key l.names)
