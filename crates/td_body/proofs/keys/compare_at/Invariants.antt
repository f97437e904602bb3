use Rattle.std.proofs.Common.{◌≡◌, drop}
use Rattle.td_body.specs.code.KeyParts.{by_places}
use Rattle.td_body.proofs.keys.compare_at.Given as goal

abbrev pub invariant-loop-place : goal.invariant-loop-place
invariant-loop-place l = by_places (drop l.place-index l.places) l.tuple l.other ≡ by_places l.places l.tuple l.other
