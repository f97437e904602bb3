use Rattle.std.proofs.Common.{◌≡◌, ◌++◌, drop, map}
use Rattle.td_algebra.proofs.layout.places_of.Given as goal

abbrev pub invariant-loop-place : goal.invariant-loop-place
invariant-loop-place l = l.places.items ++ map (λ s. s.1) (drop l.place-index l.sources) ≡ map (λ s. s.1) l.sources
