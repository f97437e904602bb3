use Rattle.std.proofs.Common.{◌≡◌, ◌≤◌, drop, length, reverse}
use Rattle.td_algebra.specs.code.Lookups.{HasFirsts, next_places}
use Rattle.td_algebra.proofs.lookup.Lookup.new.Given as goal

abbrev pub invariant-loop-place : goal.invariant-loop-place
invariant-loop-place l =
    HasFirsts l.places l.place (drop l.place l.rows) l.firsts
    × (l.next.items ≡ reverse (next_places l.places l.place (drop l.place l.rows)))
    × (l.place ≤ length l.rows)

abbrev pub decreases-loop-place : goal.decreases-loop-place
decreases-loop-place l = l.place
