use Rattle.std.proofs.Common.{◌≡◌, ◌++◌, map, take}
use Rattle.td_check.proofs.place.Place.inside_all.Given as goal

abbrev pub invariant-loop-heading : goal.invariant-loop-heading
invariant-loop-heading l =
    map (λ h. h.now) l.inner.items ≡ map (λ h. h.now) l.initial.inner.items ++ take l.heading-index l.headings
