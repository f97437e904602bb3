use Rattle.std.proofs.Common.{◌≡◌, ◌++◌, map, reverse}
use Rattle.td_check.specs.model.Scopes.{innermost}
use Rattle.td_check.proofs.place.Place.attribute.Given as goal

abbrev pub invariant-loop-heading : goal.invariant-loop-heading
invariant-loop-heading l =
    innermost l.name (reverse (map (λ h. h.now) l.heading-iterator.iter.rest.now) ++ l.self.scope.now.entered)
    ≡ innermost l.name (reverse (map (λ h. h.now) l.self.inner.items) ++ l.self.scope.now.entered)
