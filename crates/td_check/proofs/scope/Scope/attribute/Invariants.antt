use Rattle.std.proofs.Common.{◌≡◌, reverse}
use Rattle.td_check.specs.model.Scopes.{innermost}
use Rattle.td_check.proofs.scope.Scope.attribute.Given as goal

abbrev pub invariant-loop-heading : goal.invariant-loop-heading
invariant-loop-heading l = innermost l.name (reverse l.heading-iterator.iter.rest.now) ≡ innermost l.name l.self.entered
