use Rattle.std.proofs.Common.{◌≡◌, ◌<◌, length}
use Rattle.std.specs.Prelude.{IfSome}
use Rattle.std.specs.List.{slice_get}
use Rattle.td_types.specs.model.Headings.{projection}
use Rattle.td_value.specs.model.Values.{heading_of}
use Rattle.td.proofs.tests.bodies.steps.steps_met.Given as goal

abbrev pub invariant-loop-place : goal.invariant-loop-place
invariant-loop-place g l =
    (0 < length (g.B.Body.keys l.body))
    × IfSome (slice_get (g.B.Body.keys l.body) 0) (λ names. heading_of l.part ≡ projection names (g.B.Body.relation l.body).heading)
