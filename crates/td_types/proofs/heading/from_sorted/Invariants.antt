use Rattle.std.proofs.Common.{◌≡◌}
use Rattle.td_types.specs.code.Views.{heading_view, pairs_view}
use Rattle.td_types.specs.code.Pairs.{ArePairs}
use Rattle.td_types.proofs.heading.from_sorted.Given as goal

abbrev pub invariant-loop-name : goal.invariant-loop-name
invariant-loop-name l = (heading_view l.attributes.items ≡ pairs_view l.yielded) × ArePairs (pairs_view l.yielded)
