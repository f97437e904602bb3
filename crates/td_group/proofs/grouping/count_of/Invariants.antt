use Rattle.std.proofs.Common.{◌≡◌, ◌+◌, ◌<◌, ◌^◌, length}
use Rattle.td_algebra.specs.code.Lookups.{partners_in}
use Rattle.td_group.proofs.grouping.count_of.Given as goal

abbrev pub invariant-loop-partner : goal.invariant-loop-partner
invariant-loop-partner l =
    (l.count + length l.partner-iterator ≡ length (partners_in l.fn.lookup l.fn.places l.fn.tuple)) × (length (partners_in l.fn.lookup l.fn.places l.fn.tuple) < 2 ^ 64)
