use Rattle.std.proofs.Common.{◌≡◌, ◌++◌, map}
use Rattle.std.specs.List.{All}
use Rattle.td_algebra.specs.code.Lookups.{partners_in}
use Rattle.td_algebra.specs.code.Pairs.{IsPaired, pair_tuple}
use Rattle.td_algebra.proofs.joins.put_pairs.Given as goal

abbrev pub invariant-loop-partner : goal.invariant-loop-partner
invariant-loop-partner l =
    (l.pairs.0 ≡ l.fn.pairs.0)
    × (l.pairs.1 ++ map (pair_tuple l.fn.pairs.0 l.row) l.partner-iterator
    ≡ l.fn.pairs.1 ++ map (pair_tuple l.fn.pairs.0 l.row) (partners_in l.fn.lookup l.fn.places l.fn.row))
    × All (IsPaired l.fn.pairs.0 l.row) l.partner-iterator
