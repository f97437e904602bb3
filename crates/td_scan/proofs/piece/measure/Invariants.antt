use Rattle.std.proofs.Common.{◌≡◌, ◌+◌, ◌<◌, length}
use Rattle.td_tree.specs.model.Symbols.{symbols}
use Rattle.td_scan.specs.code.Fronts.{end_from, first_end}
use Rattle.td_scan.proofs.piece.measure.Given as goal

abbrev pub invariant-loop-rest : goal.invariant-loop-rest
invariant-loop-rest l = record {
  some : 0 < l.length;
  place : l.length + length l.rest ≡ length l.bytes;
  so_far : end_from l.length l.piece (symbols l.rest) ≡ first_end (symbols l.bytes);
}

abbrev pub decreases-loop-rest : goal.decreases-loop-rest
decreases-loop-rest l = length l.rest
