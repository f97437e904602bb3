use Rattle.std.proofs.Common.{◌≡◌, ◌+◌, ◌≤◌, length}
use Rattle.td_tree.specs.model.Statements.{tokens}
use Rattle.td_scan.proofs.token.by_pieces.Given as goal

abbrev pub invariant-loop-bytes : goal.invariant-loop-bytes
invariant-loop-bytes l = record {
  place : l.start + length l.bytes ≡ l.offset + length l.fn.bytes;
  shorter : length l.bytes ≤ length l.fn.bytes;
  so_far : tokens l.start l.bytes ≡ tokens l.offset l.fn.bytes;
}

abbrev pub decreases-loop-bytes : goal.decreases-loop-bytes
decreases-loop-bytes l = length l.bytes
