use Rattle.std.proofs.Common.{◌≡◌, ◌+◌, length}
use Rattle.td_tree.specs.model.Division.{up_to}
use Rattle.td_tree.specs.model.Statements.{statement_or_rest, ends, tokens}
use Rattle.td_scan.proofs.ScanLaws.{gathered}
use Rattle.td_scan.proofs.cutter.statement_of.Given as goal

abbrev pub invariant-loop-next : goal.invariant-loop-next
invariant-loop-next l = record {
  place : l.start + length l.rest ≡ l.offset + length l.bytes;
  so_far : gathered l.finished l.found.items (tokens l.start l.rest) ≡ statement_or_rest l.finished (tokens l.offset l.bytes) (up_to ends (tokens l.offset l.bytes));
}

abbrev pub decreases-loop-next : goal.decreases-loop-next
decreases-loop-next l = length l.rest
