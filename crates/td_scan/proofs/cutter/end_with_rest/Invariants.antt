use Rattle.std.proofs.Common.{◌≡◌, ◌+◌, length}
use Rattle.td_tree.specs.model.Statements.{tokens}
use Rattle.td_scan.specs.code.Progress.{end_of_statement}
use Rattle.td_scan.proofs.cutter.end_with_rest.Given as goal

abbrev pub invariant-loop-found : goal.invariant-loop-found
invariant-loop-found l = record {
  place : l.start + length l.rest ≡ l.offset + length l.bytes;
  so_far : end_of_statement l.finished l.none l.last (tokens l.start l.rest) ≡ end_of_statement l.finished l.none l.so_far (tokens l.offset l.bytes);
}

abbrev pub decreases-loop-found : goal.decreases-loop-found
decreases-loop-found l = length l.rest
