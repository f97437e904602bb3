use Rattle.std.proofs.Common.{◌≡◌, ◌+◌, length}
use Rattle.td.proofs.tests.pieces.see_all.Given as goal

abbrev pub invariant-loop : goal.invariant-loop
invariant-loop l = record {
  finished : l.cutter.finished ≡ l.fn.cutter.finished;
  end : l.cutter.offset + length l.cutter.bytes ≡ l.fn.cutter.offset + length l.fn.cutter.bytes;
}
