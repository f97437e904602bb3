use Rattle.std.proofs.Common.{◌≡◌, ◌+◌, ◌-◌, ◌≤◌, drop, length}
use Rattle.td_scan.specs.code.Progress.{GoesOn}
use Rattle.td_scan.proofs.reading.read_on.Given as goal

abbrev pub invariant-loop-so_far : goal.invariant-loop-so_far
invariant-loop-so_far l = record {
  read : GoesOn l.fn.reading l.so_far l.bytes;
  place : l.so_far.start + length l.rest ≡ l.fn.reading.start + length l.bytes;
  rest : l.rest ≡ drop (l.so_far.start - l.fn.reading.start) l.bytes;
  counted : l.so_far.count ≤ l.so_far.start;
}

abbrev pub decreases-loop-so_far : goal.decreases-loop-so_far
decreases-loop-so_far l = length l.rest
