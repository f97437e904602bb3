use Rattle.std.proofs.Common.{◌≡◌, ◌+◌, ◌-◌, ◌≤◌, drop, length}
use Rattle.td_scan.specs.code.Progress.{GoesOn}
use Rattle.td_scan.proofs.reading.past_ordinary.Given as goal

abbrev pub invariant-loop-length : goal.invariant-loop-length
invariant-loop-length l = record {
  read : GoesOn l.fn.reading (record l.fn.reading { count = l.count; start = l.start }) l.bytes;
  place : l.start + length l.rest ≡ l.fn.reading.start + length l.bytes;
  rest : l.rest ≡ drop (l.start - l.fn.reading.start) l.bytes;
  counted : l.count ≤ l.start;
}

abbrev pub decreases-loop-length : goal.decreases-loop-length
decreases-loop-length l = length l.rest
