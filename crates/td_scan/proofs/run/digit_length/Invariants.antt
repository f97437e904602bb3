use Rattle.std.proofs.Common.{◌≡◌, ℕ, ◌<◌, get_or, true}
use Rattle.std.specs.Char.{is_ascii_digit}
use Rattle.td_scan.proofs.run.digit_length.Given as goal

abbrev pub invariant-loop-index : goal.invariant-loop-index
invariant-loop-index l = (k : ℕ) → k < l.index → is_ascii_digit (get_or l.bytes k 0) ≡ true
