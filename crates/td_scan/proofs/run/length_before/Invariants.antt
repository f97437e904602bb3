use Rattle.std.proofs.Common.{◌≡◌, ℕ, ◌<◌, false, get_or}
use Rattle.std.specs.Prelude.{◌==◌}
use Rattle.td_scan.proofs.run.length_before.Given as goal

abbrev pub invariant-loop-index : goal.invariant-loop-index
invariant-loop-index l = record {
  ascii : (k : ℕ) → k < l.index → get_or l.bytes k 0 < 128;
  other : (k : ℕ) → k < l.index → (get_or l.bytes k 0 == l.stop) ≡ false;
}
