use Rattle.std.proofs.Common.{◌≡◌, ◌+◌, ◌-◌, ◌≤◌, ◌++◌, ℕ, List, drop, length}
use Rattle.td_tree.specs.model.Symbols.{symbols}
use Rattle.td_scan.specs.code.Fronts.{end_from}
use Rattle.td_scan.proofs.reading.go_on.Given as goal

abbrev pub invariant-loop-behind : goal.invariant-loop-behind
invariant-loop-behind l = record {
  longer : l.fn.begun.length ≤ l.length;
  place : l.length + length l.rest ≡ l.fn.begun.length + length l.bytes;
  rest : l.rest ≡ drop (l.length - l.fn.begun.length) l.bytes;
  so_far : (later : List ℕ) → end_from l.fn.begun.length l.fn.begun.piece (symbols (l.bytes ++ later)) ≡ end_from l.length l.piece (symbols (l.rest ++ later));
}

abbrev pub decreases-loop-behind : goal.decreases-loop-behind
decreases-loop-behind l = length l.rest
