use Rattle.std.proofs.Common.{◌≡◌, ◌+◌, ◌++◌, ℕ, List, drop}
use Rattle.td_tree.specs.model.Statements.{tokens}
use Rattle.td_scan.proofs.run.blank_length.Given as goal

abbrev pub invariant-loop-index : goal.invariant-loop-index
invariant-loop-index l = (at : ℕ) (later : List ℕ) → tokens at (l.bytes ++ later) ≡ tokens (at + l.index) (drop l.index l.bytes ++ later)
