use Rattle.std.proofs.Common.{◌≡◌, List, ℕ, ◌++◌, false, length}
use Rattle.std.specs.Io.KnownBytes.{Appends}
use Rattle.td_engine.proofs.sink.put_bytes.Given as goal

-- the front is written, and the rest is left
abbrev pub invariant-loop-rest : goal.invariant-loop-rest
invariant-loop-rest g l = (front : List ℕ) × (l.fn.bytes ≡ front ++ l.rest)
    × Appends (g.W.Sink.taken l.fn.writer) (g.W.Sink.taken l.writer) front
    × (g.W.Sink.is_broken l.fn.writer ≡ false → g.W.Sink.is_broken l.writer ≡ false)

abbrev pub decreases-loop-rest : goal.decreases-loop-rest
decreases-loop-rest g l = length l.rest
