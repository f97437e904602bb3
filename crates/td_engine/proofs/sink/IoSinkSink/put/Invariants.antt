use Rattle.std.proofs.Common.{◌≡◌, false}
use Rattle.std.specs.Io.KnownBytes.{Keeps}
use Rattle.td_engine.proofs.sink.IoSinkSink.put.Given as goal

-- so far nothing was written, and no error broke the sink
abbrev pub invariant-loop : goal.invariant-loop
invariant-loop g l = (l.self.gave_up ≡ false) × Keeps (g.W.Write.contents l.fn.self.writer) (g.W.Write.contents l.self.writer)
