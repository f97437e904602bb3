use Rattle.std.proofs.Common.{◌≡◌, false}
use Rattle.std.specs.Io.KnownBytes.{Keeps}
use Rattle.td_engine.proofs.source.IoSourceSource.pull.Given as goal

-- so far nothing was read, and no error broke the source
abbrev pub invariant-loop : goal.invariant-loop
invariant-loop g l = (l.self.gave_up ≡ false) × Keeps (g.R.Read.remaining l.fn.self.reader) (g.R.Read.remaining l.self.reader)
