use Rattle.std.proofs.Common.{◌≡◌, ◌+◌, ◌≤◌, false, length}
use Rattle.td_engine.proofs.run.run_held.Given as goal
use Rattle.td_engine.specs.model.Legality.{IsLegalState}
use Rattle.td_engine.specs.model.Scripts.{script_limit}
use Rattle.td_engine.specs.model.Standing.{standing}
use Rattle.td_engine.specs.code.Turns.{Advanced, place_at}

-- statements were run up to here
abbrev pub invariant-statements : goal.invariant-statements
invariant-statements g l = Advanced l.stop (place_at l.fn.cutter (standing l.fn.engine (g.W.Sink.taken l.fn.writer)) l.fn.report)
    (place_at l.cutter (standing l.engine (g.W.Sink.taken l.writer)) l.report)
    × (l.report.statements + length l.cutter.bytes ≤ script_limit)
    × (l.report.refused ≤ l.report.statements)
    × (IsLegalState l.fn.engine → IsLegalState l.engine)
    × (g.W.Sink.is_broken l.fn.writer ≡ false → g.W.Sink.is_broken l.writer ≡ false)

abbrev pub decreases-statements : goal.decreases-statements
decreases-statements g l = length l.cutter.bytes
