use Rattle.std.proofs.Common.{◌≡◌, ◌&&◌, nat_lt, false, None}
use Rattle.td_engine.proofs.code_lemmas.Endings.{Streamed}
use Rattle.td_engine.proofs.run.run_within.Given as goal
use Rattle.td_engine.specs.model.Legality.{IsLegalState}
use Rattle.td_engine.specs.model.Standing.{standing}
use Rattle.td_engine.specs.code.Turns.{place_at}
use Rattle.td_tree.specs.model.Statements.{first_statement}

-- what was given so far was run as far as its statements are whole
abbrev pub invariant-pieces : goal.invariant-pieces
invariant-pieces g l = Streamed l.limit l.room l.stop (standing l.fn.engine (g.W.Sink.taken l.fn.writer))
    (g.R.Source.left l.fn.reader) (g.R.Source.left l.reader) (place_at l.cutter (standing l.engine (g.W.Sink.taken l.writer)) l.report)
    × (l.cutter.finished ≡ false)
    × ((l.stop && nat_lt 0 l.report.refused) ≡ false → first_statement l.cutter ≡ None)
    × (g.R.Source.is_broken l.fn.reader ≡ false → g.R.Source.is_broken l.reader ≡ false)
    × IsLegalState l.engine
    × (g.W.Sink.is_broken l.fn.writer ≡ false → g.W.Sink.is_broken l.writer ≡ false)

abbrev pub decreases-pieces : goal.decreases-pieces
decreases-pieces g l = l.room
