use Rattle.std.proofs.Common.{◌∙◌, sym, arith}
use Rattle.td_engine.proofs.code_lemmas.Advances.{advances, stays}
use Rattle.td_engine.proofs.code_lemmas.Turning.{turned_fewer, turned_refused, was_turned}
use Rattle.td_engine.proofs.run.run_held.Goals as goal
use Rattle.td_engine.specs.model.Standing.{standing}
use Rattle.td_engine.specs.code.Turns.{RunPlace, place_at}

pub returns-then-awaits-clause-advanced : goal.returns-then-awaits-clause-advanced
returns-then-awaits-clause-advanced g c =
    stays c.args.stop (place_at c.args.cutter.now (standing c.args.engine.now (g.W.Sink.taken c.args.writer.now)) c.args.report.now)

pub statements-init : goal.statements-init
statements-init g c = (
  stays c.args.stop (place_at c.args.cutter.now (standing c.args.engine.now (g.W.Sink.taken c.args.writer.now)) c.args.report.now),
  c.requires.statements,
  c.requires.refused,
  λ h. h,
  λ h. h,
)

pub statements-smaller : goal.statements-smaller
statements-smaller g c =
    let old : RunPlace = place_at c.statements.cutter (standing c.statements.engine (g.W.Sink.taken c.statements.writer)) c.statements.report in
    let new : RunPlace = place_at c.run_one.new.cutter (standing c.run_one.new.engine (g.W.Sink.taken c.run_one.new.writer)) c.run_one.new.report in
    let t = was_turned old new _ c.in-Ok-true.ensures.turn c.in-Ok-true.field-0-test in
    omega (arith, turned_fewer old new t)

pub statements-preserved : goal.statements-preserved
statements-preserved g c =
    let from : RunPlace = place_at c.args.cutter.now (standing c.args.engine.now (g.W.Sink.taken c.args.writer.now)) c.args.report.now in
    let old : RunPlace = place_at c.statements.cutter (standing c.statements.engine (g.W.Sink.taken c.statements.writer)) c.statements.report in
    let new : RunPlace = place_at c.run_one.new.cutter (standing c.run_one.new.engine (g.W.Sink.taken c.run_one.new.writer)) c.run_one.new.report in
    let t = was_turned old new _ c.in-Ok-true.ensures.turn c.in-Ok-true.field-0-test in
    let before = c.statements.invariant in
    let goes = sym c.is_over.ensures ∙ c.statements-test.true in (
      advances c.args.stop from old new before.0 goes t,
      omega (arith, before.1, turned_fewer old new t, t.statements_are),
      turned_refused old new t before.2,
      λ h. c.in-Ok-true.ensures.legal (before.3 h),
      λ h. c.in-Ok-true.ensures.whole (before.4 h),
    )
