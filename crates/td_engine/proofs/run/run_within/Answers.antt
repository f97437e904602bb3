use Rattle.std.proofs.Common.{rules, ◌≡◌, ◌∙◌, ◌-◌, ℕ, List, [], Option, ap, false, true, refl, sym, subst}
use Rattle.td_engine.proofs.code_lemmas.Advances.{none_at_first}
use Rattle.td_engine.proofs.code_lemmas.Endings.{Streamed, at_refusal, at_the_end, ended_in_held, ended_in_piece, ended_well, fed_end, some_of, streamed_fed, streamed_first, streamed_on}
use Rattle.td_engine.proofs.run.run_within.Goals as goal
use Rattle.td_engine.specs.model.Standing.{Standing, standing}
use Rattle.td_engine.specs.code.Turns.{RunPlace, place_at}
use Rattle.td_engine.specs.declared.run.Report.{Report}
use Rattle.td_tree.specs.model.Statements.{Held, first_statement}

pub pieces-init : goal.pieces-init
pieces-init g c =
    let before : Standing = standing c.args.engine.now (g.W.Sink.taken c.args.writer.now) in
    let from : Option (List ℕ) = g.R.Source.left c.args.reader.now in (
      subst (λ (held : Held). Streamed c.args.limit c.args.limit c.args.stop before from from (place_at held before c.new-report.result)) (sym c.new-cutter.ensures)
          (subst (λ (report : Report). Streamed c.args.limit c.args.limit c.args.stop before from from
          (place_at (record { bytes = []; offset = 0; finished = false }) before report)) (sym c.new-report.ensures)
          (streamed_first c.args.limit c.args.stop before from)),
      ap (λ (held : Held). held.finished) c.new-cutter.ensures,
      λ h. ap first_statement c.new-cutter.ensures ∙ none_at_first,
      λ h. h,
      search rules,
      λ h. h,
    )

pub returns-in-Err : goal.returns-in-Err
returns-in-Err g c =
    let goes = sym c.is_over.ensures ∙ c.pieces-test.true in
    ended_in_piece c.args.limit c.pieces.room c.args.stop _ _ _ _ c.pieces.invariant.0 c.pieces.invariant.1 refl goes (c.pieces.invariant.2 goes)
    c.pieces.invariant.4 (c.runs_keep_legality.ensures c.args.stop c.args.engine.now c.reveal.ensures)
    c.in-Err.fault c.in-Err.ensures.memory c.in-Err.ensures.read c.in-Err.ensures.limit c.in-Err.ensures.write

pub returns-in-Err-run_held : goal.returns-in-Err-run_held
returns-in-Err-run_held g c =
    let old : RunPlace = place_at c.pieces.cutter (standing c.pieces.engine (g.W.Sink.taken c.pieces.writer)) c.pieces.report in
    let new : RunPlace = place_at c.read_piece.new.cutter (standing c.pieces.engine (g.W.Sink.taken c.pieces.writer)) c.pieces.report in
    let s = streamed_fed c.args.limit c.pieces.room c.args.stop _ _ _ _ old new c.in-Ok.count (c.pieces.room - c.in-Ok.count) c.pieces.invariant.0 c.pieces.invariant.1
    c.in-Ok.ensures.fed c.in-Ok.ensures.fits refl refl refl in
    ended_in_held c.args.limit (c.pieces.room - c.in-Ok.count) c.args.stop _ _ new s (fed_end _ _ _ _ c.in-Ok.count c.in-Ok.ensures.fed)
    (c.in-Err-run_held.ensures.legal c.pieces.invariant.4) (c.runs_keep_legality.ensures c.args.stop c.args.engine.now c.reveal.ensures)
    c.in-Err-run_held.fault c.in-Err-run_held.ensures.memory c.in-Err-run_held.ensures.write c.in-Err-run_held.ensures.broken
    c.in-Err-run_held.ensures.read c.in-Err-run_held.ensures.limit

pub returns-then-count-eq0 : goal.returns-then-count-eq0
returns-then-count-eq0 g c =
    let old : RunPlace = place_at c.pieces.cutter (standing c.pieces.engine (g.W.Sink.taken c.pieces.writer)) c.pieces.report in
    let new : RunPlace = place_at c.read_piece.new.cutter (standing c.pieces.engine (g.W.Sink.taken c.pieces.writer)) c.pieces.report in
    let last : RunPlace = place_at c.run_held.new.cutter (standing c.run_held.new.engine (g.W.Sink.taken c.run_held.new.writer)) c.run_held.new.report in
    let s = streamed_fed c.args.limit c.pieces.room c.args.stop _ _ _ _ old new c.in-Ok.count (c.pieces.room - c.in-Ok.count) c.pieces.invariant.0 c.pieces.invariant.1
    c.in-Ok.ensures.fed c.in-Ok.ensures.fits refl refl refl in
    let end = c.in-Ok.ensures.fed.none c.if-count-eq0.true in
    ended_well c.args.limit c.args.stop _ _ _
    (at_the_end c.args.limit (c.pieces.room - c.in-Ok.count) c.args.stop _ _ _ last
    (streamed_on c.args.limit (c.pieces.room - c.in-Ok.count) c.args.stop _ _ _ new last s c.in-Ok-run_held.ensures.advanced)
    (λ f. end.1) (c.in-Ok-run_held.ensures.advanced.finished_is ∙ end.0) c.in-Ok-run_held.ensures.all)
    (λ h. c.in-Ok.ensures.whole ∙ c.pieces.invariant.3 h) (λ h. c.in-Ok-run_held.ensures.whole (c.pieces.invariant.5 h))
    (c.in-Ok-run_held.ensures.legal c.pieces.invariant.4) (c.runs_keep_legality.ensures c.args.stop c.args.engine.now c.reveal.ensures)

pub pieces-preserved : goal.pieces-preserved
pieces-preserved g c =
    let old : RunPlace = place_at c.pieces.cutter (standing c.pieces.engine (g.W.Sink.taken c.pieces.writer)) c.pieces.report in
    let new : RunPlace = place_at c.read_piece.new.cutter (standing c.pieces.engine (g.W.Sink.taken c.pieces.writer)) c.pieces.report in
    let last : RunPlace = place_at c.run_held.new.cutter (standing c.run_held.new.engine (g.W.Sink.taken c.run_held.new.writer)) c.run_held.new.report in
    let s = streamed_fed c.args.limit c.pieces.room c.args.stop _ _ _ _ old new c.in-Ok.count (c.pieces.room - c.in-Ok.count) c.pieces.invariant.0 c.pieces.invariant.1
    c.in-Ok.ensures.fed c.in-Ok.ensures.fits refl refl refl in (
      streamed_on c.args.limit (c.pieces.room - c.in-Ok.count) c.args.stop _ _ _ new last s c.in-Ok-run_held.ensures.advanced,
      c.in-Ok-run_held.ensures.advanced.finished_is ∙ c.in-Ok.ensures.fed.more (some_of c.in-Ok.count c.if-count-eq0.false),
      c.in-Ok-run_held.ensures.all,
      λ h. c.in-Ok.ensures.whole ∙ c.pieces.invariant.3 h,
      c.in-Ok-run_held.ensures.legal c.pieces.invariant.4,
      λ h. c.in-Ok-run_held.ensures.whole (c.pieces.invariant.5 h),
    )

pub returns : goal.returns
returns g c =
    ended_well c.args.limit c.args.stop _ _ _
    (at_refusal c.args.limit c.pieces.room c.args.stop _ _ _ _ c.pieces.invariant.0 (λ f. absurd (let wrong : false ≡ true = sym c.pieces.invariant.1 ∙ f in cc))
    (sym c.is_over.ensures ∙ c.pieces-test.false) c.pieces.invariant.1)
    c.pieces.invariant.3 c.pieces.invariant.5 c.pieces.invariant.4 (c.runs_keep_legality.ensures c.args.stop c.args.engine.now c.reveal.ensures)
