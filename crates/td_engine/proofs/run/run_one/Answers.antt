use Rattle.std.proofs.Common.{◌≡◌, ℕ, List, None, Option, take, refl, subst}
use Rattle.std.specs.Prelude.{IfNone, IfSome}
use Rattle.std.specs.Io.KnownBytes.{Appends}
use Rattle.td_engine.proofs.law_lemmas.Answered.{parsed_spelled}
use Rattle.td_engine.proofs.code_lemmas.Turning.{turned, turned_cut}
use Rattle.td_engine.proofs.run.run_one.Goals as goal
use Rattle.td_engine.specs.model.Told.{AppendsIfTold}
use Rattle.td_engine.specs.code.Turns.{IsReading}
use Rattle.td_engine.specs.declared.run.Reading.{Reading}
use Rattle.td_tree.specs.model.Statements.{first_statement}

pub carry_out-requires : goal.carry_out-requires
carry_out-requires g c =
    let read = subst (λ (o : Option Reading). IfSome o (λ reading. IsReading c.args.cutter.now reading.parsed reading.end)) c.in-Ok-Some.field-0-is c.in-Ok-Some.ensures.some in
    parsed_spelled read.statement c.in-Ok-Some.reading.parsed read.means

pub returns-in-Ok-None-clause-turn : goal.returns-in-Ok-None-clause-turn
returns-in-Ok-None-clause-turn g c =
    (subst (λ (o : Option Reading). IfNone o (first_statement c.args.cutter.now ≡ None)) c.in-Ok-None.field-0-is c.in-Ok-None.ensures.none, refl)

pub returns-in-Ok-put_bytes-clause-turn : goal.returns-in-Ok-put_bytes-clause-turn
returns-in-Ok-put_bytes-clause-turn g c =
    let read = subst (λ (o : Option Reading). IfSome o (λ reading. IsReading c.args.cutter.now reading.parsed reading.end)) c.in-Ok-Some.field-0-is c.in-Ok-Some.ensures.some in
    let wrote = subst (λ (bytes : List ℕ). Appends (g.W.Sink.taken c.args.writer.now) (g.W.Sink.taken c.put_bytes.new.writer) bytes) c.as_bytes.ensures.value c.in-Ok-put_bytes.ensures.written in
    turned _ _ c.in-Ok-Some.reading.parsed c.in-Ok-Some.reading.end c.in-Ok.answer read c.in-Ok.ensures.step c.take_to.ensures wrote
    c.count.ensures.statements c.count.ensures.refused

pub returns-clause-write : goal.returns-clause-write
returns-clause-write g c =
    let read = subst (λ (o : Option Reading). IfSome o (λ reading. IsReading c.args.cutter.now reading.parsed reading.end)) c.in-Ok-Some.field-0-is c.in-Ok-Some.ensures.some in
    let cut = c.in-Err-put_bytes.ensures.cut in
    let wrote = subst (λ (bytes : List ℕ). AppendsIfTold (g.W.Sink.taken c.args.writer.now) (g.W.Sink.taken c.put_bytes.new.writer) (take cut.0 bytes)) c.as_bytes.ensures.value cut.2 in
    (c.count.ensures.statements, turned_cut _ _ c.in-Ok-Some.reading.parsed c.in-Ok-Some.reading.end c.in-Ok.answer cut.0 read c.in-Ok.ensures.step wrote)
