use Rattle.std.proofs.Common.{sym, subst}
use Rattle.td.proofs.Written.{run_promised}
use Rattle.td.proofs.session.run_script.Goals as goal
use Rattle.td.specs.declared.line.Mode.{Mode}
use Rattle.td.specs.model.Sessions.{ScriptPromise}
use Rattle.td_engine.specs.model.Promises.{Seen, seen}

pub returns-in-Run : goal.returns-in-Run
returns-in-Run g c =
    let old : Seen = (seen c.args.engine.now (g.R.Source.left c.args.reader.now) (g.R.Source.is_broken c.args.reader.now) (g.W.Sink.taken c.args.writer.now) (g.W.Sink.is_broken c.args.writer.now)) in
    let new : Seen = (seen c.run.new.engine (g.R.Source.left c.run.new.reader) (g.R.Source.is_broken c.run.new.reader) (g.W.Sink.taken c.run.new.writer) (g.W.Sink.is_broken c.run.new.writer)) in
    subst (λ (mode : Mode). ScriptPromise mode c.args.stop old new c.run.result) (sym c.in-Run.is) (run_promised c.args.stop old new c.run.result c.run.ensures)

pub returns-in-Dump : goal.returns-in-Dump
returns-in-Dump g c =
    let old : Seen = (seen c.args.engine.now (g.R.Source.left c.args.reader.now) (g.R.Source.is_broken c.args.reader.now) (g.W.Sink.taken c.args.writer.now) (g.W.Sink.is_broken c.args.writer.now)) in
    let new : Seen = (seen c.dump.new.engine (g.R.Source.left c.dump.new.reader) (g.R.Source.is_broken c.dump.new.reader) (g.W.Sink.taken c.dump.new.writer) (g.W.Sink.is_broken c.dump.new.writer)) in
    subst (λ (mode : Mode). ScriptPromise mode c.args.stop old new c.dump.result) (sym c.in-Dump.is) c.dump.ensures
