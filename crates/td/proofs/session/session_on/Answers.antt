use Rattle.std.proofs.Common.{Err, Ok, refl, subst}
use Rattle.td.proofs.session.session_on.Goals as goal
use Rattle.td.specs.model.Sessions.{ScriptPromise}
use Rattle.td_engine.specs.model.Legality.{IsLegalThroughout}
use Rattle.td_engine.specs.model.Machine.{State}
use Rattle.td_engine.specs.model.Promises.{Seen, seen}

pub returns-in-Ok : goal.returns-in-Ok
returns-in-Ok g c =
    let old : State → Seen = λ s. (seen s (g.R.Source.left c.args.reader.now) (g.R.Source.is_broken c.args.reader.now) (g.W.Sink.taken c.args.writer.now) (g.W.Sink.is_broken c.args.writer.now)) in
    let new : Seen = (seen c.run_script-answered.new.engine (g.R.Source.left c.run_script-answered.new.reader) (g.R.Source.is_broken c.run_script-answered.new.reader) (g.W.Sink.taken c.run_script-answered.new.writer) (g.W.Sink.is_broken c.run_script-answered.new.writer)) in
    record {
      state = c.run_script-answered.new.engine;
      result = Ok c.in-Ok.report;
      script = subst (λ (s : State). ScriptPromise c.args.mode c.args.stop (old s) new (Ok c.in-Ok.report)) c.new-engine.ensures c.in-Ok.ensures;
      status_is = c.status_of.ensures;
      fault_is = refl;
      between = subst (λ (s : State). IsLegalThroughout c.args.stop s) c.new-engine.ensures (c.runs_keep_legality.ensures c.args.stop _ c.reveal.ensures);
    }

pub returns-in-Err : goal.returns-in-Err
returns-in-Err g c =
    let old : State → Seen = λ s. (seen s (g.R.Source.left c.args.reader.now) (g.R.Source.is_broken c.args.reader.now) (g.W.Sink.taken c.args.writer.now) (g.W.Sink.is_broken c.args.writer.now)) in
    let new : Seen = (seen c.run_script-answered.new.engine (g.R.Source.left c.run_script-answered.new.reader) (g.R.Source.is_broken c.run_script-answered.new.reader) (g.W.Sink.taken c.run_script-answered.new.writer) (g.W.Sink.is_broken c.run_script-answered.new.writer)) in
    record {
      state = c.run_script-answered.new.engine;
      result = Err c.in-Err.fault;
      script = subst (λ (s : State). ScriptPromise c.args.mode c.args.stop (old s) new (Err c.in-Err.fault)) c.new-engine.ensures c.in-Err.ensures;
      status_is = refl;
      fault_is = refl;
      between = subst (λ (s : State). IsLegalThroughout c.args.stop s) c.new-engine.ensures (c.runs_keep_legality.ensures c.args.stop _ c.reveal.ensures);
    }
