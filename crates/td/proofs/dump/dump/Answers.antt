use Rattle.td.proofs.Written.{dump_promised, fault_promised}
use Rattle.td.proofs.dump.dump.Goals as goal

pub returns-in-Ok : goal.returns-in-Ok
returns-in-Ok g c =
    dump_promised c.args.stop c.args.engine.now c.run.new.engine _ _ _ _ _ _ _ _ c.in-Ok.report c.in-Ok.ensures c.write_dump.result
    c.write_dump.ensures.written c.write_dump.ensures.whole c.write_dump.ensures.memory c.write_dump.ensures.write c.write_dump.ensures.broken
    c.write_dump.ensures.read c.write_dump.ensures.limit

pub returns-in-Err : goal.returns-in-Err
returns-in-Err g c = fault_promised c.args.stop c.args.engine.now c.run.new.engine _ _ _ _ _ _ c.in-Err.fault c.in-Err.ensures
