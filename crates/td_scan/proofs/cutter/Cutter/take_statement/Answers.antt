use Rattle.std.proofs.Common.{sym}
use Rattle.td_scan.proofs.TakenLaws.{after_none}
use Rattle.td_scan.proofs.cutter.Cutter.take_statement.Goals as goal

pub returns-then-awaits : goal.returns-then-awaits
returns-then-awaits c = sym (after_none c.args.self.now (c.awaits.ensures c.if-awaits.true))
