use Rattle.std.proofs.Common.{arith}
use Rattle.td_engine.proofs.code_lemmas.GivenChanges.{one_entry}
use Rattle.td_engine.proofs.assignments.only_one.Goals as goal

pub returns-then-len-eq1 : goal.returns-then-len-eq1
returns-then-len-eq1 c = one_entry c.args.given.now.entries c.get_index.result c.get_index.ensures.entry (omega (arith, c.if-len-eq1.true, c.len.ensures.len))
