use Rattle.std.proofs.Common.{sym}
use Rattle.td_scan.proofs.RunLaws.{one_is_name}
use Rattle.td_scan.proofs.run.word_kind.Goals as goal

pub returns-then-text-eq1 : goal.returns-then-text-eq1
returns-then-text-eq1 c = sym (one_is_name c.args.text.now c.if-text-eq1.true)
