use Rattle.std.proofs.Common.{◌+◌, ◌∙◌, ap, length}
use Rattle.td_tree.specs.model.Statements.{Held}
use Rattle.td_scan.proofs.TakenLaws.{end_stays}
use Rattle.td.proofs.tests.pieces.see_one.Goals as goal

pub returns : goal.returns
returns c = (
  ap (λ (h : Held). h.finished) c.take_statement.ensures,
  ap (λ (h : Held). h.offset + length h.bytes) c.take_statement.ensures ∙ end_stays c.args.cutter.now,
)
