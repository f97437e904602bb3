use Rattle.std.proofs.Common.{◌∙◌, [], ap, refl}
use Rattle.td_tree.specs.model.Statements.{tokens}
use Rattle.td_scan.proofs.ScanLaws.{gathered, gathers}
use Rattle.td_scan.proofs.cutter.statement_of.Goals as goal

pub loop-next-init : goal.loop-next-init
loop-next-init c = record {
  place = refl;
  so_far = ap (λ found. gathered c.args.finished found (tokens c.args.offset c.args.bytes.now)) c.requires.empty
      ∙ gathers c.args.finished [] (tokens c.args.offset c.args.bytes.now) refl;
}
