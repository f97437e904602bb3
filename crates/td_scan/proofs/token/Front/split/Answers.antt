use Rattle.std.proofs.Common.{◌∙◌, ap, arith}
use Rattle.td_tree.specs.model.Pieces.{kind_of}
use Rattle.td_tree.specs.model.Symbols.{symbols}
use Rattle.td_scan.proofs.ReadLaws.{next_said}
use Rattle.td_scan.proofs.token.Front.split.Goals as goal

pub invariant_of-token : goal.invariant_of-token
invariant_of-token c = (
  ap (λ text. kind_of (symbols text)) c.split_at.ensures.front ∙ next_said c.args.self.bytes.now c.args.self.first c.requires.next,
  omega (arith, c.requires.room, c.requires.next.within, c.split_at.ensures.front_len),
)
