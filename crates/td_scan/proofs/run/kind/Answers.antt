use Rattle.std.proofs.Common.{◌≡◌, Some, ap, subst, sym}
use Rattle.td_tree.specs.declared.token.Kind.TheVariants as kinds
use Rattle.td_tree.specs.model.Pieces.{kind_after}
use Rattle.td_scan.proofs.RunLaws.{one_is_name}
use Rattle.td_scan.proofs.run.kind.Goals as goal

pub returns-in-Word : goal.returns-in-Word
returns-in-Word c =
    subst (λ p. Some kinds.Name ≡ kind_after p c.args.text.now) (sym c.in-Word.is) (ap Some (sym (one_is_name c.args.text.now c.if-text-eq1.true)))
