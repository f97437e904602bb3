use Rattle.std.proofs.Common.{◌≡◌, ◌∙◌, map, subst, sym}
use Rattle.std.specs.Prelude.{IfOk}
use Rattle.td_algebra.specs.model.Operators.{renamed_relation}
use Rattle.td_check.specs.model.OperatorTypes.{renaming_pairs}
use Rattle.td_eval.proofs.code_lemmas.OpHeadings.{given_where}
use Rattle.td_tree.specs.code.TreeViews.{renaming_view}
use Rattle.td_types.specs.model.Headings.{can_rename}
use Rattle.td_eval.proofs.operators.postfix.renamed_value.Goals as goal

pub returns : goal.returns
returns c =
    let pairs : c.deref.result.now ≡ renaming_pairs (map renaming_view c.args.renamings.now) = c.deref.ensures.value ∙ c.in_ok-pairs.ensures in
    let others : c.deref-2.result.now ≡ renaming_pairs (map renaming_view c.args.renamings.now) = c.deref-2.ensures.value ∙ c.in_ok-pairs.ensures in
    given_where _ (renamed_relation (renaming_pairs (map renaming_view c.args.renamings.now)) c.args.rel.now) _
    ((λ j. can_rename (sym pairs j) (sym c.heading.ensures j)) ∙ sym c.in_ok-can_rename.ensures ∙ c.in_ok-fit.ensures.fits)
    (c.as_value.ensures (renamed_relation (renaming_pairs (map renaming_view c.args.renamings.now)) c.args.rel.now)
    (subst (λ ps. IfOk c.rename.result (λ r. r ≡ renamed_relation ps c.args.rel.now)) others c.rename.ensures))
