use Rattle.std.proofs.Common.{◌≡◌, refl, subst}
use Rattle.std.proofs.lemmas.Result.{err_from_is_err_and}
use Rattle.td_check.specs.code.CheckViews.{added_view, by_summary}
use Rattle.td_check.specs.model.OperatorTypes.{named_part}
use Rattle.td_check.proofs.Added.{added_of, refused_added}
use Rattle.td_tree.specs.model.Outcomes.{Answers, Valued}
use Rattle.td_tree.specs.code.TreeViews.{attributes_view}
use Rattle.td_check.proofs.nodes.by_attributes.Goals as goal

pub returns-in_err-heading : goal.returns-in_err-heading
returns-in_err-heading c = λ o a.
    let p = err_from_is_err_and c.from_residual-in_err-heading.result c.from_residual-in_err-heading.ensures.1 in
    let valued : o ≡ Valued (added_view (c.in_ok-operand.operand, c.in_ok-operand.items)) = subst (λ r. Answers added_view r o) c.in_ok-operand.was a in
    rw (p.1, p.2, valued)
    (refused_added c.in_ok-operand.operand c.in_ok-operand.items _ (by_summary (attributes_view c.args.by.now)) refl c.in_err-heading.ensures)

pub returns : goal.returns
returns c = λ o a.
    let valued : o ≡ Valued (added_view (c.in_ok-operand.operand, c.in_ok-operand.items)) = subst (λ r. Answers added_view r o) c.in_ok-operand.was a in
    rw (valued, added_of c.in_ok-operand.operand c.in_ok-heading.heading.now c.in_ok-operand.items c.in_ok-heading.ensures)
    (c.summary_type.ensures (named_part (attributes_view c.args.by.now) c.in_ok-heading.heading.now) c.named_part.ensures)
