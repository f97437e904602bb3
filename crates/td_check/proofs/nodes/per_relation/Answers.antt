use Rattle.std.proofs.Common.{◌≡◌, subst}
use Rattle.td_check.specs.code.CheckViews.{per_view}
use Rattle.td_check.specs.model.OperatorTypes.{per_heading}
use Rattle.td_check.proofs.Added.{added_of}
use Rattle.td_tree.specs.model.Outcomes.{Answers, Valued}
use Rattle.td_types.specs.code.Views.{type_view}
use Rattle.td_check.proofs.nodes.per_relation.Goals as goal

pub returns : goal.returns
returns c = λ o a.
    let valued : o ≡ Valued (per_view ((c.in_ok-operand.operand, c.in_ok-operand.items), c.in_ok-operand.per)) = subst (λ r. Answers per_view r o) c.in_ok-operand.was a in
    rw (valued, added_of c.in_ok-operand.operand c.in_ok-heading.heading.now c.in_ok-operand.items c.in_ok-heading.ensures)
    (c.summary_type.ensures (per_heading c.in_ok-heading.heading.now (type_view c.in_ok-operand.per)) c.per_heading.ensures)
