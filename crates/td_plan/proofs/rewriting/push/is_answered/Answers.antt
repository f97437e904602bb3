use Rattle.std.proofs.Common.{◌≡◌, subst}
use Rattle.std.proofs.lemmas.Result.{IfOk-weaker}
use Rattle.td_check.specs.model.StaticTypes.{type_of}
use Rattle.td_plan.specs.code.Fixing.{IsUnfailing}
use Rattle.td_tree.specs.model.Outcomes.{Valued}
use Rattle.td_tree.specs.code.TreeViews.{tree_view}
use Rattle.td_types.specs.model.Types as types
use Rattle.td_plan.proofs.rewriting.push.is_answered.Goals as goal

pub returns : goal.returns
returns g c =
    let e = tree_view c.args.condition.now in
    IfOk-weaker c.has_a_truth_value.result _ _
    (λ b given yes d static.
    let known = subst (λ s. IsUnfailing s e × (type_of s e ≡ Valued types.boolean)) c.in_ok-inner.ensures.scope (given yes) in
    record { operand = static; condition = known.1; unfailing = known.0 })
    c.has_a_truth_value.ensures
