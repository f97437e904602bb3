use Rattle.std.proofs.Common.{◌≡◌, subst}
use Rattle.std.proofs.lemmas.Result.{IfOk-weaker}
use Rattle.std.specs.Prelude.{IfSome}
use Rattle.td_check.specs.model.StaticTypes.{type_of}
use Rattle.td_tree.specs.model.Outcomes.{Valued}
use Rattle.td_tree.specs.code.TreeViews.{tree_view}
use Rattle.td_types.specs.model.Types.{pack}
use Rattle.td_types.specs.model.Types as types
use Rattle.td_plan.proofs.rewriting.push.is_answered_of.Goals as goal

pub returns-in-Some : goal.returns-in-Some
returns-in-Some g c =
    let d = tree_view c.args.operand.now in
    let static =
    subst (λ o. IfSome o (λ h. type_of c.args.planner.now.scope d ≡ Valued (types.relation (pack h)))) c.in-Some.is c.in_ok-heading.ensures.some in
    IfOk-weaker c.is_answered.result _ _ (λ b given yes. (c.in-Some.heading, given yes d static)) c.is_answered.ensures
