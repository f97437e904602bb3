use Rattle.std.proofs.Common.{◌≡◌, ◌∙◌, ap, sym}
use Rattle.td_plan.proofs.PartnerValues.{found_then, value_of_related}
use Rattle.td_plan.specs.code.Plans as plans
use Rattle.td_plan.specs.code.Hands.{world_around}
use Rattle.td_plan.specs.code.Partners.{value_beside}
use Rattle.td_plan.specs.code.StepViews.{dyadic_view, step_view}
use Rattle.td_tree.specs.model.Trees.{only, project}
use Rattle.td_plan.proofs.running.partners.value_by_key.Goals as goal

pub returns-in-Relvar : goal.returns-in-Relvar
returns-in-Relvar g c =
    let left = value_of_related c.args.left.now c.in-Ok.rel.now c.in-Ok.ensures in
    let op = dyadic_view c.args.op in
    found_then _ _ c.value_beside_relvar.result
    (λ v h s. (λ i. value_beside (world_around c.args.around.now) s (left i) op (step_view (c.in-Relvar.is i))) ∙ h)
    c.value_beside_relvar.ensures

pub returns-in-Relvar-deref : goal.returns-in-Relvar-deref
returns-in-Relvar-deref g c =
    let left = value_of_related c.args.left.now c.in-Ok.rel.now c.in-Ok.ensures in
    let op = dyadic_view c.args.op in
    let operand = sym c.deref.ensures ∙ c.in-Relvar-deref.is in
    let right : step_view c.args.right.now ≡ plans.monadic (plans.postfix (project (only c.in-Some.names.now))) (plans.relvar c.in-Relvar-deref.name) =
    ap step_view c.in-Monadic.is ∙ (λ i. plans.monadic (c.in-Some.ensures i) (step_view (operand i))) in
    found_then _ _ c.value_beside_projection.result
    (λ v h s. (λ i. value_beside (world_around c.args.around.now) s (left i) op (right i)) ∙ h)
    c.value_beside_projection.ensures
