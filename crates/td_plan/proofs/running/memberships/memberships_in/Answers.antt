use Rattle.std.proofs.Common.{◌≡◌, ◌∙◌, ap, sym}
use Rattle.td_plan.proofs.Memberships.{membership_inside}
use Rattle.td_plan.proofs.StepParts.{select_made}
use Rattle.td_plan.specs.code.Plans as plans
use Rattle.td_plan.specs.code.StepViews.{selector_view, step_view, steps_view}
use Rattle.td_tree.specs.model.Outcomes.{Valued}
use Rattle.td_value.specs.model.Values.{relation_value}
use Rattle.td_value.specs.code.Views.{node_view}
use Rattle.td_plan.proofs.running.memberships.memberships_in.Goals as goal

pub returns-in-Tuple : goal.returns-in-Tuple
returns-in-Tuple c = λ ps w sound_left sound_right m.
    let i = c.in-Select in
    let inside = c.args.batch.now.inside.now in
    let left = c.args.left.now in
    let names = c.deref.result.now in
    let parts = c.deref-in-Tuple.result.now in
    let rel = c.deref-in-Tuple-2.result.now in
    let made = select_made left i.parts parts c.deref-in-Tuple.ensures.value i.selector i.is in
    let tuple : step_view left ≡ plans.select (plans.tuple names) (steps_view parts) =
    made.view ∙ ap (λ s. plans.select (selector_view s) (steps_view parts)) c.in-Tuple.is ∙ ap (λ ns. plans.select (plans.tuple ns) (steps_view parts)) (sym c.deref.ensures.value) in
    let value : c.in_ok-value.value.now ≡ relation_value rel = sym c.value.view_is ∙ ap node_view c.in-Rel.is ∙ ap relation_value (sym c.deref-in-Tuple-2.ensures) in
    membership_inside w inside left c.args.right.now names parts rel c.args.batch.now.rows.now c.memberships_of.result tuple
    (λ t. c.in_ok-value.ensures ps w inside t sound_right m ∙ ap Valued value)
    (c.memberships_of.ensures ps w (made.sound ps sound_left) m)
