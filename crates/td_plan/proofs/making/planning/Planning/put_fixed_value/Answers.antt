use Rattle.std.proofs.Common.{◌≡◌, ◌∙◌, ap, subst, sym}
use Rattle.td_plan.proofs.FixedValues.{one_fixed, one_more_fixed}
use Rattle.td_plan.specs.code.Fixing.{MayFix}
use Rattle.td_plan.specs.code.Narrowing.{AreFixed}
use Rattle.td_plan.specs.code.StepViews.{step_view}
use Rattle.td_tree.specs.code.TreeViews.{tree_view}
use Rattle.td_tree.specs.model.Trees as trees
use Rattle.td_plan.proofs.making.planning.Planning.put_fixed_value.Goals as goal

pub returns : goal.returns
returns g c = λ written e same all.
    let scope = c.args.self.now.planner.now.scope in
    let h = c.args.heading.now in
    let x = tree_view c.args.value.now in
    let n = c.in_ok-name.name in
    let p = c.in_ok-value.value in
    let is : tree_view c.args.operand.now ≡ trees.name n = ap tree_view c.in-Name.is ∙ ap trees.name (sym c.in_ok-name.ensures) in
    let may = subst (λ n. MayFix scope h n x) (sym c.in_ok-name.ensures) (c.in_ok-may_fix.ensures (c.if-not-branch.false)) in
    subst (AreFixed scope h e) (sym c.in_ok-push.ensures.items)
    (one_more_fixed scope h e c.args.fixed.now.items (record { name = n; value = p }) all
    (one_fixed scope h n x may written (step_view p) c.in_ok-value.ensures e (tree_view c.args.operand.now) is same))
