use Rattle.std.proofs.Common.{◌∙◌, ap, subst, sym}
use Rattle.td_plan.specs.code.PlannedParts.{ArePlanned, in_trees}
use Rattle.td_plan.specs.declared.plan.step.Selector.TheVariants as selectors
use Rattle.td_plan.specs.code.Plans as plans
use Rattle.td_plan.specs.code.PlansOf.{IsPlanOfTyped}
use Rattle.td_plan.specs.code.StepViews.{steps_view}
use Rattle.td_plan.proofs.PlannedNodes.{select_planned}
use Rattle.td_plan.proofs.StepRows.{select_is}
use Rattle.td_tree.specs.model.Trees as trees
use Rattle.td_plan.proofs.making.nodes.select_step.Goals as goal

pub returns : goal.returns
returns c = λ scope es all.
    let arguments = c.in_ok-arguments.arguments in
    let ps = steps_view arguments.items in
    subst (λ p. IsPlanOfTyped scope p (trees.select c.args.ty.now es))
    (sym (select_is (selectors.User c.in_ok-try_clone.field-0) arguments ∙ ap (λ n. plans.select (plans.user n) ps) c.in_ok-try_clone.ensures))
    (select_planned scope c.args.ty.now ps es (subst (λ o. ArePlanned scope o (in_trees es)) c.in_ok-arguments.was all))
