use Rattle.std.proofs.Common.{refl, subst, sym, true}
use Rattle.std.specs.Prelude.{IfOk}
use Rattle.td_plan.specs.code.PlannedParts.{item_tree}
use Rattle.td_plan.specs.code.PlansOf.{IsPlanOfTyped}
use Rattle.td_plan.specs.code.StepViews.{step_view}
use Rattle.td_plan.specs.declared.plan.step.Step.TheVariants as variants
use Rattle.td_tree.specs.model.Trees as trees
use Rattle.td_plan.proofs.making.planning.Planning.item_step.Goals as goal

pub returns-in-Count : goal.returns-in-Count
returns-in-Count g c =
    let scope = c.args.self.now.planner.now.scope in
    subst (λ x. IsPlanOfTyped scope (step_view (variants.Constant c.bool.result)) (item_tree x)) (sym c.in-Count.is)
    (subst (λ v. IsPlanOfTyped scope (step_view (variants.Constant v)) (trees.literal (trees.truth true))) (sym c.bool.ensures)
    (λ written t typed w s slots k hand f. refl))

pub returns-in-Of : goal.returns-in-Of
returns-in-Of g c =
    subst (λ x. IfOk c.step_of.result (λ p. IsPlanOfTyped c.args.self.now.planner.now.scope (step_view p) (item_tree x))) (sym c.in-Of.is) c.step_of.ensures
