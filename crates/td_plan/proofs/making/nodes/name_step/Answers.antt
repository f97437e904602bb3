use Rattle.std.proofs.Common.{◌∙◌, subst, sym}
use Rattle.td_plan.specs.code.Plans as plans
use Rattle.td_plan.specs.code.PlansOf.{IsPlanOfTyped}
use Rattle.td_plan.proofs.PlannedNames.{attribute_planned, relvar_planned}
use Rattle.td_tree.specs.model.Trees as trees
use Rattle.td_plan.proofs.making.nodes.name_step.Goals as goal

pub returns-in-Some : goal.returns-in-Some
returns-in-Some g c =
    attribute_planned c.args.planner.now.scope c.args.name.now c.in-Some.slot c.in-Some.place (sym c.attribute_place.ensures ∙ c.in-Some.is)

pub returns-in_ok-try_clone-in-None : goal.returns-in_ok-try_clone-in-None
returns-in_ok-try_clone-in-None g c =
    let scope = c.args.planner.now.scope in
    let n = c.args.name.now in
    subst (λ m. IsPlanOfTyped scope (plans.relvar m) (trees.name n)) (sym c.in_ok-try_clone-in-None.ensures)
    (relvar_planned scope n (sym c.attribute_place.ensures ∙ c.in-None.is))
