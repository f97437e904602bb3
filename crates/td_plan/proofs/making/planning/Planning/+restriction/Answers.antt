use Rattle.std.proofs.Common.{◌∙◌, ap, subst, sym}
use Rattle.std.proofs.lemmas.Result.{IfOk-weaker}
use Rattle.std.specs.Prelude.{IfSome}
use Rattle.td_plan.proofs.Pushed.{stands_planned}
use Rattle.td_plan.specs.code.PlannedParts.{IsPlanned}
use Rattle.td_plan.specs.code.PlansOf.{IsPlanOfTyped}
use Rattle.td_plan.specs.code.Pushing.{MayStandFor, restricted_tree}
use Rattle.td_plan.specs.code.StepViews.{step_view}
use Rattle.td_tree.specs.code.TreeViews.{tree_view}
use Rattle.td_tree.specs.model.Trees as trees
use Rattle.td_plan.proofs.making.planning.Planning.+restriction.Goals as goal

pub where_of-returns-in-Parentheses : goal.where_of-returns-in-Parentheses
where_of-returns-in-Parentheses g t c =
    let is = ap tree_view c.in-Parentheses.is ∙ ap (λ x. trees.parentheses (tree_view x)) (sym c.deref.ensures) in
    subst (λ d. IsPlanned c.args.self.now.planner.now.scope c.where_of.result (trees.restriction d (tree_view c.args.condition.now))) (sym is)
    c.where_of.ensures

pub where_of-returns-in-Some : goal.where_of-returns-in-Some
where_of-returns-in-Some g t c =
    let scope = c.args.self.now.planner.now.scope in
    let e = tree_view c.args.condition.now in
    let l = tree_view c.deref-left.result.now in
    let r = tree_view c.deref-right.result.now in
    let op = c.in-Binary.op in
    let is = ap tree_view c.in-Binary.is ∙ (λ i. trees.binary (tree_view (sym c.deref-left.ensures i)) op (tree_view (sym c.deref-right.ensures i))) in
    let stands =
    subst (λ o. IfSome o (λ k. MayStandFor scope (restricted_tree k l op r e) (trees.restriction (trees.binary l op r) e)))
    c.in-Some.is c.in_ok-restricted-in-Binary.ensures in
    subst (λ d. IsPlanned scope c.pushed_restriction.result (trees.restriction d e)) (sym is)
    (IfOk-weaker c.pushed_restriction.result _ _
    (λ p h. stands_planned scope (step_view p) (restricted_tree c.in-Some.restricted l op r e) (trees.restriction (trees.binary l op r) e) stands h)
    c.pushed_restriction.ensures)

pub pushed_restriction-returns-in-First : goal.pushed_restriction-returns-in-First
pushed_restriction-returns-in-First g t c =
    let scope = c.args.self.now.planner.now.scope in
    let l = tree_view c.args.left.now in
    let r = tree_view c.args.right.now in
    let e = tree_view c.args.condition.now in
    subst (λ k. IsPlanned scope c.dyadic_step.result (restricted_tree k l c.args.op r e)) (sym c.in-First.is)
    (c.dyadic_step.ensures scope (trees.restriction l e) r c.where_pushed-left.ensures c.boxed_step.ensures)

pub pushed_restriction-returns-in-Second : goal.pushed_restriction-returns-in-Second
pushed_restriction-returns-in-Second g t c =
    let scope = c.args.self.now.planner.now.scope in
    let l = tree_view c.args.left.now in
    let r = tree_view c.args.right.now in
    let e = tree_view c.args.condition.now in
    subst (λ k. IsPlanned scope c.dyadic_step-in-Second.result (restricted_tree k l c.args.op r e)) (sym c.in-Second.is)
    (c.dyadic_step-in-Second.ensures scope l (trees.restriction r e) c.boxed_step-left.ensures c.where_pushed.ensures)

pub pushed_restriction-returns-in-Both : goal.pushed_restriction-returns-in-Both
pushed_restriction-returns-in-Both g t c =
    let scope = c.args.self.now.planner.now.scope in
    let l = tree_view c.args.left.now in
    let r = tree_view c.args.right.now in
    let e = tree_view c.args.condition.now in
    subst (λ k. IsPlanned scope c.dyadic_step-in-Both.result (restricted_tree k l c.args.op r e)) (sym c.in-Both.is)
    (c.dyadic_step-in-Both.ensures scope (trees.restriction l e) (trees.restriction r e) c.where_pushed-left-in-Both.ensures c.where_pushed-in-Both.ensures)

pub where_pushed-returns : goal.where_pushed-returns
where_pushed-returns g t c =
    subst (λ s. IsPlanOfTyped c.args.self.now.planner.now.scope (step_view s) (trees.restriction (tree_view c.args.operand.now) (tree_view c.args.condition.now)))
    (sym c.in_ok-new.ensures.ok) c.in_ok-step.ensures
