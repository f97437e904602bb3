use Rattle.td_plan.proofs.Pushed.{union_stands}
use Rattle.td_tree.specs.code.TreeViews.{tree_view}
use Rattle.td_plan.proofs.rewriting.push.restricted_of_union.Goals as goal

pub returns-then-branch : goal.returns-then-branch
returns-then-branch g c =
    let first = c.in_ok-is_answered_of.ensures (c.if-not-branch.false) in
    let second = c.in_ok-is_answered_of-2.ensures (c.if-branch.true) in
    union_stands c.args.planner.now.scope (tree_view c.args.left.now) (tree_view c.args.right.now) (tree_view c.args.condition.now) first.0 second.0 first.1 second.1
