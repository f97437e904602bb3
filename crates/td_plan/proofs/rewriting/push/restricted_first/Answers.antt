use Rattle.td_plan.proofs.Pushed.{intersect_stands, minus_stands}
use Rattle.td_tree.specs.code.TreeViews.{tree_view}
use Rattle.td_plan.proofs.rewriting.push.restricted_first.Goals as goal

pub returns-then-branch : goal.returns-then-branch
returns-then-branch g c =
    let scope = c.args.planner.now.scope in
    let l = tree_view c.args.left.now in
    let e = tree_view c.args.condition.now in
    let found = c.in_ok-is_answered_of.ensures (c.if-branch.true) in
    record {
      intersect = λ r. intersect_stands scope l r e found.0 found.1;
      minus = λ r. minus_stands scope l r e found.0 found.1;
    }
