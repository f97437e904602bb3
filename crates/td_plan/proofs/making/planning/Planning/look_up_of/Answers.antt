use Rattle.td_tree.specs.code.TreeViews.{tree_view}
use Rattle.td_plan.proofs.making.planning.Planning.look_up_of.Goals as goal

pub returns : goal.returns
returns g c =
    c.look_up_by_key.ensures c.args.self.now.planner.now.scope (tree_view c.args.operand.now) c.requires.inner c.in-Some.ensures.means c.in-Some.ensures.base
    c.fixed_values-fixed.ensures
