use Rattle.std.proofs.Common.{subst, sym}
use Rattle.td_plan.specs.code.Narrowing.{AreFixed}
use Rattle.td_tree.specs.code.TreeViews.{tree_view}
use Rattle.td_plan.proofs.making.planning.Planning.fixed_values.Goals as goal

pub returns : goal.returns
returns g c = λ written.
    let e = tree_view c.args.condition.now in
    c.in_ok-put_fixed_values.ensures written e (λ w s is. is)
    (subst (AreFixed c.args.self.now.planner.now.scope c.args.heading.now e) (sym c.new-fixed.ensures.items) tt)
