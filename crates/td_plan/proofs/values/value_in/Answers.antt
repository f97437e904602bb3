use Rattle.td_eval.specs.model.TreeValues.{value_of}
use Rattle.td_plan.specs.code.PlansOf.{scope_in}
use Rattle.td_tree.specs.code.TreeViews.{tree_view}
use Rattle.td_plan.proofs.values.value_in.Goals as goal

pub returns : goal.returns
returns g c is =
    let e = tree_view c.args.expr.now in
    c.run_valued.ensures (scope_in c.args.env.now) (λ w s. value_of w s e) (c.in_ok-plan.ensures is.typed.0 is.typed.1) is.gives is.tuples
