use Rattle.td_eval.specs.model.TreeValues.{value_of}
use Rattle.td_plan.specs.code.PlansOf.{scope_in}
use Rattle.td_tree.specs.code.TreeViews.{tree_view}
use Rattle.td_tree.specs.model.Trees.{name, restriction}
use Rattle.td_plan.proofs.values.tuples_where.Goals as goal

pub returns : goal.returns
returns g c is =
    let e = restriction (name c.args.relvar.now) (tree_view c.args.condition.now) in
    c.run_valued.ensures (scope_in c.args.env.now) (λ w s. value_of w s e) (c.in_ok-plan.ensures ((tt, c.reveal.ensures.0), (tt, c.reveal.ensures.1)) is.typed.0 is.typed.1) is.gives is.tuples
