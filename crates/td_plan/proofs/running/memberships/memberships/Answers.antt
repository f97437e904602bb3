use Rattle.std.proofs.Common.{◌∙◌, ap}
use Rattle.td_plan.proofs.QuickRows.{of_plan}
use Rattle.td_plan.proofs.StepParts.{dyadic_made}
use Rattle.td_plan.specs.declared.plan.step.Dyadic.TheVariants as dyadics
use Rattle.td_tree.specs.declared.operator.Comparison.TheVariants as comparisons
use Rattle.td_value.specs.model.Values.{boolean}
use Rattle.td_plan.proofs.running.memberships.memberships.Goals as goal

pub returns-in-In : goal.returns-in-In
returns-in-In c = λ ps w sound m.
    let i = c.in-Dyadic in
    let made = dyadic_made c.args.condition.now i.left i.right c.deref.result.now c.deref-in-In.result.now i.op (dyadics.Comparison comparisons.In) i.is (c.in-Comparison.is ∙ ap dyadics.Comparison c.in-In.is) c.deref.ensures c.deref-in-In.ensures in
    of_plan boolean w c.args.batch.now.inside.now c.args.condition.now _ c.args.batch.now.rows.now c.memberships_in.result made.view
    (c.memberships_in.ensures ps w (made.sound ps sound).0 (made.sound ps sound).1 m)
