use Rattle.std.proofs.Common.{subst, sym}
use Rattle.td_plan.specs.code.Quick.{AreInRows}
use Rattle.td_plan.specs.code.QuickInside.{value_inside}
use Rattle.td_value.specs.model.Values.{integer}
use Rattle.td_plan.proofs.running.quick_rows.quick_comparisons.Goals as goal

pub returns : goal.returns
returns c = λ ps w left right m.
    let rows = c.args.batch.now.rows.now in
    let f = value_inside w c.args.batch.now.inside.now c.args.left.now in
    let g = value_inside w c.args.batch.now.inside.now c.args.right.now in
    c.comparisons_of_both.ensures f g rows
    (subst (AreInRows integer f rows) (sym c.deref.ensures.value) (c.in_ok-left.ensures ps w left m))
    (subst (AreInRows integer g rows) (sym c.deref-2.ensures.value) (c.in_ok-right.ensures ps w right m))
