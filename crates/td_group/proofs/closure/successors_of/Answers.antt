use Rattle.std.proofs.Common.{◌∙◌, ◌++◌, ap, arith, subst}
use Rattle.std.proofs.lemmas.List.{take_all}
use Rattle.td_group.specs.code.Successors.{AreSuccessors, led_to, ends_of}
use Rattle.td_group.proofs.Tables.{flat_more}
use Rattle.td_group.proofs.closure.successors_of.Goals as goal

pub loop-row-preserved : goal.loop-row-preserved
loop-row-preserved c = λ v.
    c.in_ok-put_row.ensures v ∙ ap (λ vs. vs ++ led_to v (ends_of c.row-item.result)) (c.loop-row.invariant v)
    ∙ flat_more (λ t. led_to v (ends_of t)) c.args.rows.now c.loop-row.row-index c.row-item.result (omega (arith, c.loop-row-test.true)) c.row-item.is

pub returns : goal.returns
returns c = subst (λ ts. AreSuccessors ts c.loop-row.table) (take_all c.loop-row.row-index c.args.rows.now c.loop-row-test.false) c.loop-row.invariant
