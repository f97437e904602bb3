use Rattle.std.proofs.Common.{◌∙◌, FitsSigned, ap, map, rules, sym}
use Rattle.std.proofs.lemmas.Int.{to_z-of_z}
use Rattle.std.proofs.lemmas.List.{take_all}
use mir.Syntax.{w64}
use Rattle.std.specs.List.{slice_get}
use Rattle.td_plan.proofs.Granted.{pushed}
use Rattle.td_plan.proofs.QuickRows.{one_more}
use Rattle.td_plan.specs.code.Plans.{value_or}
use Rattle.td_value.specs.model.Values.{Tuple, integer}
use Rattle.td_value.specs.code.Views.{values_of}
use Rattle.td_plan.proofs.running.quick_numbers.attribute_numbers.Goals as goal

pub loop-row-preserved : goal.loop-row-preserved
loop-row-preserved c =
    let f = λ (t : Tuple). value_or (slice_get (values_of t) c.args.place) in
    let fits : FitsSigned w64 c.in_ok-z.z = search rules in
    rw (pushed _ _ c.in_ok-ok.ensures.variant c.push.ensures.items, to_z-of_z w64 c.in_ok-z.z fits)
    (one_more integer f c.args.rows.now c.loop-row.row-index c.row-item.result c.loop-row.numbers.items c.in_ok-z.z c.loop-row-test.true c.row-item.is c.loop-row.invariant
    (c.in_ok-z.ensures (f c.row-item.result) c.lent_value.ensures))

pub returns : goal.returns
returns c =
    ap (map (λ (t : Tuple). value_or (slice_get (values_of t) c.args.place))) (sym (take_all c.loop-row.row-index c.args.rows.now c.loop-row-test.false)) ∙ c.loop-row.invariant
