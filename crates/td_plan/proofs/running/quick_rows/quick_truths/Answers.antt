use Rattle.std.proofs.Common.{◌∙◌, refl, sym}
use Rattle.td_plan.proofs.Granted.{granted, pushed}
use Rattle.td_plan.proofs.QuickRows.{no_rest, part_more}
use Rattle.td_plan.specs.code.QuickInside.{value_inside}
use Rattle.td_value.specs.model.Values.{boolean}
use Rattle.td_plan.proofs.running.quick_rows.quick_truths.Goals as goal

pub loop-rest-init : goal.loop-rest-init
loop-rest-init c = λ ps w sound m. rw (granted c.with_capacity.result c.in_ok-truths.truths _ c.in_ok-truths.ensures.value c.with_capacity.ensures.items) refl

pub loop-rest-preserved : goal.loop-rest-preserved
loop-rest-preserved c = λ ps w sound m.
    let f = value_inside w c.args.batch.now.inside.now c.args.condition.now in
    c.loop-rest.invariant ps w sound m
    ∙ part_more boolean f c.loop-rest.truths.items c.in_ok-found.found.items c.append.new.self.items c.loop-rest.rest.now c.split_at.result.0.now c.split_at.result.1.now c.split_at.ensures.by_index.0
    (c.in_ok-found.ensures ps w sound m) (pushed _ _ c.in_ok-ok.ensures.variant c.append.ensures.items)

pub returns : goal.returns
returns c = λ ps w sound m.
    c.loop-rest.invariant ps w sound m ∙ no_rest boolean (value_inside w c.args.batch.now.inside.now c.args.condition.now) c.loop-rest.truths.items c.loop-rest.rest.now (sym c.is_empty.ensures ∙ c.loop-rest-test.false)
