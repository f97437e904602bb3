use Rattle.std.proofs.Common.{sym}
use Rattle.td_plan.proofs.FixedParts.{one_more_among, one_more_named}
use Rattle.td_plan.specs.declared.rewriting.fixed.FixedValue.{FixedValue}
use Rattle.td_types.specs.code.Views.{type_view}
use Rattle.td_plan.proofs.rewriting.narrowed.in_heading_order.Goals as goal

pub loop-place-preserved : goal.loop-place-preserved
loop-place-preserved c =
    let attribute = c.in-Some-take_attribute.attribute in (
      one_more_named (λ (x : FixedValue). x.name) c.loop-place.part.items c.push.new.self.items attribute c.args.heading.now c.loop-place.place c.in-Some.name.now
          (type_view c.in-Some.field-0-1.now) c.in_ok-push.ensures.items c.in-Some-take_attribute.ensures.named (sym c.in-Some.ensures.attribute) c.loop-place.invariant.0,
      one_more_among c.loop-place.part.items c.push.new.self.items c.args.fixed.items attribute c.in_ok-push.ensures.items c.loop-place.invariant.1
          (c.loop-place.invariant.2 attribute c.in-Some-take_attribute.ensures.there),
      λ x there. c.loop-place.invariant.2 x (c.in-Some-take_attribute.ensures.others x there),
    )
