use Rattle.std.proofs.Common.{◌∙◌, ap, refl}
use Rattle.td_plan.proofs.BoundRuns.{item_kept}
use Rattle.td_plan.proofs.Granted.{granted, if_granted}
use Rattle.td_plan.specs.code.Plans.{with_slot}
use Rattle.td_plan.specs.code.Hands.{slots_in}
use Rattle.td_value.specs.code.Views.{values_of}
use Rattle.td_plan.proofs.running.quick_bound.put_kept.Goals as goal

pub returns : goal.returns
returns c =
    let slot = c.args.slot in
    let s = slots_in c.args.rows.now.items in
    let copy = granted c.try_clone.result c.in_ok-copy.copy _ c.in_ok-copy.ensures.value c.try_clone.ensures in
    if_granted c.put.result c.ok-2.result c.ok-2.ensures.value (λ _ there ps w sound m.
    item_kept ps w slot s c.args.item.now c.in_ok-tuple.tuple.now c.put.new.rows.items c.args.memo.now
    (c.in_ok-tuple.ensures ps w s sound (m s (λ j l. refl)))
    (there ∙ ap (λ t. with_slot slot (values_of t) s) copy) m)
    c.put.ensures
