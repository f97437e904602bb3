use Rattle.std.proofs.Common.{◌∙◌, ap, sym}
use Rattle.td_catalog.proofs.KeyNames.{key_with, key_without}
use Rattle.td_catalog.proofs.keys.ordered_key.Goals as goal
use Rattle.td_catalog.proofs.keys.ordered_key.Goals.{then-is_among+in_ok-try_clone+in_ok-push, else-is_among}

pub loop-place-preserved : goal.loop-place-preserved
loop-place-preserved c =
    let h = c.args.heading.now in
    let key = c.args.key.now in
    elim c.if-is_among.branch [
      | then-is_among+in_ok-try_clone+in_ok-push w ↦
          key_with h key c.loop-place.place _ c.in-Some.ensures.attribute c.loop-place.names.items c.loop-place.invariant c.if-is_among.names.items
          w.in_ok-try_clone.field-0 (sym c.is_among.ensures ∙ w.if-is_among.true) w.in_ok-try_clone.ensures (ap (λ v. v.items) w.names-is ∙ w.in_ok-push.ensures.items)
      | else-is_among w ↦
          ap (λ v. v.items) w.names-is
          ∙ key_without h key c.loop-place.place _ c.in-Some.ensures.attribute c.loop-place.names.items c.loop-place.invariant (sym c.is_among.ensures ∙ w.if-is_among.false)
    ]
