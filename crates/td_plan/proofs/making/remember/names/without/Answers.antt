use Rattle.std.proofs.Common.{◌++◌, ◌+◌, ◌∷◌, [], get_or, inl, inr, subst, sym, take}
use Rattle.std.proofs.lemmas.List.{take_all}
use Rattle.std.proofs.lemmas.List.Elements.{Contains-push}
use Rattle.td_plan.proofs.NamedSlots.{but_more, but_next}
use Rattle.td_plan.specs.code.Remembered.{AreAmongBut}
use Rattle.td_plan.proofs.making.remember.names.without.Goals as goal
use Rattle.td_plan.proofs.making.remember.names.without.Goals.{then-name-slot+in_ok-push, else-name-slot}

pub loop-name-preserved : goal.loop-name-preserved
loop-name-preserved c =
    let k = c.args.slot in
    let i = c.loop-name.name-index in
    let n = get_or c.args.names.now i 0 in
    let so_far = c.loop-name.others.items in
    elim c.if-name-slot.branch [
      | then-name-slot+in_ok-push w ↦
          subst (λ ns. AreAmongBut k (take (i + 1) c.args.names.now) ns.items) (sym w.others-is)
          (subst (AreAmongBut k (take (i + 1) c.args.names.now)) (sym w.in_ok-push.ensures.items)
          (but_next k c.args.names.now (so_far ++ (n ∷ [])) i c.loop-name-test.true (but_more k (take i c.args.names.now) so_far n c.loop-name.invariant) (inr (Contains-push so_far n))))
      | else-name-slot w ↦
          subst (λ ns. AreAmongBut k (take (i + 1) c.args.names.now) ns.items) (sym w.others-is)
          (but_next k c.args.names.now so_far i c.loop-name-test.true c.loop-name.invariant (inl w.if-name-slot.false))
    ]

pub returns : goal.returns
returns c = subst (λ ns. AreAmongBut c.args.slot ns c.loop-name.others.items) (take_all c.loop-name.name-index c.args.names.now c.loop-name-test.false) c.loop-name.invariant
