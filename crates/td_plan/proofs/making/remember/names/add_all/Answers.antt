use Rattle.std.proofs.Common.{◌++◌, ◌+◌, ◌∷◌, [], get_or, subst, sym, take}
use Rattle.std.proofs.lemmas.Bool.{eqb-true}
use Rattle.std.proofs.lemmas.List.{take_all}
use Rattle.std.proofs.lemmas.List.Elements.{Contains-push}
use Rattle.std.specs.List.{Contains}
use Rattle.td_plan.proofs.NamedSlots.{among_itself, among_more, among_next, no_slot}
use Rattle.td_plan.specs.code.Remembered.{AreAmong}
use Rattle.td_plan.proofs.making.remember.names.add_all.Goals as goal
use Rattle.td_plan.proofs.making.remember.names.add_all.Goals.{then-not-contains+in_ok-push, else-not-contains}

pub loop-other-init : goal.loop-other-init
loop-other-init c = (among_itself c.args.names.now.items, no_slot c.args.names.now.items)

pub loop-other-preserved : goal.loop-other-preserved
loop-other-preserved c =
    let i = c.loop-other.other-index in
    let n = get_or c.args.others.now i 0 in
    let so_far = c.loop-other.names.items in
    elim c.if-not-contains.branch [
      | then-not-contains+in_ok-push w ↦
          subst (λ ns. AreAmong c.args.names.now.items ns.items × AreAmong (take (i + 1) c.args.others.now) ns.items) (sym w.names-is)
          (subst (λ ns. AreAmong c.args.names.now.items ns × AreAmong (take (i + 1) c.args.others.now) ns) (sym w.in_ok-push.ensures.items) (
            among_more c.args.names.now.items so_far n c.loop-other.invariant.0,
            among_next c.args.others.now (so_far ++ (n ∷ [])) i c.loop-other-test.true (among_more (take i c.args.others.now) so_far n c.loop-other.invariant.1) (Contains-push so_far n),
          ))
      | else-not-contains w ↦
          subst (λ ns. AreAmong c.args.names.now.items ns.items × AreAmong (take (i + 1) c.args.others.now) ns.items) (sym w.names-is)
          (c.loop-other.invariant.0, among_next c.args.others.now so_far i c.loop-other-test.true c.loop-other.invariant.1 (let h = w.if-not-contains.ensures.cases in subst (λ xs. Contains xs n) c.deref.ensures.value (h.0, h.1, eqb-true _ _ (h.2 n))))
    ]

pub returns : goal.returns
returns c =
    record {
      before = c.loop-other.invariant.0;
      others = subst (λ ns. AreAmong ns c.loop-other.names.items) (take_all c.loop-other.other-index c.args.others.now c.loop-other-test.false) c.loop-other.invariant.1;
    }
