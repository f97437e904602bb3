use Rattle.std.proofs.Common.{inl, inr, ℕ, arith, map, subst}
use Rattle.std.proofs.lemmas.Bool.{cases_lt}
use Rattle.std.specs.Global.{Vec}
use Rattle.td_plan.proofs.NamedSlots.{all_among_more}
use Rattle.td_plan.specs.code.Remembered.{AreAmongBefore, AreBefore, AreOutside}
use Rattle.td_plan.proofs.making.remember.bound_names.Goals as goal

pub returns : goal.returns
returns c =
    let slot = c.args.slot in
    let each = map (λ (ns : Vec ℕ). ns.items) c.args.each.now in
    let all = c.in_ok-all.all.items in
    let outer = c.in_ok-outer.outer.items in
    let inner = c.in_ok-inner.inner.items in
    let names = c.in_ok-names.names.items in
    let reach = c.reach_of-reach.result in
    let among : AreAmongBefore slot all outer = subst (λ ns. AreAmongBefore slot ns outer) c.deref.ensures.value c.in_ok-outer.ensures in
    let outside : AreOutside reach slot all = λ low j there.
    let fits = c.ranges.slot in
    let before : AreBefore reach outer = subst (AreBefore reach) c.deref-2.ensures.value (c.reach_of-reach.ensures (omega (arith, low, fits))) in
    elim (cases_lt j slot) [ inl less ↦ inl (before j (among j there less)) | inr past ↦ inr past ] in
    record {
      together = (
        inner,
        all_among_more each all inner c.in_ok-all.ensures c.in_ok-inner.ensures.first,
        c.in_ok-inner.ensures.second,
        subst (λ ns. AreAmongBefore slot ns names) c.deref-3.ensures.value c.in_ok-names.ensures,
      );
      apart = (all, c.in_ok-all.ensures, outside);
    }
