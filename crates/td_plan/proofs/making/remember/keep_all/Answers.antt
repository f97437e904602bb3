use Rattle.std.proofs.Common.{◌≡◌, ◌∙◌, ◌<◌, ◌++◌, ◌+◌, ◌∷◌, [], ◌≤◌, ap, arith, get_or, length, map, slice_set, subst, sym, take, ℕ}
use Rattle.std.proofs.lemmas.List.{map_more, take_all}
use Rattle.std.specs.Global.{Vec}
use Rattle.td_plan.proofs.EachStep.{each_all, each_next}
use Rattle.td_plan.specs.code.Remembered.{AreEachKept, KeepsPart}
use Rattle.td_plan.proofs.making.remember.keep_all.Goals as goal

pub loop-place-preserved : goal.loop-place-preserved
loop-place-preserved c =
    let i = c.loop-place.place in
    let cur = c.loop-place.step-items in
    let old = c.args.steps.now.items in
    let items = λ (ns : Vec ℕ). ns.items in
    let names = c.index-all-place.result in
    let so_far = map items (take i c.args.all.now) in
    let lengths : length cur ≡ length old = c.loop-place.auto.step-items ∙ ap length c.deref_mut-step-items.ensures.value in
    let within = c.loop-place-test.true in
    let inside : i < length cur = omega (arith, within, c.loop-place.auto.step-items) in
    let beside : i < length c.args.all.now = omega (arith, inside, lengths, c.requires) in
    let more : map items (take (i + 1) c.args.all.now) ≡ so_far ++ (items names ∷ []) =
    map_more items c.args.all.now i names beside ∙ ap (λ v. so_far ++ (items v ∷ [])) (sym c.index-all-place.is) in
    let kept : KeepsPart c.loop-place.places c.keep_part.new.places (items names) c.step-item.result c.keep_part.new.step =
    subst (λ o. KeepsPart c.loop-place.places c.keep_part.new.places (items names) o c.keep_part.new.step) (sym c.step-item.is)
    (subst (λ ns. KeepsPart c.loop-place.places c.keep_part.new.places ns (get_or cur i c.step-item.result) c.keep_part.new.step) c.deref.ensures.value c.in_ok-keep_part.ensures) in
    let next =
    each_next (λ a b ns o x. KeepsPart a b ns o x) c.args.places.now c.loop-place.places c.keep_part.new.places so_far old cur i (items names) c.step-item.result c.keep_part.new.step
    inside lengths c.step-item.is c.loop-place.invariant.1 c.loop-place.invariant.0 kept in
    (subst (λ nss. AreEachKept c.args.places.now c.keep_part.new.places nss (take (i + 1) old) (take (i + 1) (slice_set cur i c.keep_part.new.step))) (sym more) next.0, next.1)

pub returns : goal.returns
returns c =
    let cur = c.loop-place.step-items in
    let old = c.args.steps.now.items in
    let all = c.args.all.now in
    let i = c.loop-place.place in
    let items = λ (ns : Vec ℕ). ns.items in
    let lengths : length cur ≡ length old = c.loop-place.auto.step-items ∙ ap length c.deref_mut-step-items.ensures.value in
    let many = c.deref_mut-step-items.ensures.len in
    let past = c.loop-place-test.false in
    let far : length cur ≤ i = omega (arith, past, c.loop-place.auto.step-items) in
    let beside : length all ≤ i = omega (arith, far, lengths, c.requires) in
    each_all (λ a b ns o x. KeepsPart a b ns o x) c.args.places.now c.loop-place.places (map items all) old cur i c.args.steps.now.len lengths
    (sym (ap length c.deref_mut-step-items.ensures.value) ∙ many) far
    (subst (λ xs. AreEachKept c.args.places.now c.loop-place.places (map items xs) (take i old) (take i cur)) (take_all i all beside) c.loop-place.invariant.0)
