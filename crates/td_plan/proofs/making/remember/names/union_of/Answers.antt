use Rattle.std.proofs.Common.{◌++◌, ◌+◌, ◌∷◌, [], ap, map, subst, sym, take, ◌∙◌, ◌≡◌, ℕ}
use Rattle.std.proofs.lemmas.List.{map_more, take_all}
use Rattle.std.specs.Global.{Vec}
use Rattle.td_plan.proofs.NamedSlots.{all_among_next}
use Rattle.td_plan.specs.code.Remembered.{AreAllAmong, AreAmong}
use Rattle.td_plan.proofs.making.remember.names.union_of.Goals as goal

pub loop-some-preserved : goal.loop-some-preserved
loop-some-preserved c =
    let i = c.loop-some.some-index in
    let items = λ (ns : Vec ℕ). ns.items in
    let x = c.some-item.result in
    let so_far = map items (take i c.args.all.now) in
    let more : map items (take (i + 1) c.args.all.now) ≡ so_far ++ (x.items ∷ []) =
    map_more items c.args.all.now i x c.loop-some-test.true ∙ ap (λ v. so_far ++ (items v ∷ [])) (sym c.some-item.is) in
    subst (λ nss. AreAllAmong nss c.add_all.new.names.items) (sym more)
    (all_among_next so_far x.items c.loop-some.names.items c.add_all.new.names.items c.loop-some.invariant c.in_ok-add_all.ensures.before
    (subst (λ ns. AreAmong ns c.add_all.new.names.items) c.deref.ensures.value c.in_ok-add_all.ensures.others))

pub returns : goal.returns
returns c =
    subst (λ all. AreAllAmong (map (λ (ns : Vec ℕ). ns.items) all) c.loop-some.names.items) (take_all c.loop-some.some-index c.args.all.now c.loop-some-test.false) c.loop-some.invariant
