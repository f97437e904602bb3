use Rattle.std.proofs.Common.{◌≡◌, ◌∙◌, ap, map, sym}
use Rattle.std.proofs.lemmas.List.{take_all}
use Rattle.td_eval.proofs.code_lemmas.FixedElements.{valued_next}
use Rattle.td_plan.proofs.RunLaws.{values_found}
use Rattle.td_plan.proofs.SoundSteps.{sound_at}
use Rattle.td_plan.specs.code.Hands.{slots_of}
use Rattle.td_plan.specs.code.Runs.{step_value}
use Rattle.td_tree.specs.model.Outcomes.{Valued, gathered}
use Rattle.td_plan.proofs.Granted.{granted, pushed}
use Rattle.td_plan.proofs.running.memberships.put_parts.Goals as goal

pub loop-part-preserved : goal.loop-part-preserved
loop-part-preserved c = λ ps w sound m.
    let f = step_value w (slots_of c.args.hand.now) in
    let part = c.part-item.result in
    let value : f part ≡ Valued c.in_ok-value.value =
    c.in_ok-quick_value.ensures ps w (sound_at ps c.args.parts.now c.loop-part.part-index part c.loop-part-test.true c.part-item.is sound) m
    ∙ ap Valued (sym (granted c.try_clone.result c.in_ok-value.value _ c.in_ok-value.ensures.value c.try_clone.ensures)) in
    valued_next f c.args.parts.now c.loop-part.part-index part c.loop-part.row.items c.in_ok-value.value c.loop-part-test.true c.part-item.is (c.loop-part.invariant ps w sound m) value
    ∙ ap Valued (sym (pushed _ _ c.in_ok-ok.ensures.variant c.push.ensures.items))

pub returns : goal.returns
returns c = λ ps w sound m.
    ap gathered (values_found w (slots_of c.args.hand.now) c.args.parts.now ∙ ap (map (step_value w (slots_of c.args.hand.now))) (sym (take_all c.loop-part.part-index c.args.parts.now c.loop-part-test.false)))
    ∙ c.loop-part.invariant ps w sound m
