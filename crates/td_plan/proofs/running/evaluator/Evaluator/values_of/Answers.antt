use Rattle.std.proofs.Common.{ap, rules, sym}
use Rattle.td_eval.proofs.code_lemmas.WalkedLists.{walked_values}
use Rattle.td_plan.proofs.RunLaws.{values_found}
use Rattle.td_plan.proofs.SoundSteps.{sound_at}
use Rattle.td_plan.proofs.StepHeights.{height_part}
use Rattle.td_plan.specs.code.Hands.{slots_of}
use Rattle.td_plan.specs.code.Runs.{step_value}
use Rattle.td_tree.proofs.code_lemmas.Gatherings.{collected_next}
use Rattle.td_tree.specs.model.Outcomes.{gathered}
use Rattle.td_plan.proofs.ValuedBelow.{lower}
use Rattle.td_plan.proofs.running.evaluator.Evaluator.values_of.Goals as goal

pub run-requires-clause-ready : goal.run-requires-clause-ready
run-requires-clause-ready g c =
    let r = c.requires.ready in record {
      parts = r.parts;
      sound = sound_at r.parts c.args.steps.now c.loop-step.step-index c.step-item.result c.loop-step-test.true c.step-item.is r.sound;
      memo = (c.loop-step.invariant r.parts r.sound r.memo).1;
    }

pub run-requires-clause-below : goal.run-requires-clause-below
run-requires-clause-below g c = lower (height_part c.args.steps.now c.loop-step.step-index c.step-item.result c.loop-step-test.true c.step-item.is) c.requires.below

pub loop-step-preserved : goal.loop-step-preserved
loop-step-preserved g c = λ ps sound m.
    let a = c.loop-step.invariant ps sound m in
    let b = c.run.ensures ps (sound_at ps c.args.steps.now c.loop-step.step-index c.step-item.result c.loop-step-test.true c.step-item.is sound) a.1 in (
      collected_next (λ v. v) (step_value (g.A.InWorld.world c.args.self.now.around.now) (slots_of c.args.hand.now)) c.args.steps.now c.loop-step.step-index c.loop-step-test.true c.step-item.is
          a.0 b.0 c.in_ok-collect.ensures,
      b.1,
    )

pub returns-in_err-collect : goal.returns-in_err-collect
returns-in_err-collect g c = λ ps sound m.
    let a = c.loop-step.invariant ps sound m in
    (search rules, (c.run.ensures ps (sound_at ps c.args.steps.now c.loop-step.step-index c.step-item.result c.loop-step-test.true c.step-item.is sound) a.1).1)

pub returns : goal.returns
returns g c = λ ps sound m.
    let w = g.A.InWorld.world c.args.self.now.around.now in
    let s = slots_of c.args.hand.now in
    let a = c.loop-step.invariant ps sound m in (
      walked_values (step_value w s) c.args.steps.now c.loop-step.step-index c.loop-step-test.false c.loop-step.causes c.loop-step.values c.finish.result c.finish.ensures
          a.0 _ (ap gathered (sym (values_found w s c.args.steps.now))),
      a.1,
    )
