use Rattle.std.proofs.Common.{arith, map}
use Rattle.td_eval.specs.model.OperatorValues.{truth_value}
use Rattle.td_plan.proofs.Hoisting.{kept_hoisted, ready_hoisted}
use Rattle.td_plan.proofs.MemoLaws.{ready_still}
use Rattle.td_plan.proofs.QuickRows.{truths_gathered}
use Rattle.td_plan.proofs.ValuedBelow.{lower}
use Rattle.td_plan.specs.code.QuickInside.{value_inside}
use Rattle.td_tree.specs.model.Outcomes.{Answers, gathered}
use Rattle.td_plan.proofs.running.evaluator.Evaluator.+truths.Goals as goal

pub truths-requires : goal.truths-requires
truths-requires g t c =
    let w = g.A.InWorld.world c.args.self.now.around.now in
    let r = c.requires.ready in
    let a = c.in-Some.ensures.kept r.parts r.sound r.memo in
    λ κs o. (
      omega (arith, c.decreases, c.in-Some.ensures.height),
      (
        o.0,
        (
          o.1,
          (
            lower (omega (arith, c.in-Some.ensures.height)) c.requires.below,
            ready_hoisted w c.args.inside.now c.in-Some.hoisted.inside c.args.condition.now c.in-Some.hoisted.step.now c.hoisted_loop.new.memo a.0 c.in-Some.ensures.sound
                (ready_still c.hoisted_loop.ensures.kept r),
          ),
        ),
      ),
    )

pub returns-in-Some : goal.returns-in-Some
returns-in-Some g t c = λ ps sound m.
    let w = g.A.InWorld.world c.args.self.now.around.now in
    let a = c.in-Some.ensures.kept ps sound m in
    kept_hoisted w c.args.inside.now c.in-Some.hoisted.inside c.args.condition.now c.in-Some.hoisted.step.now c.hoisted_loop.new.memo c.truths.new.memo
    (λ f. Answers (λ m. m.items) c.truths.result (gathered (map (λ t. truth_value (f t)) c.args.rows.now)))
    ps a.0 (c.in-Some.ensures.sound ps sound) c.truths.ensures a.1

pub truths_by_row-requires-clause-ready : goal.truths_by_row-requires-clause-ready
truths_by_row-requires-clause-ready g t c = ready_still c.hoisted_loop.ensures.kept c.requires.ready

pub returns-then-rows-lt-FEWEST : goal.returns-then-rows-lt-FEWEST
returns-then-rows-lt-FEWEST g t c = λ ps sound m. c.truths_by_row.ensures ps sound (c.hoisted_loop.ensures.kept ps sound m).1

pub truth_in_row-requires-clause-ready : goal.truth_in_row-requires-clause-ready
truth_in_row-requires-clause-ready g t c = ready_still c.hoisted_loop.ensures.kept c.requires.ready

pub truths_by_row-requires-in-None-clause-ready : goal.truths_by_row-requires-in-None-clause-ready
truths_by_row-requires-in-None-clause-ready g t c = ready_still {old = c.hoisted_loop.new.memo} c.truth_in_row.ensures (ready_still c.hoisted_loop.ensures.kept c.requires.ready)

pub returns-in-Some-quick_truths : goal.returns-in-Some-quick_truths
returns-in-Some-quick_truths g t c = λ ps sound m.
    let w = g.A.InWorld.world c.args.self.now.around.now in
    let a = (c.truth_in_row.ensures ps sound (c.hoisted_loop.ensures.kept ps sound m).1).1 in
    (truths_gathered (value_inside w c.args.inside.now c.args.condition.now) c.args.rows.now c.in-Some-quick_truths.truths.items (c.in-Some-quick_truths.ensures ps w sound a), a)

pub returns-in-None : goal.returns-in-None
returns-in-None g t c = λ ps sound m. c.truths_by_row-in-None.ensures ps sound (c.truth_in_row.ensures ps sound (c.hoisted_loop.ensures.kept ps sound m).1).1
