use Rattle.td_plan.proofs.MemoLaws.{kept_inside, ready_inside}
use Rattle.td_plan.specs.code.Hands.{slots_in, slots_of}
use Rattle.td_plan.specs.code.Memos.{IsSound}
use Rattle.td_plan.specs.code.Runs.{step_value}
use Rattle.td_plan.specs.code.Plans.{Slots}
use Rattle.td_tree.specs.model.Outcomes.{Answers}
use Rattle.td_value.specs.code.Views.{values_of}
use Rattle.td_eval.specs.model.OperatorValues.{truth_value}
use Rattle.td_plan.proofs.running.evaluator.Evaluator.truth_in_row.Goals as goal

pub truth_with-truth-requires-clause-ready : goal.truth_with-truth-requires-clause-ready
truth_with-truth-requires-clause-ready g c =
    ready_inside (g.A.InWorld.world c.args.self.now.around.now) c.args.inside.now.slot (values_of c.args.row.now) (slots_in c.args.inside.now.outer.items) _ _ _
    c.hand_inside-hand.ensures c.requires.ready

pub returns : goal.returns
returns g c =
    let w = g.A.InWorld.world c.args.self.now.around.now in
    kept_inside w c.args.inside.now.slot (values_of c.args.row.now) (slots_in c.args.inside.now.outer.items) (slots_of c.hand_inside-hand.result) c.args.memo.now c.truth_with-truth.new.memo c.forget.new.memo (λ ps. IsSound ps c.args.condition.now)
    (λ (s : Slots). Answers (λ b. b) c.truth_with-truth.result (truth_value (step_value w s c.args.condition.now)))
    c.hand_inside-hand.ensures c.truth_with-truth.ensures c.forget.ensures
