use Rattle.std.proofs.Common.{◌≡◌, ◌∙◌, ap, subst}
use Rattle.td_eval.specs.code.LentWorlds.{tuples_in_hand, world_in}
use Rattle.td_plan.proofs.HandSlots.{hand_slots}
use Rattle.td_plan.specs.code.Hands.{slots_in, slots_lent, slots_of}
use Rattle.td_plan.specs.code.PlanViews.{PlanValue}
use Rattle.td_plan.specs.code.Runs.{step_value}
use Rattle.td_tree.specs.model.Outcomes.{Answers}
use Rattle.td_plan.proofs.running.run_plan.run_plan_in.Goals as goal

pub run-requires-clause-ready : goal.run-requires-clause-ready
run-requires-clause-ready g c =
    let runnable = c.plan.invariant in
    record { parts = runnable.0; sound = runnable.1; memo = c.in_ok-memo.ensures runnable.0 (world_in c.args.around.now.env.now) (slots_of c.hand_of.result) }

pub returns : goal.returns
returns g c = λ scope outcome is gives hand.
    let env = c.args.around.now.env.now in
    let w = world_in env in
    let s = slots_lent env.tuples.now in
    let runnable = c.plan.invariant in
    let here : slots_of c.hand_of.result ≡ s = c.hand_of.ensures ∙ ap slots_in c.deref.ensures.value ∙ c.in_ok-rows.ensures in
    let a = c.run.ensures runnable.0 runnable.1 (c.in_ok-memo.ensures runnable.0 w (slots_of c.hand_of.result)) in
    subst (Answers (λ v. v) c.run.result) (is w (tuples_in_hand env) s gives hand (hand_slots env.tuples.now))
    (subst (λ (p : PlanValue). Answers (λ v. v) c.run.result (step_value w s p.step)) c.plan.view_is
    (subst (λ s. Answers (λ v. v) c.run.result (step_value w s c.plan.inside.step)) here a.0))
