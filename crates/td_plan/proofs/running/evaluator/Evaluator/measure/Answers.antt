use Rattle.std.proofs.Common.{◌∙◌, ap, subst, sym}
use Rattle.td_plan.proofs.PartnerValues.{measured}
use Rattle.td_plan.specs.code.Counted.{number_measured}
use Rattle.td_plan.specs.code.Plans.{plan_value}
use Rattle.td_plan.specs.code.Hands.{slots_of}
use Rattle.td_plan.specs.code.StepViews.{step_view}
use Rattle.td_tree.specs.model.Outcomes.{Answers}
use Rattle.td_plan.proofs.running.evaluator.Evaluator.measure.Goals as goal

pub returns-in-Some : goal.returns-in-Some
returns-in-Some g c = λ ps sound m.
    let s = slots_of c.args.hand.now in
    let o = plan_value (g.A.InWorld.world c.args.self.now.around.now) s (step_view c.args.operand.now) in
    let counted = c.in-Some.ensures s in
    let is = ap (number_measured c.args.op) (sym counted.2) ∙ sym (measured c.args.op o counted.0 counted.1) in
    (subst (Answers (λ v. v) c.number_measured.result) is c.number_measured.ensures, m)
