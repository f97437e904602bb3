use Rattle.std.proofs.Common.{arith, map, refl, rules, subst}
use Rattle.std.proofs.lemmas.Result.{err_from_is_err_and}
use Rattle.std.specs.Borrow.{Bor}
use Rattle.td_eval.proofs.code_lemmas.OpValues.{refused_then}
use Rattle.td_eval.proofs.code_lemmas.WalkedExtension.{related}
use Rattle.td_plan.proofs.MemoLaws.{kept_outside, ready_below}
use Rattle.td_plan.proofs.ValuedBelow.{lower}
use Rattle.td_plan.specs.code.Hands.{slots_in, slots_of}
use Rattle.td_value.specs.model.Values.{Relation, Val}
use Rattle.td_eval.specs.model.OperatorValues.{measure_value, on_relation, restricted_value, truth_value}
use Rattle.td_plan.proofs.RunLaws.{unrelated}
use Rattle.td_plan.specs.code.Memos.{IsSound}
use Rattle.td_plan.specs.code.Runs.{step_value, truths_in, value_in}
use Rattle.td_tree.specs.model.Outcomes.{Answers, gathered}
use Rattle.td_plan.proofs.running.evaluator.Evaluator.restriction_measured.Goals as goal

pub run-requires-clause-below : goal.run-requires-clause-below
run-requires-clause-below g c = lower (omega arith) c.requires.below

pub run-requires-clause-ready : goal.run-requires-clause-ready
run-requires-clause-ready g c = let r = c.requires.ready in record { parts = r.parts; sound = r.sound.0; memo = r.memo }

pub truths-requires-clause-below : goal.truths-requires-clause-below
truths-requires-clause-below g c = lower (omega arith) c.requires.below

pub truths-requires-clause-ready : goal.truths-requires-clause-ready
truths-requires-clause-ready g c =
    let r = c.requires.ready in
    ready_below c.in_ok-inside.ensures.slot c.in_ok-inside.ensures.outer
    (record { parts = r.parts; sound = r.sound.1; memo = c.in_ok-inside.ensures.memo r.parts (g.A.InWorld.world c.args.self.now.around.now) (c.in_ok-operand.ensures r.parts r.sound.0 r.memo).1 })

pub returns-in_err-operand : goal.returns-in_err-operand
returns-in_err-operand g c = λ ps sound m.
    let w = g.A.InWorld.world c.args.self.now.around.now in
    let s = slots_of c.args.hand.now in
    let a = c.in_err-operand.ensures ps sound.0 m in
    let e = err_from_is_err_and c.from_residual.result c.from_residual.ensures.1 in
    (rw (e.1, e.2) (refused_then (λ (v : Val). v) (λ (v : Val). v) _ _ (measure_value c.args.op) (refused_then (λ (v : Val). v) (λ (v : Val). v) _ (step_value w s c.args.operand.now) (λ v. on_relation v (restricted_value (value_in w s c.args.slot c.args.condition.now))) a.0)), a.1)

pub returns-in_err-rel : goal.returns-in_err-rel
returns-in_err-rel g c = λ ps sound m.
    let w = g.A.InWorld.world c.args.self.now.around.now in
    let s = slots_of c.args.hand.now in
    let a = c.in_ok-operand.ensures ps sound.0 m in
    let e = err_from_is_err_and c.from_residual-in_err-rel.result c.from_residual-in_err-rel.ensures.1 in
    (rw (a.0, e.1, e.2) (refused_then (λ (v : Val). v) (λ (v : Val). v) _ _ (measure_value c.args.op) (unrelated (λ (r : Bor Relation). r.now) _ c.in_ok-operand.operand (restricted_value (value_in w s c.args.slot c.args.condition.now)) c.in_err-rel.ensures)), a.1)

pub returns-in_err-inside : goal.returns-in_err-inside
returns-in_err-inside g c = λ ps sound m.
    let a = c.in_ok-operand.ensures ps sound.0 m in
    (search rules, c.entered.ensures.memo ps (g.A.InWorld.world c.args.self.now.around.now) a.1 (slots_of c.args.hand.now) (λ j l. refl))

pub returns : goal.returns
returns g c = λ ps sound m.
    let w = g.A.InWorld.world c.args.self.now.around.now in
    let s = slots_of c.args.hand.now in
    let p = value_in w s c.args.slot c.args.condition.now in
    let r = c.in_ok-rel.rel.now in
    let a = c.in_ok-operand.ensures ps sound.0 m in
    let b = kept_outside w c.args.slot c.in_ok-inside.inside.slot s (slots_in c.in_ok-inside.inside.outer.items) c.entered.new.memo c.truths.new.memo (λ ps. IsSound ps c.args.condition.now) (λ k t. Answers (λ m. m.items) c.truths.result (truths_in w t k c.args.condition.now c.rows.result.now))
    c.in_ok-inside.ensures.slot c.in_ok-inside.ensures.outer c.truths.ensures ps sound.1 (c.in_ok-inside.ensures.memo ps w a.1) in (
      rw (a.0, related c.in_ok-operand.operand r (restricted_value p) c.in_ok-rel.ensures)
          (c.truths_measured.ensures p r (subst (λ ts. Answers (λ m. m.items) c.truths.result (gathered (map (λ t. truth_value (p t)) ts))) c.rows.ensures.rows b.0)),
      b.1,
    )
