use Rattle.std.proofs.Common.{◌≡◌, ◌∙◌, map, subst}
use Rattle.td_algebra.specs.model.Operators.{restriction}
use Rattle.td_eval.proofs.code_lemmas.OpTuples.{restricted_of, truths_are}
use Rattle.td_eval.specs.model.OperatorValues.{is_true, truth_value}
use Rattle.td_tree.specs.model.Outcomes.{Answers, Valued, gathered}
use Rattle.td_eval.proofs.operators.tuplewise.restriction_value.Goals as goal

pub returns : goal.returns
returns c = λ p h.
    let valued : gathered (map (λ t. truth_value (p t)) c.args.operand.now.body) ≡ Valued c.in_ok-truths.truths.items =
    subst (λ r. Answers (λ m. m.items) r (gathered (map (λ t. truth_value (p t)) c.args.operand.now.body))) c.in_ok-truths.was h in
    restricted_of p c.args.operand.now c.in_ok-truths.truths.items _ valued
    (c.as_value.ensures (restriction (λ t. is_true (p t)) c.args.operand.now)
    (c.restrict.ensures (λ t. is_true (p t)) (c.deref.ensures.value ∙ truths_are p c.args.operand.now.body c.in_ok-truths.truths.items valued)))
