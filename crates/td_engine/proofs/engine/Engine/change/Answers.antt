use Rattle.std.proofs.Common.{◌≡◌, ◌∙◌, ap, map, reverse, subst, sym}
use Rattle.td_engine.proofs.law_lemmas.Answered.{database_does}
use Rattle.td_engine.proofs.code_lemmas.Opens.{engine_on, engine_settled, settled_state, state_on}
use Rattle.td_engine.proofs.code_lemmas.Turning.{ok_map}
use Rattle.td_engine.specs.model.Legality.{IsLegalState}
use Rattle.td_engine.specs.model.Machine.{State, effect, effect_in, state_of, step_of}
use Rattle.td_engine.specs.code.Stages.{IsEngine, kept_for, stage, state_at}
use Rattle.td_engine.specs.code.Steps.{Does}
use Rattle.td_tree.specs.code.TreeViews.{statement_view}
use Rattle.td_engine.proofs.engine.Engine.change.Goals as goal

pub invariant_of-self : goal.invariant_of-self
invariant_of-self g c =
    let w = c.execute-answer.new.self in
    let opens = c.self.inside.opens.items in
    let here : c.settle.new.present ≡ kept_for opens w = c.settle.ensures ∙ ap (λ os. kept_for os w) c.deref.ensures.value in
    subst (λ x. IsEngine x (reverse opens)) (sym here)
    (engine_settled w opens (engine_on c.self.inside.present w (reverse opens) c.self.invariant.back c.execute-answer.ensures.on c.execute-answer.ensures.legal))

pub returns-clause-done : goal.returns-clause-done
returns-clause-done g c =
    let v = c.self.inside.present in
    let w = c.execute-answer.new.self in
    let opens = c.self.inside.opens.items in
    let begun = reverse opens in
    let kept = map (stage v) begun in
    let s = statement_view c.args.statement in
    let old = c.args.self.now in
    let new = state_at c.settle.new.present begun in
    let here : c.settle.new.present ≡ kept_for opens w = c.settle.ensures ∙ ap (λ os. kept_for os w) c.deref.ensures.value in
    let after : new ≡ state_at w begun = ap (λ x. state_at x begun) here ∙ settled_state w opens in
    let new-is = state_on v w begun c.self.invariant.back c.execute-answer.ensures.on ∙ sym after in
    ok_map (λ a. Does (step_of v.database (effect v.database s)) a w.database) (λ a. Does (step_of old (effect_in old s)) a new)
    (λ a d. subst (λ (o : State). Does (step_of o (effect_in o s)) a new) c.self.view_is
    (subst (Does (step_of (state_of v.database kept) (effect_in (state_of v.database kept) s)) a) new-is (database_does kept a v.database w.database s c.requires.change d)))
    c.execute-answer.result c.execute-answer.ensures.done

pub returns-clause-legal : goal.returns-clause-legal
returns-clause-legal g c =
    let w = c.execute-answer.new.self in
    let opens = c.self.inside.opens.items in
    let begun = reverse opens in
    let here : c.settle.new.present ≡ kept_for opens w = c.settle.ensures ∙ ap (λ os. kept_for os w) c.deref.ensures.value in
    let after : state_at c.settle.new.present begun ≡ state_at w begun = ap (λ x. state_at x begun) here ∙ settled_state w opens in
    subst IsLegalState (sym after)
    (engine_on c.self.inside.present w begun c.self.invariant.back c.execute-answer.ensures.on c.execute-answer.ensures.legal).legal
