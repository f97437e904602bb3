use Rattle.std.proofs.Common.{◌≡◌, ◌∙◌, ◌∷◌, [], ap, map, reverse, subst, sym}
use Rattle.std.proofs.lemmas.List.{reverse-append}
use Rattle.td_engine.proofs.code_lemmas.Opens.{engine_back, engine_settled, settled_state, state_back}
use Rattle.td_engine.proofs.law_lemmas.Transactions.{rollback_does}
use Rattle.td_engine.specs.model.Legality.{IsLegalState}
use Rattle.td_engine.specs.model.Machine.{State, rolled_back, step_of}
use Rattle.td_engine.specs.code.Stages.{IsEngine, kept_for, stage, state_at}
use Rattle.td_engine.specs.code.Steps.{Does}
use Rattle.td_engine.proofs.engine.Engine.roll_back.Goals as goal

pub invariant_of-self : goal.invariant_of-self
invariant_of-self g c =
    let v = c.self.inside.present in
    let back = c.revert.new.self in
    let opens = c.pop.new.self.items in
    let others = reverse opens in
    let is : reverse c.self.inside.opens.items ≡ c.in-Some.place ∷ others = ap reverse c.in-Some.ensures.items ∙ reverse-append opens (c.in-Some.place ∷ []) in
    let here : c.settle.new.present ≡ kept_for opens back = c.settle.ensures ∙ ap (λ os. kept_for os back) c.deref.ensures.value in
    subst (λ x. IsEngine x others) (sym here) (engine_settled back opens (engine_back v back c.in-Some.place others (subst (IsEngine v) is c.self.invariant).back c.revert.ensures))

pub returns-clause-done : goal.returns-clause-done
returns-clause-done g c =
    let v = c.self.inside.present in
    let back = c.revert.new.self in
    let old = c.args.self.now in
    let opens = c.pop.new.self.items in
    let others = reverse opens in
    let is : reverse c.self.inside.opens.items ≡ c.in-Some.place ∷ others = ap reverse c.in-Some.ensures.items ∙ reverse-append opens (c.in-Some.place ∷ []) in
    let here : c.settle.new.present ≡ kept_for opens back = c.settle.ensures ∙ ap (λ os. kept_for os back) c.deref.ensures.value in
    let after : state_at c.settle.new.present others ≡ state_at back others = ap (λ x. state_at x others) here ∙ settled_state back opens in
    let kept : old.kept ≡ stage v c.in-Some.place ∷ map (stage v) others = ap (λ (s : State). s.kept) (sym c.self.view_is) ∙ ap (map (stage v)) is in
    subst (Does (step_of old (rolled_back old.kept)) c.in_ok-answer.answer)
    (state_back v back c.in-Some.place others (subst (IsEngine v) is c.self.invariant).back c.revert.ensures ∙ sym after)
    (rollback_does c.in_ok-answer.answer old (stage v c.in-Some.place) (map (stage v) others) (c.in_ok-answer.ensures.flag, c.in_ok-answer.ensures.text) kept)

pub returns-clause-legal : goal.returns-clause-legal
returns-clause-legal g c =
    let v = c.self.inside.present in
    let back = c.revert.new.self in
    let opens = c.pop.new.self.items in
    let others = reverse opens in
    let is : reverse c.self.inside.opens.items ≡ c.in-Some.place ∷ others = ap reverse c.in-Some.ensures.items ∙ reverse-append opens (c.in-Some.place ∷ []) in
    let here : c.settle.new.present ≡ kept_for opens back = c.settle.ensures ∙ ap (λ os. kept_for os back) c.deref.ensures.value in
    let after : state_at c.settle.new.present others ≡ state_at back others = ap (λ x. state_at x others) here ∙ settled_state back opens in
    subst IsLegalState (sym after) (engine_back v back c.in-Some.place others (subst (IsEngine v) is c.self.invariant).back c.revert.ensures).legal
