use Rattle.std.proofs.Common.{◌≡◌, ◌∙◌, ◌∷◌, [], ap, map, reverse, subst, sym}
use Rattle.std.proofs.lemmas.List.{reverse-append}
use Rattle.td_engine.proofs.code_lemmas.Opens.{engine_committed, engine_settled, settled_state}
use Rattle.td_engine.proofs.law_lemmas.Transactions.{commit_does}
use Rattle.td_engine.specs.model.Legality.{IsLegalState}
use Rattle.td_engine.specs.model.Machine.{State, committed_transaction, state_of, step_of}
use Rattle.td_engine.specs.code.Stages.{IsEngine, kept_for, stage, state_at}
use Rattle.td_engine.specs.code.Steps.{Does}
use Rattle.td_engine.proofs.engine.Engine.commit.Goals as goal

pub invariant_of-self : goal.invariant_of-self
invariant_of-self g c =
    let v = c.self.inside.present in
    let opens = c.pop.new.self.items in
    let others = reverse opens in
    let is : reverse c.self.inside.opens.items ≡ c.in-Some.field-0 ∷ others = ap reverse c.in-Some.ensures.items ∙ reverse-append opens (c.in-Some.field-0 ∷ []) in
    let here : c.settle.new.present ≡ kept_for opens v = c.settle.ensures ∙ ap (λ os. kept_for os v) c.deref.ensures.value in
    subst (λ x. IsEngine x others) (sym here) (engine_settled v opens (engine_committed v c.in-Some.field-0 others (subst (IsEngine v) is c.self.invariant).back))

pub returns-clause-done : goal.returns-clause-done
returns-clause-done g c =
    let v = c.self.inside.present in
    let old = c.args.self.now in
    let opens = c.pop.new.self.items in
    let others = reverse opens in
    let is : reverse c.self.inside.opens.items ≡ c.in-Some.field-0 ∷ others = ap reverse c.in-Some.ensures.items ∙ reverse-append opens (c.in-Some.field-0 ∷ []) in
    let here : c.settle.new.present ≡ kept_for opens v = c.settle.ensures ∙ ap (λ os. kept_for os v) c.deref.ensures.value in
    let after : state_at c.settle.new.present others ≡ state_at v others = ap (λ x. state_at x others) here ∙ settled_state v opens in
    let kept : old.kept ≡ stage v c.in-Some.field-0 ∷ map (stage v) others = ap (λ (s : State). s.kept) (sym c.self.view_is) ∙ ap (map (stage v)) is in
    let database : old.database ≡ v.database = ap (λ (s : State). s.database) (sym c.self.view_is) in
    subst (Does (step_of old (committed_transaction old.database old.kept)) c.in_ok-answer.answer)
    (ap (λ db. state_of db (map (stage v) others)) database ∙ sym after)
    (commit_does c.in_ok-answer.answer old (stage v c.in-Some.field-0) (map (stage v) others) (c.in_ok-answer.ensures.flag, c.in_ok-answer.ensures.text) kept)

pub returns-clause-legal : goal.returns-clause-legal
returns-clause-legal g c =
    let v = c.self.inside.present in
    let opens = c.pop.new.self.items in
    let others = reverse opens in
    let is : reverse c.self.inside.opens.items ≡ c.in-Some.field-0 ∷ others = ap reverse c.in-Some.ensures.items ∙ reverse-append opens (c.in-Some.field-0 ∷ []) in
    let here : c.settle.new.present ≡ kept_for opens v = c.settle.ensures ∙ ap (λ os. kept_for os v) c.deref.ensures.value in
    let after : state_at c.settle.new.present others ≡ state_at v others = ap (λ x. state_at x others) here ∙ settled_state v opens in
    subst IsLegalState (sym after) (engine_committed v c.in-Some.field-0 others (subst (IsEngine v) is c.self.invariant).back).legal
