use Rattle.std.proofs.Common.{List, subst, sym}
use Rattle.td_engine.proofs.law_lemmas.Answered.{parsed_step, refused_does}
use Rattle.td_engine.proofs.code_lemmas.Turning.{ok_map}
use Rattle.td_engine.specs.code.Carried.{IsRefusedBy}
use Rattle.td_engine.specs.model.Machine.{State, effect_in, step_of, step_of_outcome}
use Rattle.td_engine.specs.code.Steps.{Does, IsParsed, IsStep}
use Rattle.td_tree.specs.model.Outcomes.{Answers}
use Rattle.td_tree.specs.model.Statements.{PlacedToken}
use Rattle.td_tree.specs.code.TreeViews.{statement_view}
use Rattle.td_engine.proofs.engine.Engine.carry_out.Goals as goal

pub returns-in-Ok-clause-step : goal.returns-in-Ok-clause-step
returns-in-Ok-clause-step g c =
    let old = c.args.self.now in
    let new = c.execute.new.self in
    let s = statement_view c.in-Ok.statement in
    ok_map (λ a. Does (step_of old (effect_in old s)) a new) (λ a. (tokens : List PlacedToken) → IsParsed tokens c.args.parsed → IsStep old tokens a new)
    (λ a d tokens parsed.
    let told = subst (λ r. Answers statement_view r parsed.0) c.in-Ok.is parsed.2 in
    parsed_step old new tokens parsed.0 a parsed.1 (subst (λ o. Does (step_of_outcome old o) a new) (sym told) d))
    c.execute.result c.execute.ensures.done

pub returns-in-Err-clause-step : goal.returns-in-Err-clause-step
returns-in-Err-clause-step g c =
    let old = c.args.self.now in
    ok_map (λ a. (d : State) → IsRefusedBy d c.in-Err.fault a) (λ a. (tokens : List PlacedToken) → IsParsed tokens c.args.parsed → IsStep old tokens a old)
    (λ a d tokens parsed.
    parsed_step old old tokens parsed.0 a parsed.1
    (refused_does statement_view c.in-Err.fault a old parsed.0 (effect_in old) (subst (λ r. Answers statement_view r parsed.0) c.in-Err.is parsed.2) (d old)))
    c.answer_of_fault.result c.answer_of_fault.ensures.states
