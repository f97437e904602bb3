use Rattle.std.proofs.Common.{List}
use Rattle.td_engine.proofs.law_lemmas.Answered.{parsed_spelled}
use Rattle.td_engine.proofs.code_lemmas.Turning.{ok_map}
use Rattle.td_engine.proofs.engine.Engine.step.Goals as goal
use Rattle.td_engine.specs.code.Steps.{IsParsed, IsStep}
use Rattle.td_tree.specs.model.Statements.{PlacedToken}

pub carry_out-requires : goal.carry_out-requires
carry_out-requires g c = parsed_spelled c.args.tokens.now c.parse_statement.result c.parse_statement.ensures

pub returns-clause-step : goal.returns-clause-step
returns-clause-step g c =
    let old = c.args.self.now in
    let new = c.carry_out-2.new.self in
    ok_map (λ a. (tokens : List PlacedToken) → IsParsed tokens c.parse_statement.result → IsStep old tokens a new) (λ a. IsStep old c.args.tokens.now a new)
    (λ a does. does c.args.tokens.now c.parse_statement.ensures) c.carry_out-2.result c.carry_out-2.ensures.step
