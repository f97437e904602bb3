-- What the engine answers (this project's own).
use Rattle.std.specs.Prelude.{◌≡◌, List, is_none, Result}
use Rattle.std.specs.String.{string_bytes}
use Rattle.td_engine.specs.model.Machine.{State, Step, Steps}
use Rattle.td_engine.specs.declared.answer.Answer as code
use Rattle.td_parse.specs.model.Meanings.{Parsed}
use Rattle.td_tree.specs.model.Outcomes.{Answers, Outcome}
use Rattle.td_tree.specs.model.Statements.{PlacedToken}
use Rattle.td_tree.specs.code.TreeViews.{statement_view}
use Rattle.td_tree.specs.model.Trees as trees
use Rattle.td_tree.specs.declared.fault.Fault.{Fault}
use Rattle.td_tree.specs.declared.statement.Statement as code_tree

-- the step that an answer and what stands after it stand for
abbrev pub step_view : {S : Type 0} → code.Answer → S → Step S
step_view answer new = record { after = new; cause = answer.cause; text = string_bytes answer.text }

-- the answer and what stands after it are those of the step; it is accepted exactly where it has no cause
pub record Does {S : Type 0} (step : Step S) (answer : code.Answer) (new : S) : Type 0 where
  pub is : step_view answer new ≡ step
  pub accepted : answer.accepted ≡ is_none answer.cause

-- the statement was run in the old state
pub record IsStep (old : State) (tokens : List PlacedToken) (answer : code.Answer) (new : State) : Type 0 where
  pub step : Steps old tokens (step_view answer new)
  pub accepted : answer.accepted ≡ is_none answer.cause

-- the parser's answer is that of a meaning which the tokens have
abbrev pub IsParsed : List PlacedToken → Result code_tree.Statement Fault → Type 0
IsParsed tokens r = (o : Outcome trees.Statement) × Parsed tokens o × Answers statement_view r o
