-- What the engine's functions give, in the words of the set machine.
use Rattle.std.specs.Prelude.{◌≡◌, ℕ, List, Option, Some, None, Result, Ok, Err, ⊤}
use Rattle.td_catalog.specs.model.Database.{Database, database_scope}
use Rattle.td_check.specs.model.StatementTypes.{statement_checked}
use Rattle.td_engine.specs.model.Machine.{Effect, Accepted, Denied, by_outcome, carried_out, ok_text, step_of}
use Rattle.td_engine.specs.model.Refusals.{Refusal, by_cause, by_constraint, by_key}
use Rattle.td_engine.specs.code.Steps.{Does}
use Rattle.td_engine.specs.declared.answer.Answer as code_answer
use Rattle.td_engine.specs.declared.refusal.Failure.{Failure}
use Rattle.td_engine.specs.declared.refusal.Failure.TheVariants as failures
use Rattle.td_engine.specs.declared.refusal.Refusal as code
use Rattle.td_engine.specs.declared.refusal.Refusal.TheVariants as refusals
use Rattle.td_tree.specs.model.Outcomes.{Answers, Outcome, Valued}
use Rattle.td_tree.specs.model.Trees.{Statement, begin_transaction, commit, dump, rollback, write}
use Rattle.td_tree.specs.declared.fault.Fault.{Fault}
use Rattle.td_tree.specs.declared.fault.Fault.TheVariants as faults
use Rattle.td_engine.specs.laws.LegalityLaws.{IsSpelledStatement}

-- what a fault of the crates below is here
abbrev pub failure_of : Fault → Failure
failure_of (faults.Refused cause) = failures.Refused (refusals.Cause cause)
failure_of faults.Memory = failures.Memory

abbrev pub refusal_view : code.Refusal → Refusal
refusal_view (refusals.Cause cause) = by_cause cause
refusal_view (refusals.Key name) = by_key name
refusal_view (refusals.Constraint name) = by_constraint name

-- a check was passed, or it refuses
abbrev pub Passes : Result ⊤ Failure → Option Refusal → Type 0
Passes (Ok u) o = o ≡ None
Passes (Err (failures.Refused refusal)) o = o ≡ Some (refusal_view refusal)
Passes (Err failures.Memory) o = ⊤

-- a change was made after which this database stands, and which answers OK, or it is refused
abbrev pub Changes : Database → Result ⊤ Failure → Effect Database → Type 0
Changes new (Ok u) e = e ≡ Accepted new ok_text
Changes new (Err (failures.Refused refusal)) e = e ≡ Denied (refusal_view refusal)
Changes new (Err failures.Memory) e = ⊤

-- a statement that prints neither a value nor the dump
abbrev pub IsChange : Statement → Type 0
IsChange (write expression) = ⊥
IsChange dump = ⊥
IsChange _ = ⊤

-- a statement that is not of transactions
abbrev pub IsOfDatabase : Statement → Type 0
IsOfDatabase begin_transaction = ⊥
IsOfDatabase commit = ⊥
IsOfDatabase rollback = ⊥
IsOfDatabase _ = ⊤

-- a statement that is spelled, and meets the static rules
pub record IsAdmitted (db : Database) (s : Statement) : Type 0 where
  pub spelled : IsSpelledStatement s
  pub checked : statement_checked (database_scope db) s ≡ Valued tt

-- ---- answers

-- the statement is refused by the cause: want of memory is no answer
abbrev pub IsRefusedBy : {S : Type 0} → S → Fault → code_answer.Answer → Type 0
IsRefusedBy s (faults.Refused cause) answer = Does (step_of s (Denied (by_cause cause))) answer s
IsRefusedBy s faults.Memory answer = ⊥

-- the answer refuses the statement for this failure
abbrev pub IsDenied : {S : Type 0} → S → Failure → code_answer.Answer → Type 0
IsDenied s (failures.Refused refusal) answer = Does (step_of s (Denied (refusal_view refusal))) answer s
IsDenied s failures.Memory answer = ⊥

-- the answer prints the text, or the statement is refused by the least of the causes
abbrev pub AnswersText : {X : Type 0} → (X → List ℕ) → Result X Fault → code_answer.Answer → Type 0
AnswersText view text answer =
    (o : Outcome (List ℕ)) → Answers view text o → (db : Database) → Does (step_of db (by_outcome o (Accepted db))) answer db

-- the statement prints the text that was answered
pub record Prints {X : Type 0} (view : X → List ℕ) (db : Database) (s : Statement) (answer : Result X Fault) : Type 0 where
  pub text : Outcome (List ℕ)
  pub told : Answers view answer text
  pub is : carried_out db s ≡ by_outcome text (Accepted db)
