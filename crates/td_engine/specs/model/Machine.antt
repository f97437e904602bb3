-- The set machine: what a statement does to a database, and what it answers (Tutorial D's; causes, the order of checks and the
-- texts are this project's own).
use Rattle.std.specs.Prelude.{◌≡◌, ℕ, ◌+◌, Bool, true, false, ◌&&◌, if◌then◌else◌, List, [], ◌∷◌, ◌++◌, length, map, Option, Some, None, codes, nat_lt}
use Rattle.td_catalog.specs.model.Database.{Database, base_relvar, database_scope, empty_database, named_constraint, virtual_relvar, with_base, with_constraint, with_declared, with_virtual, without_constraint, without_relvar, without_type}
use Rattle.td_catalog.specs.model.Dumps.{dump_text, ordered_names}
use Rattle.td_catalog.specs.model.Mentioned.{constraint_droppable, relvar_droppable, type_droppable}
use Rattle.td_check.specs.model.OperatorTypes.{over_relation}
use Rattle.td_check.specs.model.StatementTypes.{components_meant, statement_checked}
use Rattle.td_check.specs.model.StaticTypes.{type_of}
use Rattle.td_engine.specs.model.Assignments.{assigned_database, relation_for}
use Rattle.td_engine.specs.model.Checks.{database_check}
use Rattle.td_engine.specs.model.Refusals.{Refusal, by_cause, cause_of_refusal, line, refusal_text}
use Rattle.td_eval.specs.model.DatabaseWorlds.{world_of}
use Rattle.td_eval.specs.model.TreeValues.{value_of}
use Rattle.td_parse.specs.model.Meanings.{Parsed}
use Rattle.td_tree.specs.model.Outcomes.{Outcome, Valued, Refused, least, with_value}
use Rattle.td_tree.specs.model.Statements.{PlacedToken}
use Rattle.td_tree.specs.model.Trees.{AttributeTrees, Text, Tree, Statement, empty, define_type, drop_type, define_base, define_virtual, drop_var, define_constraint, drop_constraint, assign_all, begin_transaction, commit, rollback, write, dump}
use Rattle.td_tree.specs.declared.cause.Cause.{Cause}
use Rattle.td_tree.specs.declared.cause.Cause.TheVariants as causes
use Rattle.td_types.specs.model.TypeLists.{declared_type, heading_meant}
use Rattle.td_types.specs.model.Types.{Heading}
use Rattle.td_value.specs.model.Literal.{literal}
use Rattle.td_value.specs.model.Values.{Relation, relation_view}

-- what a statement comes to: what stands after it, with the text of its answer, or why it is refused
pub data Effect (S : Type 0) : Type 0 where
  Accepted : S → List ℕ → Effect S
  Denied : Refusal → Effect S

-- the effect of a value; where there is none, a refusal by the least of the causes
abbrev pub by_outcome : {A S : Type 0} → Outcome A → (A → Effect S) → Effect S
by_outcome (Valued x) f = f x
by_outcome (Refused cs) f = Denied (by_cause (least cs))

-- the answer to what is accepted and prints nothing else
abbrev pub ok_text : List ℕ
ok_text = line (codes "OK")

-- a change is accepted where no check refuses
abbrev pub unless_refused : Option Refusal → Database → Effect Database
unless_refused None db = Accepted db ok_text
unless_refused (Some refusal) db = Denied refusal

abbrev pub checked_effect : Database → Effect Database
checked_effect db = unless_refused (database_check db) db

-- ---- definitions: what is defined stands last in its list; a key is a set of names, kept in name order

abbrev pub type_defined : Database → Text → AttributeTrees → Option Tree → Outcome Database
type_defined db name components constraint =
    with_value (components_meant db.types components) (λ attributes. Valued (with_declared (declared_type name attributes constraint) db))

-- the relation of a new relvar: INIT's value, which is of its heading; without INIT no tuple
abbrev pub init_relation : Database → Option Tree → Heading → Outcome Relation
init_relation db None h = Valued (relation_view h [])
init_relation db (Some init) h = relation_for (relation_view h []) (world_of db) init

abbrev pub base_defined : Database → Text → AttributeTrees → Option Tree → List (List Text) → Outcome Database
base_defined db name heading init keys =
    with_value (with_value (heading_meant db.types heading) (init_relation db init))
    (λ r. Valued (with_base (base_relvar name (map (ordered_names r.heading) keys) r) db))

abbrev pub virtual_defined : Database → Text → Tree → List (List Text) → Outcome Database
virtual_defined db name expression keys =
    with_value (type_of (database_scope db) expression)
    (λ t. over_relation t (λ h. Valued (with_virtual (virtual_relvar name h expression (map (ordered_names h) keys)) db)))

-- ---- drops: what no entry mentions

abbrev pub type_dropped : Database → Text → Outcome Database
type_dropped db name = with_value (type_droppable name db) (λ _. Valued (without_type name db))

abbrev pub relvar_dropped : Database → Text → Outcome Database
relvar_dropped db name = with_value (relvar_droppable name db) (λ _. Valued (without_relvar name db))

abbrev pub constraint_dropped : Database → Text → Outcome Database
constraint_dropped db name = with_value (constraint_droppable name db) (λ _. Valued (without_constraint name db))

-- ---- statements that are of the database alone

-- a change that no check follows
abbrev pub unchecked_effect : Database → Effect Database
unchecked_effect db = Accepted db ok_text

-- what a statement that meets the static rules does to the database; those of transactions do nothing here: they change which
-- database stands, below
abbrev pub carried_out : Database → Statement → Effect Database
carried_out db empty = unchecked_effect db
carried_out db (define_type name components constraint) = by_outcome (type_defined db name components constraint) checked_effect
carried_out db (drop_type name) = by_outcome (type_dropped db name) unchecked_effect
carried_out db (define_base name heading init keys) = by_outcome (base_defined db name heading init keys) checked_effect
carried_out db (define_virtual name expression keys) = by_outcome (virtual_defined db name expression keys) checked_effect
carried_out db (drop_var name) = by_outcome (relvar_dropped db name) unchecked_effect
carried_out db (define_constraint name condition) = checked_effect (with_constraint (named_constraint name condition) db)
carried_out db (drop_constraint name) = by_outcome (constraint_dropped db name) unchecked_effect
carried_out db (assign_all assignments) = by_outcome (assigned_database db assignments) checked_effect
carried_out db begin_transaction = unchecked_effect db
carried_out db commit = unchecked_effect db
carried_out db rollback = unchecked_effect db
carried_out db (write expression) = by_outcome (value_of (world_of db) [] expression) (λ v. Accepted db (line (literal v)))
carried_out db dump = Accepted db (dump_text db)

-- the static causes come before what follows
abbrev pub effect : Database → Statement → Effect Database
effect db statement = by_outcome (statement_checked (database_scope db) statement) (λ _. carried_out db statement)

-- ---- transactions

-- the state of the machine: the database, and those that the open transactions keep, the last begun first
pub record State : Type 0 where
  pub database : Database
  pub kept : List Database

abbrev pub state_of : Database → List Database → State
state_of database kept = record { database = database; kept = kept }

-- nothing is defined, and no transaction is open
abbrev pub empty_state : State
empty_state = state_of empty_database []

-- the most transactions that may be open
abbrev pub transaction_limit : ℕ
transaction_limit = 16

abbrev pub denied_transaction : Effect State
denied_transaction = Denied (by_cause causes.Transaction)

-- BEGIN TRANSACTION keeps the database
abbrev pub begun_transaction : State → Effect State
begun_transaction s =
    if nat_lt (length s.kept) transaction_limit then Accepted (state_of s.database (s.database ∷ s.kept)) ok_text else denied_transaction

-- COMMIT lets go of the database kept last
abbrev pub committed_transaction : Database → List Database → Effect State
committed_transaction db [] = denied_transaction
committed_transaction db (last ∷ others) = Accepted (state_of db others) ok_text

-- ROLLBACK goes back to it
abbrev pub rolled_back : List Database → Effect State
rolled_back [] = denied_transaction
rolled_back (last ∷ others) = Accepted (state_of last others) ok_text

-- what changes the database alone leaves what is kept
abbrev pub keeping : List Database → Effect Database → Effect State
keeping kept (Accepted db text) = Accepted (state_of db kept) text
keeping kept (Denied refusal) = Denied refusal

-- what a statement does
abbrev pub effect_in : State → Statement → Effect State
effect_in s begin_transaction = begun_transaction s
effect_in s commit = committed_transaction s.database s.kept
effect_in s rollback = rolled_back s.kept
effect_in s statement = keeping s.kept (effect s.database statement)

-- ---- steps

-- what a statement does: what stands after it, why it is refused, if it is, and the text of its answer
pub record Step (S : Type 0) : Type 0 where
  pub after : S
  pub cause : Option Cause
  pub text : List ℕ

-- a refused statement changes nothing
abbrev pub step_of : {S : Type 0} → S → Effect S → Step S
step_of old (Accepted new text) = record { after = new; cause = None; text = text }
step_of old (Denied refusal) = record { after = old; cause = Some (cause_of_refusal refusal); text = line (refusal_text refusal) }

-- what is meant, or is refused by the least of its causes
abbrev pub step_of_outcome : State → Outcome Statement → Step State
step_of_outcome s meant = step_of s (by_outcome meant (effect_in s))

-- what a list of tokens does: what they mean does it, and what they mean is SCAN where one is bad, else SYNTAX where they spell
-- no statement
abbrev pub Steps : State → List PlacedToken → Step State → Type 0
Steps s tokens step = (meant : Outcome Statement) × Parsed tokens meant × (step ≡ step_of_outcome s meant)

-- ---- runs

-- what a run has done so far
pub record Progress : Type 0 where
  pub state : State
  pub text : List ℕ
  pub statements : ℕ
  pub refusals : ℕ

abbrev pub progress_at_first : State → Progress
progress_at_first s = record { state = s; text = []; statements = 0; refusals = 0 }

abbrev pub refusals_of : Option Cause → ℕ
refusals_of None = 0
refusals_of (Some cause) = 1

-- one statement more
abbrev pub and_then : Progress → Step State → Progress
and_then so_far step = record {
  state = step.after;
  text = so_far.text ++ step.text;
  statements = so_far.statements + 1;
  refusals = so_far.refusals + refusals_of step.cause;
}

-- with `stop` nothing after the first refused statement counts
abbrev pub has_stopped : Bool → Progress → Bool
has_stopped stop so_far = stop && nat_lt 0 so_far.refusals

-- these statements in turn, from what was done so far
pub data Runs (stop : Bool) : Progress → List (List PlacedToken) → Progress → Type 0 where
  nothing : {p : Progress} → Runs stop p [] p
  stopped : {p : Progress} {s : List PlacedToken} {ss : List (List PlacedToken)} → has_stopped stop p ≡ true → Runs stop p (s ∷ ss) p
  next : {p q : Progress} {s : List PlacedToken} {ss : List (List PlacedToken)} (step : Step State) → has_stopped stop p ≡ false → Steps p.state s step → Runs stop (and_then p step) ss q → Runs stop p (s ∷ ss) q
