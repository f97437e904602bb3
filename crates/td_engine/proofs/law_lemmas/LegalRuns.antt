-- From a legal state each statement, and each list of them, comes to a legal one.
use Rattle.std.proofs.Common.{◌≡◌, ◌∷◌, Bool, true, false, nat_lt, List, [], arith, refl, subst, sym}
use Rattle.std.proofs.lemmas.Bool.Decides.{nat_tests}
use Rattle.std.specs.Prelude.{◌<◌, length, if◌then◌else◌}
use Rattle.td_catalog.specs.model.Database.{Database}
use Rattle.td_engine.proofs.law_lemmas.Answered.{of_database}
use Rattle.td_engine.proofs.law_lemmas.KeptLegal.{accepted_keep_legal}
use Rattle.td_engine.proofs.law_lemmas.Transactions.{begin_legal, commit_legal, rollback_legal}
use Rattle.td_engine.specs.code.Carried.{IsOfDatabase}
use Rattle.td_engine.specs.model.Machine.{Accepted, Denied, Effect, Progress, Runs, State, Step, Steps, and_then, begun_transaction, committed_transaction, denied_transaction, effect, effect_in, keeping, next, nothing, ok_text, rolled_back, state_of, step_of, step_of_outcome, stopped, transaction_limit}
use Rattle.td_engine.specs.model.Legality.{IsLegalState}
use Rattle.td_engine.specs.laws.LegalityLaws.{RunsKeepLegality, IsSpelledStatement}
use Rattle.td_parse.specs.model.Meanings.{Parsed, bad_token, nothing_spelled, statement_spelled}
use Rattle.td_tree.specs.model.Outcomes.{Outcome}
use Rattle.td_tree.specs.model.Statements.{PlacedToken}
use Rattle.td_tree.specs.model.Trees.{Statement, empty, define_type, drop_type, define_base, define_virtual, drop_var, define_constraint, drop_constraint, assign_all, begin_transaction, commit, rollback, write, dump}

-- what an effect leaves
abbrev left_by : State → Effect State → State
left_by old e = (step_of old e).after

module _ (old : State) (legal : IsLegalState old) where
  begin_left : IsLegalState (left_by old (begun_transaction old))
  begin_left = by_room (nat_lt (length old.kept) transaction_limit) refl
    where
      by_room : (b : Bool) → nat_lt (length old.kept) transaction_limit ≡ b
          → IsLegalState (left_by old (if b then Accepted (state_of old.database (old.database ∷ old.kept)) ok_text else denied_transaction))
      by_room true is = begin_legal old (old.database ∷ old.kept) legal (room is) refl
        where
          room : nat_lt (length old.kept) transaction_limit ≡ true → length old.kept < transaction_limit
          room e = grind (arith, nat_tests)
      by_room false is = legal

  commit_left : (kept : List Database) → old.kept ≡ kept → IsLegalState (left_by old (committed_transaction old.database kept))
  commit_left [] is = legal
  commit_left (last ∷ others) is = commit_legal old last others legal is

  rollback_left : (kept : List Database) → old.kept ≡ kept → IsLegalState (left_by old (rolled_back kept))
  rollback_left [] is = legal
  rollback_left (last ∷ others) is = rollback_legal old last others legal is

  -- what is done to the database
  kept_left : (s : Statement) → IsSpelledStatement s → (e : Effect Database) → effect old.database s ≡ e → IsLegalState (left_by old (keeping old.kept e))
  kept_left s spelled (Accepted new text) is =
      record { database = accepted_keep_legal old.database new s text legal.database spelled is; kept = legal.kept; few = legal.few }
  kept_left s spelled (Denied refusal) is = legal

  database_left : (s : Statement) → IsSpelledStatement s → IsOfDatabase s → IsLegalState (left_by old (effect_in old s))
  database_left s spelled is =
      subst (λ e. IsLegalState (left_by old e)) (sym (of_database old s is)) (kept_left s spelled (effect old.database s) refl)

  statement_left : (s : Statement) → IsSpelledStatement s → IsLegalState (left_by old (effect_in old s))
  statement_left begin_transaction spelled = begin_left
  statement_left commit spelled = commit_left old.kept refl
  statement_left rollback spelled = rollback_left old.kept refl
  statement_left empty spelled = database_left empty spelled tt
  statement_left (define_type n cs k) spelled = database_left (define_type n cs k) spelled tt
  statement_left (drop_type n) spelled = database_left (drop_type n) spelled tt
  statement_left (define_base n h init keys) spelled = database_left (define_base n h init keys) spelled tt
  statement_left (define_virtual n x keys) spelled = database_left (define_virtual n x keys) spelled tt
  statement_left (drop_var n) spelled = database_left (drop_var n) spelled tt
  statement_left (define_constraint n x) spelled = database_left (define_constraint n x) spelled tt
  statement_left (drop_constraint n) spelled = database_left (drop_constraint n) spelled tt
  statement_left (assign_all assignments) spelled = database_left (assign_all assignments) spelled tt
  statement_left (write x) spelled = database_left (write x) spelled tt
  statement_left dump spelled = database_left dump spelled tt

  meant_left : (tokens : List PlacedToken) (meant : Outcome Statement) → Parsed tokens meant → IsLegalState (step_of_outcome old meant).after
  meant_left tokens _ (bad_token bad) = legal
  meant_left tokens _ (nothing_spelled good none) = legal
  meant_left tokens _ (statement_spelled {s = s} good only) = statement_left s (tokens, only.0)

  pub step_left : (tokens : List PlacedToken) (step : Step State) → Steps old tokens step → IsLegalState step.after
  step_left tokens step does = subst (λ (t : Step State). IsLegalState t.after) (sym does.2) (meant_left tokens does.0 does.1)

run_left : (stop : Bool) (so_far : Progress) (script : List (List PlacedToken)) (p : Progress) → IsLegalState so_far.state → Runs stop so_far script p
    → IsLegalState p.state
run_left stop so_far script p legal nothing = legal
run_left stop so_far script p legal (stopped over) = legal
run_left stop so_far script p legal (next {s = s} {ss = ss} step goes steps rest) =
    run_left stop (and_then so_far step) ss p (step_left so_far.state legal s step steps) rest

pub runs_keep_legal : RunsKeepLegality
runs_keep_legal stop s legal script p runs = run_left stop _ script p legal runs
