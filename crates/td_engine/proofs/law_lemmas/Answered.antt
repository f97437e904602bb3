-- Answers to statements that are refused, and to those that are admitted.
use Rattle.std.proofs.Common.{◌≡◌, ◌∙◌, ℕ, List, None, Result, Ok, Err, ap, refl, subst, sym}
use Rattle.std.specs.Prelude.{IfOk, IsTrue, is_none}
use Rattle.std.specs.String.{string_bytes}
use Rattle.td_catalog.specs.model.Database.{Database}
use Rattle.td_engine.specs.code.Carried.{AnswersText, Changes, IsAdmitted, IsDenied, IsOfDatabase, IsRefusedBy, Prints}
use Rattle.td_engine.specs.laws.LegalityLaws.{IsSpelledStatement}
use Rattle.td_engine.specs.model.Machine.{Accepted, Denied, Effect, State, Step, by_outcome, carried_out, effect, effect_in, keeping, ok_text, state_of, step_of, step_of_outcome}
use Rattle.td_engine.specs.model.Refusals.{by_cause}
use Rattle.td_engine.specs.model.Legality.{IsLegal}
use Rattle.td_engine.specs.code.Steps.{Does, IsParsed, IsStep}
use Rattle.td_engine.specs.declared.answer.Answer as code
use Rattle.td_engine.specs.declared.refusal.Failure.{Failure}
use Rattle.td_engine.specs.declared.refusal.Failure.TheVariants as failures
use Rattle.td_engine.proofs.law_lemmas.Admitted.{some_cause}
use Rattle.td_engine.proofs.law_lemmas.KeptLegal.{carried_legal}
use Rattle.td_parse.specs.model.Meanings.{Parsed, bad_token, nothing_spelled, statement_spelled}
use Rattle.td_tree.specs.model.Outcomes.{Answers, Outcome, Valued, Refused, least}
use Rattle.td_tree.specs.model.Statements.{PlacedToken}
use Rattle.td_tree.specs.code.TreeViews.{statement_view}
use Rattle.td_tree.specs.model.Trees.{Statement, empty, define_type, drop_type, define_base, define_virtual, drop_var, define_constraint, drop_constraint, assign_all, begin_transaction, commit, rollback, write, dump}
use Rattle.td_tree.specs.declared.fault.Fault.{Fault}
use Rattle.td_tree.specs.declared.fault.Fault.TheVariants as faults
use Rattle.td_tree.specs.declared.statement.Statement as code_tree
use Rattle.td_types.proofs.OutcomeLaws.{valued_is}

-- what is refused by the cause of an answer
pub refused_does : {X A S : Type 0} (u : X → A) (fault : Fault) (answer : code.Answer) (old : S) (o : Outcome A) (k : A → Effect S) → Answers u (Err fault) o
    → IsRefusedBy old fault answer → Does (step_of old (by_outcome o k)) answer old
refused_does u (faults.Refused c) answer old (Valued x) k h does = absurd (cc)
refused_does u (faults.Refused c) answer old (Refused cs) k h does =
    subst (λ d. Does (step_of old (Denied (by_cause d))) answer old) (sym (some_cause (least cs) c h)) does
refused_does u faults.Memory answer old o k h does = absurd does

-- what is refused by a check
pub denied_does : (failure : Failure) (answer : code.Answer) (db new : Database) (e : Effect Database) → Changes new (Err failure) e → IsDenied db failure answer
    → Does (step_of db e) answer db
denied_does (failures.Refused refusal) answer db new e h does = subst (λ f. Does (step_of db f) answer db) (sym h) does
denied_does failures.Memory answer db new e h does = absurd does

-- no text is printed where there are causes
pub text_refused : {X : Type 0} (view : X → List ℕ) (text : Result X Fault) (fault : Fault) {E : Type 0} (result : Result code.Answer E) → text ≡ Err fault
    → IfOk result (λ a. (db : Database) → IsRefusedBy db fault a) → IfOk result (AnswersText view text)
text_refused view text fault (Ok a) is refused =
    λ o answers db. refused_does view fault a db o (Accepted db) (subst (λ r. Answers view r o) is answers) (refused db)
text_refused view text fault (Err e) is refused = tt

-- a statement that meets the static rules is carried out
pub admitted_effect : (db : Database) (s : Statement) → IsAdmitted db s → effect db s ≡ carried_out db s
admitted_effect db s is = ap (λ o. by_outcome o (λ _. carried_out db s)) is.checked

-- a text that is printed is what it does
pub text_does : {X : Type 0} (view : X → List ℕ) (inside db : Database) (s : Statement) (text : Result X Fault) {E : Type 0} (result : Result code.Answer E) → inside ≡ db
    → IsAdmitted db s → Prints view inside s text → IfOk result (AnswersText view text) → IfOk result (λ a. Does (step_of db (effect db s)) a db)
text_does view inside db s text (Ok a) at is prints answers =
    let there = subst (λ (d : Database). Prints view d s text) at prints in
    let same : by_outcome there.text (Accepted db) ≡ effect db s = sym there.is ∙ sym (admitted_effect db s is) in
    subst (λ e. Does (step_of db e) a db) same (answers there.text there.told db)
text_does view inside db s text (Err e) at is prints answers = tt

-- what it makes is legal
pub changed_legal : (db new : Database) (s : Statement) → IsLegal db → IsAdmitted db s → carried_out db s ≡ Accepted new ok_text → IsLegal new
changed_legal db new s legal is accepted = carried_legal db new ok_text legal s is accepted

-- what was done is a step of the tokens that were read so
pub parsed_step : (old new : State) (tokens : List PlacedToken) (o : Outcome Statement) (answer : code.Answer) → Parsed tokens o → Does (step_of_outcome old o) answer new
    → IsStep old tokens answer new
parsed_step old new tokens o answer parsed does = record { step = (o, parsed, does.is); accepted = does.accepted }

-- what tokens were read as is spelled
pub read_spelled : (tokens : List PlacedToken) (r : Result code_tree.Statement Fault) (s : code_tree.Statement) → IsParsed tokens r → r ≡ Ok s → IsSpelledStatement (statement_view s)
read_spelled tokens r s is e = by_meaning is.0 is.1 (subst (λ q. Answers statement_view q is.0) e is.2)
  where
    by_meaning : (o : Outcome Statement) → Parsed tokens o → o ≡ Valued (statement_view s) → IsSpelledStatement (statement_view s)
    by_meaning _ (bad_token bad) h = absurd (cc)
    by_meaning _ (nothing_spelled good none) h = absurd (cc)
    by_meaning _ (statement_spelled {s = t} good only) h = subst IsSpelledStatement (valued_is t (statement_view s) h) (tokens, only.0)

-- an answer OK to what is accepted
pub ok_does : {S : Type 0} (answer : code.Answer) (old new : S) (e : Effect S) → e ≡ Accepted new ok_text → IsTrue answer.accepted × (answer.cause ≡ None)
    → string_bytes answer.text ≡ ok_text → Does (step_of old e) answer new
ok_does answer old new e is flag text =
    subst (λ f. Does (step_of old f) answer new) (sym is) (record {
      is = λ i. record { after = new; cause = flag.1 i; text = text i };
      accepted = flag.0 ∙ ap is_none (sym flag.1);
    })

pub parsed_spelled : (tokens : List PlacedToken) (r : Result code_tree.Statement Fault) → IsParsed tokens r → IfOk r (λ s. IsSpelledStatement (statement_view s))
parsed_spelled tokens (Ok s) is = read_spelled tokens (Ok s) s is refl
parsed_spelled tokens (Err fault) is = tt

-- ---- statements that are not of transactions

-- they do to the state what they do to its database
pub of_database : (s : State) (statement : Statement) → IsOfDatabase statement → effect_in s statement ≡ keeping s.kept (effect s.database statement)
of_database s empty is = refl
of_database s (define_type n cs k) is = refl
of_database s (drop_type n) is = refl
of_database s (define_base n h init keys) is = refl
of_database s (define_virtual n x keys) is = refl
of_database s (drop_var n) is = refl
of_database s (define_constraint n x) is = refl
of_database s (drop_constraint n) is = refl
of_database s (assign_all assignments) is = refl
of_database s begin_transaction is = absurd is
of_database s commit is = absurd is
of_database s rollback is = absurd is
of_database s (write x) is = refl
of_database s dump is = refl

-- the step, where these databases are kept
abbrev with_kept : List Database → Step Database → Step State
with_kept kept step = record { after = state_of step.after kept; cause = step.cause; text = step.text }

step_with_kept : (kept : List Database) (db : Database) (e : Effect Database) → with_kept kept (step_of db e) ≡ step_of (state_of db kept) (keeping kept e)
step_with_kept kept db (Accepted new text) = refl
step_with_kept kept db (Denied refusal) = refl

-- an answer that is that of the database is that of the state
pub database_does : (kept : List Database) (answer : code.Answer) (db new : Database) (statement : Statement) → IsOfDatabase statement
    → Does (step_of db (effect db statement)) answer new → Does (step_of (state_of db kept) (effect_in (state_of db kept) statement)) answer (state_of new kept)
database_does kept answer db new statement is does =
    record {
      is = ap (with_kept kept) does.is ∙ step_with_kept kept db (effect db statement) ∙ ap (step_of (state_of db kept)) (sym (of_database (state_of db kept) statement is));
      accepted = does.accepted;
    }
