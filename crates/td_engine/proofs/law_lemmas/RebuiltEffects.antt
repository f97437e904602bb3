-- When a statement of a definition is accepted: what it asks holds, and what it makes passes the checks.
use Rattle.std.proofs.Common.{◌≡◌, ◌∙◌, ℕ, Bool, true, false, List, ap, not, refl, sym, true≢false}
use Rattle.std.specs.Prelude.{is_some, ⊤}
use Rattle.td_catalog.specs.model.Database.{Database, database_scope, relvar_names}
use Rattle.td_check.specs.model.OperatorTypes.{over_relation}
use Rattle.td_check.specs.model.Scopes.{known_relvar}
use Rattle.td_check.specs.model.StatementTypes.{both_hold, holds_or, statement_checked}
use Rattle.td_engine.specs.model.Machine.{Accepted, by_outcome, carried_out, checked_effect, effect, ok_text}
use Rattle.td_eval.proofs.law_lemmas.KnownRelvars.{known_name}
use Rattle.td_tree.specs.model.Outcomes.{Outcome, Valued, with_value}
use Rattle.td_tree.specs.model.Trees.{Statement}
use Rattle.td_tree.specs.declared.cause.Cause.{Cause}
use Rattle.td_tree.specs.declared.cause.Cause.TheVariants as causes
use Rattle.td_types.specs.model.Headings.{has_name}
use Rattle.td_types.specs.code.TypeCode.{unpack_pack}
use Rattle.td_types.specs.model.Types.{Heading, Type', pack, relation}

-- ---- what is asked

-- two things hold
pub both_asked : (p q : Outcome ⊤) → p ≡ Valued tt → q ≡ Valued tt → both_hold p q ≡ Valued tt
both_asked p q e f = λ i. both_hold (e i) (f i)

-- a test is passed
pub is_asked : (cause : Cause) (test : Bool) → test ≡ true → holds_or cause test ≡ Valued tt
is_asked cause test e = ap (holds_or cause) e

-- no entry has the name
pub is_free : (taken : Bool) → taken ≡ false → holds_or causes.NameTaken (not taken) ≡ Valued tt
is_free taken e = ap (λ b. holds_or causes.NameTaken (not b)) e

-- a name that no relvar has finds none
pub unknown_name : (db : Database) (n : List ℕ) → has_name n (relvar_names db) ≡ false → is_some (known_relvar (database_scope db) n) ≡ false
unknown_name db n e = by_test (is_some (known_relvar (database_scope db) n)) refl
  where
    by_test : (b : Bool) → is_some (known_relvar (database_scope db) n) ≡ b → b ≡ false
    by_test true is = absurd (true≢false (sym (known_name db n is) ∙ e))
    by_test false is = refl

-- what follows of the type of a relation
pub over_heading : {A : Type 0} (o : Outcome Type') (h : Heading) (f : Heading → Outcome A) → o ≡ Valued (relation (pack h))
    → with_value o (λ t. over_relation t f) ≡ f h
over_heading o h f e = ap (λ p. with_value p (λ t. over_relation t f)) e ∙ ap f (unpack_pack h)

-- ---- what is accepted

-- what meets the static rules and makes a database that passes the checks
pub accepted_by : (old new : Database) (s : Statement) → statement_checked (database_scope old) s ≡ Valued tt → carried_out old s ≡ checked_effect new
    → checked_effect new ≡ Accepted new ok_text → effect old s ≡ Accepted new ok_text
accepted_by old new s checked carried passes = ap (λ o. by_outcome o (λ _. carried_out old s)) checked ∙ carried ∙ passes
