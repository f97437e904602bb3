-- What an accepted statement changed, and that the checks that follow its change were passed.
use Rattle.std.proofs.Common.{◌≡◌, ℕ, List, Option, Some, None, refl}
use Rattle.td_catalog.specs.model.Database.{Database}
use Rattle.td_engine.specs.model.Checks.{database_check}
use Rattle.td_engine.specs.model.Machine.{Effect, Accepted, by_outcome, checked_effect, unchecked_effect, unless_refused}
use Rattle.td_engine.specs.model.Refusals.{Refusal}
use Rattle.td_tree.specs.model.Outcomes.{Outcome, Valued, Refused}

-- an effect that is accepted tells the database
pub accepted_is : (db new : Database) (t u : List ℕ) → Accepted db t ≡ Accepted new u → db ≡ new
accepted_is db new t u e = cc

-- there was a value, and what followed was accepted
pub followed : {A : Type 0} (o : Outcome A) (f : A → Effect Database) (new : Database) (text : List ℕ) → by_outcome o f ≡ Accepted new text
    → (x : A) × (o ≡ Valued x) × (f x ≡ Accepted new text)
followed (Valued x) f new text e = (x, refl, e)
followed (Refused cs) f new text e = absurd (cc)

-- a change that no check follows
pub dropped_to : (db new : Database) (text : List ℕ) → unchecked_effect db ≡ Accepted new text → db ≡ new
dropped_to db new text e = accepted_is db new _ text e

-- a change that was accepted is made, and no check refuses
pub changed_to : (db new : Database) (text : List ℕ) → checked_effect db ≡ Accepted new text → (db ≡ new) × (database_check db ≡ None)
changed_to db new text e = by_check (database_check db) e
  where
    by_check : (o : Option Refusal) → unless_refused o db ≡ Accepted new text → (db ≡ new) × (o ≡ None)
    by_check None f = (accepted_is db new _ text f, refl)
    by_check (Some refusal) f = absurd (cc)
