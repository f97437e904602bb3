-- What holds of a database that passed the checks: its virtual relvars have keys that hold, and its constraints are TRUE.
use Rattle.std.proofs.Common.{◌≡◌, ◌∷◌, Bool, true, false, List, [], Option, Some, None, refl}
use Rattle.std.specs.List.{AllByRecursion}
use Rattle.std.specs.Option.{option_or}
use Rattle.td_catalog.specs.model.Database.{Database}
use Rattle.td_engine.specs.model.Checks.{base_check, constraint_check, database_check, derived_check, first_refusal, refusal_unless_passed, virtual_check, virtual_test}
use Rattle.td_engine.specs.model.Refusals.{Refusal, by_constraint, by_key}
use Rattle.td_engine.specs.model.Legality.{HasKeysThatHold, IsTrueOf}
use Rattle.td_eval.specs.model.DatabaseWorlds.{world_of}
use Rattle.td_eval.specs.model.OperatorValues.{truth_value}
use Rattle.td_eval.specs.model.TreeValues.{value_of}
use Rattle.td_tree.specs.model.Outcomes.{Outcome, Valued, Refused}

-- a test that is passed is TRUE
pub passed_test : (r : Refusal) (o : Outcome Bool) → refusal_unless_passed r o ≡ None → o ≡ Valued true
passed_test r (Valued true) e = refl
passed_test r (Valued false) e = absurd (cc)
passed_test r (Refused cs) e = absurd (cc)

-- neither of two is there
pub neither_there : {A : Type 0} (o p : Option A) → option_or o p ≡ None → (o ≡ None) × (p ≡ None)
neither_there None p e = (refl, e)
neither_there (Some x) p e = absurd (cc)

-- where no check refuses, each is passed
pub all_pass : {A : Type 0} (check : A → Option Refusal) (P : A → Type 0) → ((x : A) → check x ≡ None → P x) → (xs : List A) → first_refusal check xs ≡ None
    → AllByRecursion P xs
all_pass check P says [] e = tt
all_pass check P says (x ∷ xs) e =
    let both = neither_there (check x) (first_refusal check xs) e in
    (says x both.0, all_pass check P says xs both.1)

-- what the checks say of a database
pub record Passed (db : Database) : Type 0 where
  pub virtuals : AllByRecursion (HasKeysThatHold (world_of db)) db.virtuals
  pub constraints : AllByRecursion (IsTrueOf (world_of db)) db.constraints

-- a database of which no check refuses has passed them
pub passed : (db : Database) → database_check db ≡ None → Passed db
passed db e =
    let w = world_of db in
    let derived = (neither_there (first_refusal base_check db.bases) (derived_check db) e).1 in
    let both = neither_there (first_refusal (virtual_check w) db.virtuals) (first_refusal (constraint_check w) db.constraints) derived in
    record {
      virtuals = all_pass (virtual_check w) (HasKeysThatHold w) (λ v. passed_test (by_key v.name) (virtual_test w v)) db.virtuals both.0;
      constraints = all_pass (constraint_check w) (IsTrueOf w) (λ c. passed_test (by_constraint c.name) (truth_value (value_of w [] c.tree))) db.constraints both.1;
    }
