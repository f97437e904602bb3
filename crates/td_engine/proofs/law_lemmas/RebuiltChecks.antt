-- A part of a legal database that is typed passes the checks: in it the virtual relvars and the constraints have the values that
-- they have in the whole.
use Rattle.std.proofs.Common.{◌≡◌, ◌∙◌, ◌∷◌, List, [], Option, None, ap, refl, sym}
use Rattle.std.specs.List.{AllByRecursion}
use Rattle.std.specs.Option.{option_or}
use Rattle.td_catalog.specs.model.Database.{Database, NamedConstraint, database_scope}
use Rattle.td_catalog.specs.model.TypedDatabases.{IsTyped, IsTypedConstraint}
use Rattle.td_engine.proofs.law_lemmas.EachOf.{all_both, all_given}
use Rattle.td_engine.proofs.law_lemmas.PassedChecks.{all_pass}
use Rattle.td_engine.proofs.law_lemmas.RebuiltLists.{all_first}
use Rattle.td_engine.proofs.law_lemmas.RebuiltParts.{IsPart}
use Rattle.td_engine.proofs.law_lemmas.SameTests.{IsKnown, all_known, name_checked, same_test, same_truth}
use Rattle.td_engine.proofs.law_lemmas.Settled.{bases_hold}
use Rattle.td_engine.proofs.law_lemmas.WrittenStatements.{conditions_written}
use Rattle.td_engine.specs.model.Checks.{base_check, constraint_check, database_check, derived_check, first_refusal, refusal_unless_passed, virtual_check}
use Rattle.td_engine.specs.model.Machine.{Accepted, checked_effect, ok_text, unless_refused}
use Rattle.td_engine.specs.model.Refusals.{Refusal, by_constraint, by_key}
use Rattle.td_engine.specs.model.Legality.{HasKeysThatHold, IsLegal, IsTrueOf}
use Rattle.td_eval.proofs.law_lemmas.LaterEntries.{later_entries_change_nothing}
use Rattle.td_eval.specs.model.DatabaseWorlds.{world_of}
use Rattle.td_eval.specs.model.TreeValues.{value_of}
use Rattle.td_eval.specs.laws.ValueLaws.{HasLater, IsChecked}
use Rattle.td_tree.specs.model.Trees.{Tree, name}
use Rattle.td_tree.specs.model.WrittenTrees.{IsWritten}
use Rattle.td_types.specs.model.Types.{boolean}

-- where each is passed, no check refuses
pub none_refuses : {A : Type 0} (check : A → Option Refusal) (P : A → Type 0) → ((x : A) → P x → check x ≡ None) → (xs : List A) → AllByRecursion P xs
    → first_refusal check xs ≡ None
none_refuses check P says [] h = refl
none_refuses check P says (x ∷ xs) h =
    ap (λ o. option_or o (first_refusal check xs)) (says x h.0) ∙ none_refuses check P says xs h.1

module _ (db part : Database) (legal : IsLegal db) (is : IsPart part db) (is_typed : IsTyped part) where
  -- the whole has more entries behind those of the part
  later : HasLater part db
  later = record { types = is.types; bases = is.bases; virtuals = is.virtuals; distinct = legal.typed.distinct }

  same_value : (e : Tree) → IsChecked (database_scope part) [] e → value_of (world_of part) [] e ≡ value_of (world_of db) [] e
  same_value e checked = sym (later_entries_change_nothing.values part db [] e is_typed later checked)

  -- the keys of virtual relvars hold
  virtuals_hold : AllByRecursion (HasKeysThatHold (world_of part)) part.virtuals
  virtuals_hold =
      all_given (IsKnown part) (HasKeysThatHold (world_of db)) (HasKeysThatHold (world_of part))
      (λ v known. same_test (world_of db) (world_of part) v (same_value (name v.name) (name_checked part v known)))
      part.virtuals (all_known part) (all_first (HasKeysThatHold (world_of db)) db.virtuals part.virtuals is.virtuals legal.virtuals)

  -- a constraint has a type, and is written
  abbrev IsAsked : NamedConstraint → Type 0
  IsAsked c = IsTypedConstraint (database_scope part) c × IsWritten c.tree

  all_asked : AllByRecursion IsAsked part.constraints
  all_asked =
      all_both (IsTypedConstraint (database_scope part)) (λ (c : NamedConstraint). IsWritten c.tree) part.constraints is_typed.constraints
      (all_first (λ (c : NamedConstraint). IsWritten c.tree) db.constraints part.constraints is.constraints (conditions_written db legal.spelled))

  -- the constraints are TRUE
  constraints_hold : AllByRecursion (IsTrueOf (world_of part)) part.constraints
  constraints_hold =
      all_given IsAsked (IsTrueOf (world_of db)) (IsTrueOf (world_of part))
      (λ c asked. same_truth (world_of db) (world_of part) c
      (same_value c.tree (record { tuples = tt; written = asked.1; typed = (boolean, asked.0) })))
      part.constraints all_asked (all_first (IsTrueOf (world_of db)) db.constraints part.constraints is.constraints legal.constraints)

  -- no check refuses
  passes : database_check part ≡ None
  passes =
      ap (λ o. option_or o (derived_check part))
      (none_refuses base_check (λ b. base_check b ≡ None) (λ b e. e) part.bases
      (all_first (λ b. base_check b ≡ None) db.bases part.bases is.bases (all_pass base_check (λ b. base_check b ≡ None) (λ b e. e) db.bases (bases_hold db legal))))
      ∙ ap (λ o. option_or o (first_refusal (constraint_check (world_of part)) part.constraints))
      (none_refuses (virtual_check (world_of part)) (HasKeysThatHold (world_of part)) (λ v h. ap (refusal_unless_passed (by_key v.name)) h) part.virtuals virtuals_hold)
      ∙ none_refuses (constraint_check (world_of part)) (IsTrueOf (world_of part)) (λ c h. ap (refusal_unless_passed (by_constraint c.name)) h) part.constraints
      constraints_hold

  pub part_passes : checked_effect part ≡ Accepted part ok_text
  part_passes = ap (λ o. unless_refused o part) passes
