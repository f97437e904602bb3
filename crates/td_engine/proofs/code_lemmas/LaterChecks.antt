-- What a definition adds to a legal database changes no test of the virtual relvars and constraints before it: only what is new
-- is to be checked.
use Rattle.std.proofs.Common.{◌≡◌, ◌∙◌, ◌∷◌, ◌++◌, List, [], Option, Some, None, ap, not, refl}
use Rattle.std.specs.Prelude.{IsTrue}
use Rattle.std.specs.List.{AllByRecursion}
use Rattle.std.specs.Option.{option_or}
use Rattle.td_catalog.specs.model.Database.{BaseRelvar, Database, NamedConstraint, VirtualRelvar, database_scope, knows_relvar, with_base, with_constraint, with_declared, with_virtual}
use Rattle.td_engine.proofs.law_lemmas.EachOf.{all_given}
use Rattle.td_engine.proofs.law_lemmas.RebuiltChecks.{none_refuses}
use Rattle.td_engine.proofs.law_lemmas.SameTests.{IsKnown, all_known, name_checked, same_test, same_truth}
use Rattle.td_engine.proofs.law_lemmas.TestsAfterDrops.{IsAsked, all_asked, tree_checked}
use Rattle.td_engine.specs.model.Checks.{constraint_check, derived_check, first_refusal, refusal_unless_passed, virtual_check}
use Rattle.td_engine.specs.model.Legality.{HasKeysThatHold, IsLegal, IsTrueOf}
use Rattle.td_engine.specs.model.Refusals.{Refusal, by_constraint, by_key}
use Rattle.td_eval.proofs.law_lemmas.LaterEntries.{later_entries_change_nothing}
use Rattle.td_eval.specs.model.DatabaseWorlds.{world_of}
use Rattle.td_eval.specs.model.TreeValues.{value_of}
use Rattle.td_eval.specs.laws.ValueLaws.{HasLater, IsChecked}
use Rattle.td_tree.specs.model.Trees.{Tree, name}
use Rattle.td_types.specs.model.TypeLists.{DeclaredType}

-- behind those of which none refuses the last decides
last_decides : {A : Type 0} (check : A → Option Refusal) (xs : List A) (x : A) → first_refusal check xs ≡ None
    → first_refusal check (xs ++ (x ∷ [])) ≡ check x
last_decides check [] x none = alone (check x)
  where
    alone : (o : Option Refusal) → option_or o None ≡ o
    alone None = refl
    alone (Some r) = refl
last_decides check (y ∷ ys) x none = by_check (check y) refl none (last_decides check ys x)
  where
    by_check : (o : Option Refusal) → check y ≡ o → option_or o (first_refusal check ys) ≡ None
        → (first_refusal check ys ≡ None → first_refusal check (ys ++ (x ∷ [])) ≡ check x)
        → option_or (check y) (first_refusal check (ys ++ (x ∷ []))) ≡ check x
    by_check None is rest behind = ap (λ o. option_or o (first_refusal check (ys ++ (x ∷ [])))) is ∙ behind rest
    by_check (Some r) is rest behind = absurd (cc)

module _ (db next : Database) (legal : IsLegal db) (later : HasLater db next) where
  same_value : (e : Tree) → IsChecked (database_scope db) [] e → value_of (world_of next) [] e ≡ value_of (world_of db) [] e
  same_value e checked = later_entries_change_nothing.values db next [] e legal.typed later checked

  virtuals_still : AllByRecursion (HasKeysThatHold (world_of next)) db.virtuals
  virtuals_still =
      all_given (IsKnown db) (HasKeysThatHold (world_of db)) (HasKeysThatHold (world_of next))
      (λ v known. same_test (world_of db) (world_of next) v (same_value (name v.name) (name_checked db v known)))
      db.virtuals (all_known db) legal.virtuals

  constraints_still : AllByRecursion (IsTrueOf (world_of next)) db.constraints
  constraints_still =
      all_given (IsAsked db legal) (IsTrueOf (world_of db)) (IsTrueOf (world_of next))
      (λ c asked. same_truth (world_of db) (world_of next) c (same_value c.tree (tree_checked db legal c asked)))
      db.constraints (all_asked db legal) legal.constraints

  -- no test of the earlier entries refuses
  virtuals_pass : first_refusal (virtual_check (world_of next)) db.virtuals ≡ None
  virtuals_pass =
      none_refuses (virtual_check (world_of next)) (HasKeysThatHold (world_of next)) (λ v h. ap (refusal_unless_passed (by_key v.name)) h) db.virtuals virtuals_still

  constraints_pass : first_refusal (constraint_check (world_of next)) db.constraints ≡ None
  constraints_pass =
      none_refuses (constraint_check (world_of next)) (IsTrueOf (world_of next)) (λ c h. ap (refusal_unless_passed (by_constraint c.name)) h) db.constraints constraints_still

  both_pass : option_or (first_refusal (virtual_check (world_of next)) db.virtuals) (first_refusal (constraint_check (world_of next)) db.constraints) ≡ None
  both_pass = ap (λ o. option_or o (first_refusal (constraint_check (world_of next)) db.constraints)) virtuals_pass ∙ constraints_pass

module _ (db : Database) (legal : IsLegal db) where
  -- a type and a base relvar add no test
  pub type_passes : (d : DeclaredType) → derived_check (with_declared d db) ≡ None
  type_passes d = both_pass db (with_declared d db) legal (later_entries_change_nothing.one_type db d legal.typed)

  pub base_passes : (r : BaseRelvar) → IsTrue (not (knows_relvar r.name db)) → derived_check (with_base r db) ≡ None
  base_passes r new = both_pass db (with_base r db) legal (later_entries_change_nothing.one_base db r legal.typed new)

  -- a virtual relvar adds its own
  pub virtual_decides : (v : VirtualRelvar) → IsTrue (not (knows_relvar v.name db))
      → derived_check (with_virtual v db) ≡ virtual_check (world_of (with_virtual v db)) v
  virtual_decides v new =
      let next = with_virtual v db in
      let later = later_entries_change_nothing.one_virtual db v legal.typed new in
      let last = last_decides (virtual_check (world_of next)) db.virtuals v (virtuals_pass db next legal later) in
      ap (λ o. option_or o (first_refusal (constraint_check (world_of next)) db.constraints)) last
      ∙ ap (option_or (virtual_check (world_of next) v)) (constraints_pass db next legal later) ∙ alone (virtual_check (world_of next) v)
    where
      alone : (o : Option Refusal) → option_or o None ≡ o
      alone None = refl
      alone (Some r) = refl

  -- a constraint too
  pub constraint_decides : (c : NamedConstraint) → derived_check (with_constraint c db) ≡ constraint_check (world_of (with_constraint c db)) c
  constraint_decides c =
      let next = with_constraint c db in
      let later = later_entries_change_nothing.one_constraint db c legal.typed in
      ap (λ o. option_or o (first_refusal (constraint_check (world_of next)) next.constraints)) (virtuals_pass db next legal later)
      ∙ last_decides (constraint_check (world_of next)) db.constraints c (constraints_pass db next legal later)
