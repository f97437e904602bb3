-- The tests of virtual relvars and of constraints say the same where names and expressions have the same values; and each virtual
-- relvar of a database is known by its name.
use Rattle.std.proofs.Common.{◌≡◌, ◌∙◌, ◌∷◌, ℕ, Bool, true, false, List, [], Option, Some, None, ap, refl, sym, true≢false}
use Rattle.std.specs.Prelude.{if◌then◌else◌, is_some}
use Rattle.std.specs.List.{AllByRecursion}
use Rattle.td_catalog.specs.model.Database.{Database, NamedConstraint, VirtualRelvar, database_scope}
use Rattle.td_check.specs.model.Scopes.{KnownRelvar, known_relvar}
use Rattle.td_engine.proofs.law_lemmas.EachOf.{all_given}
use Rattle.td_engine.specs.model.Checks.{keys_hold}
use Rattle.td_engine.specs.model.Legality.{HasKeysThatHold, IsTrueOf}
use Rattle.td_eval.proofs.law_lemmas.KnownRelvars.{named, unknown_parts}
use Rattle.td_eval.proofs.code_lemmas.WorldParts.{virtual_name}
use Rattle.td_eval.specs.model.OperatorValues.{on_relation, truth_value}
use Rattle.td_eval.specs.model.TreeValues.{value_of}
use Rattle.td_eval.specs.laws.ValueLaws.{IsChecked}
use Rattle.td_eval.specs.model.Worlds.{World, name_value}
use Rattle.td_tree.specs.model.Outcomes.{Outcome, Valued, with_value}
use Rattle.td_tree.specs.model.Trees.{name}
use Rattle.td_types.proofs.HeadingLaws.{same_name-itself}
use Rattle.td_types.specs.model.Types.{pack, relation, same_name}

-- ---- tests

-- the keys of a virtual relvar hold where its name has the same value
pub same_test : (w u : World) (v : VirtualRelvar) → name_value u [] v.name ≡ name_value w [] v.name → HasKeysThatHold w v → HasKeysThatHold u v
same_test w u v e h = by_keys v.keys ∙ h
  where
    by_keys : (keys : List (List (List ℕ)))
        → (elim keys as (λ _. Outcome Bool) [
          | [] ↦ Valued true
          | key ∷ rest ↦ with_value (name_value u [] v.name) (λ value. on_relation value (λ r. Valued (keys_hold v.keys r.body)))
        ])
        ≡ (elim keys as (λ _. Outcome Bool) [
          | [] ↦ Valued true
          | key ∷ rest ↦ with_value (name_value w [] v.name) (λ value. on_relation value (λ r. Valued (keys_hold v.keys r.body)))
        ])
    by_keys [] = refl
    by_keys (key ∷ rest) = ap (λ o. with_value o (λ value. on_relation value (λ r. Valued (keys_hold v.keys r.body)))) e

-- a constraint is TRUE where its expression has the same value
pub same_truth : (w u : World) (c : NamedConstraint) → value_of u [] c.tree ≡ value_of w [] c.tree → IsTrueOf w c → IsTrueOf u c
same_truth w u c e h = ap truth_value e ∙ h

-- ---- the names of virtual relvars

-- each of a list of virtual relvars is found there by its name
abbrev IsFound : List VirtualRelvar → VirtualRelvar → Type 0
IsFound vs v = is_some (named virtual_name v.name vs) ≡ true

-- so is each
all_found : (vs : List VirtualRelvar) → AllByRecursion (IsFound vs) vs
all_found [] = tt
all_found (v ∷ vs) =
    (rw (same_name-itself v.name) refl, all_given (IsFound vs) (IsFound vs) (IsFound (v ∷ vs)) (λ u f g. behind u f) vs (all_found vs) (all_found vs))
  where
    behind : (u : VirtualRelvar) → IsFound vs u → IsFound (v ∷ vs) u
    behind u f = by_test (same_name v.name u.name)
      where
        by_test : (b : Bool) → is_some (if b then Some v else named virtual_name u.name vs) ≡ true
        by_test true = refl
        by_test false = f

module _ (db : Database) where
  -- each virtual relvar is known by its name
  abbrev pub IsKnown : VirtualRelvar → Type 0
  IsKnown v = (k : KnownRelvar) × (known_relvar (database_scope db) v.name ≡ Some k)

  -- one that is found by its name is known
  found_known : (v : VirtualRelvar) → IsFound db.virtuals v → IsKnown v
  found_known v found = by_option (known_relvar (database_scope db) v.name) refl
    where
      by_option : (o : Option KnownRelvar) → known_relvar (database_scope db) v.name ≡ o → IsKnown v
      by_option (Some k) is = (k, is)
      by_option None is = absurd (true≢false (sym found ∙ ap is_some (unknown_parts db v.name is).1))

  -- all are
  pub all_known : AllByRecursion IsKnown db.virtuals
  all_known =
      all_given (IsFound db.virtuals) (IsFound db.virtuals) IsKnown (λ v f g. found_known v f) db.virtuals (all_found db.virtuals) (all_found db.virtuals)

  -- its name is an expression that has a type
  pub name_checked : (v : VirtualRelvar) → IsKnown v → IsChecked (database_scope db) [] (name v.name)
  name_checked v (k, is) = record { tuples = tt; written = (tt, tt); typed = (relation (pack k.heading), rw is refl) }
