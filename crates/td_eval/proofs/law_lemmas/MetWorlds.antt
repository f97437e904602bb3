-- The world of a database whose base relvars have only user values that meet the constraints of their types gives only such.
use Rattle.std.proofs.Common.{◌≡◌, ◌∙◌, ℕ, Bool, true, false, None, Option, Some, List, [], ◌∷◌, fold, option_map, subst, sym}
use Rattle.std.specs.Option.{option_or}
use Rattle.std.specs.Prelude.{if◌then◌else◌}
use Rattle.std.specs.List.{AllByRecursion}
use Rattle.td_catalog.specs.model.Database.{BaseRelvar, Database, VirtualRelvar, base_among}
use Rattle.td_catalog.specs.model.TypedDatabases.{IsTyped}
use Rattle.td_eval.proofs.law_lemmas.LiteralValues.{selects}
use Rattle.td_eval.proofs.law_lemmas.MetConstraints.{what_selectors_give_meets}
use Rattle.td_eval.proofs.law_lemmas.MetOperators.{HasOnly}
use Rattle.td_eval.proofs.law_lemmas.MetTrees.{values_have, values_in_parts}
use Rattle.td_eval.specs.model.DatabaseWorlds.{with_other, with_virtual_value, world_of, world_of_bases}
use Rattle.td_eval.specs.model.MetConstraints.{EachInParts, MeetConstraint}
use Rattle.td_eval.specs.laws.MetConstraintLaws.{GivesOnly, ValuesMeetConstraints}
use Rattle.td_eval.specs.model.TreeValues.{value_of}
use Rattle.td_eval.specs.model.Worlds.{World, selector_outcome}
use Rattle.td_tree.specs.model.Outcomes.{Outcome, Valued}
use Rattle.td_types.specs.model.Types.{same_name}
use Rattle.td_value.specs.model.Values.{Val, Parts, Relation, pack_parts, relation_value}

module _ (P : List ℕ → Parts → Type 0) where
  -- ---- one relvar more or another

  outcome_meets : (o : Outcome Val) (v : Val) → (o ≡ Valued v → HasOnly P v) → Some o ≡ Some (Valued v) → HasOnly P v
  outcome_meets o v h e = let is : o ≡ Valued v = cc in h is

  one_virtual : (w : World) (v : VirtualRelvar) → GivesOnly P w → GivesOnly P (with_virtual_value w v)
  one_virtual w v gives = record { relvars = λ n u e. by_option n u (w.relvar n) (gives.relvars n u) e; selectors = gives.selectors }
    where
      by_test : (u : Val) (b : Bool) → (if b then Some (value_of w [] v.tree) else None) ≡ Some (Valued u) → HasOnly P u
      by_test u true e = outcome_meets (value_of w [] v.tree) u (λ is. values_have P w gives [] v.tree u tt is) e
      by_test u false e = absurd (cc)

      by_option : (n : List ℕ) (u : Val) (o : Option (Outcome Val)) → (o ≡ Some (Valued u) → HasOnly P u)
          → option_or o (if same_name v.name n then Some (value_of w [] v.tree) else None) ≡ Some (Valued u) → HasOnly P u
      by_option n u (Some p) h e = h e
      by_option n u None h e = by_test u (same_name v.name n) e

  all_virtuals : (vs : List VirtualRelvar) (w : World) → GivesOnly P w → GivesOnly P (fold with_virtual_value w vs)
  all_virtuals [] w gives = gives
  all_virtuals (v ∷ vs) w gives = all_virtuals vs (with_virtual_value w v) (one_virtual w v gives)

  pub other_gives : (w : World) (n : List ℕ) (r : Relation) → GivesOnly P w → HasOnly P (relation_value r) → GivesOnly P (with_other (Some (n, r)) w)
  other_gives w n r gives met = record { relvars = λ m v e. by_test m v (same_name n m) e; selectors = gives.selectors }
    where
      by_test : (m : List ℕ) (v : Val) (b : Bool) → (if b then Some (Valued (relation_value r)) else w.relvar m) ≡ Some (Valued v) → HasOnly P v
      by_test m v true e = let is : relation_value r ≡ v = cc in subst (HasOnly P) is met
      by_test m v false e = gives.relvars m v e

  -- ---- a database

  pub packed_parts_meet : (vs : List Val) → AllByRecursion (HasOnly P) vs → EachInParts P (pack_parts vs)
  packed_parts_meet [] h = tt
  packed_parts_meet (v ∷ vs) h = (h.0, packed_parts_meet vs h.1)

  -- the relation that a base relvar holds
  held_meets : (n : List ℕ) (bs : List BaseRelvar) → AllByRecursion (λ (b : BaseRelvar). HasOnly P (relation_value b.relation)) bs → (v : Val)
      → option_map (λ (b : BaseRelvar). Valued (relation_value b.relation)) (base_among n bs) ≡ Some (Valued v) → HasOnly P v
  held_meets n [] h v e = absurd (cc)
  held_meets n (b ∷ bs) h v e = by_test (same_name b.name n) (held_meets n bs h.1 v) e
    where
      by_test : (t : Bool)
          → (option_map (λ (b : BaseRelvar). Valued (relation_value b.relation)) (base_among n bs) ≡ Some (Valued v) → HasOnly P v)
          → option_map (λ (b : BaseRelvar). Valued (relation_value b.relation)) (if t then Some b else base_among n bs) ≡ Some (Valued v) → HasOnly P v
      by_test true rest f = let is : relation_value b.relation ≡ v = cc in subst (HasOnly P) is h.0
      by_test false rest f = rest f

module _ (db : Database) (is_typed : IsTyped db) where
  selectors_give : (n : List ℕ) (vs : List Val) (v : Val) → AllByRecursion (HasOnly (MeetConstraint db.types)) vs
      → selector_outcome (world_of_bases db) n vs ≡ Valued v → HasOnly (MeetConstraint db.types) v
  selectors_give n vs v h e =
      let P = MeetConstraint db.types in
      let given = what_selectors_give_meets db n vs v is_typed (selects db n vs ∙ e) in
      subst (HasOnly P) (sym given.0) (given.1, packed_parts_meet P vs h)

  pub database_gives : AllByRecursion (λ (b : BaseRelvar). HasOnly (MeetConstraint db.types) (relation_value b.relation)) db.bases
      → GivesOnly (MeetConstraint db.types) (world_of db)
  database_gives h =
      all_virtuals (MeetConstraint db.types) db.virtuals (world_of_bases db)
      (record { relvars = λ n v e. held_meets (MeetConstraint db.types) n db.bases h v e; selectors = selectors_give })

pub values_meet_constraints : ValuesMeetConstraints
values_meet_constraints =
    record {
      values = λ ds w s e v gives. values_have (MeetConstraint ds) w gives s e v;
      parts = λ ds w s parts r gives. values_in_parts (MeetConstraint ds) w gives s parts r;
      world = database_gives;
      other = λ ds. other_gives (MeetConstraint ds);
    }
