-- Where base relvars of a legal database hold other relations, the virtual relvars and constraints that this does not reach pass
-- their checks.
use Rattle.std.proofs.Common.{◌≡◌, ◌∙◌, ◌∷◌, ℕ, Bool, true, false, List, [], Some, None, ap, map, refl, subst, sym, true≢false}
use Rattle.std.specs.Cmp.Lexicographic.{same_text}
use Rattle.std.specs.Prelude.{◌||◌, cond, if◌then◌else◌}
use Rattle.std.specs.List.{AllByRecursion}
use Rattle.std.specs.Map.{keys_of}
use Rattle.td_catalog.specs.model.Database.{BaseRelvar, Database, NamedConstraint, VirtualRelvar, base_among}
use Rattle.td_catalog.specs.model.TypedDatabases.{IsTyped}
use Rattle.td_engine.proofs.law_lemmas.EachOf.{all_given, neither}
use Rattle.td_engine.proofs.law_lemmas.AssignedBases.{given_none, same_named}
use Rattle.td_engine.proofs.law_lemmas.SameTests.{IsKnown, all_known, name_checked, same_test, same_truth}
use Rattle.td_engine.proofs.law_lemmas.TestsAfterDrops.{IsAsked, all_asked, tree_checked}
use Rattle.td_engine.specs.model.Assignments.{Given, given_to, with_assigned, with_all_assigned}
use Rattle.td_engine.specs.code.Changes.{given_in}
use Rattle.td_engine.specs.model.Checks.{refusal_unless_passed}
use Rattle.td_engine.specs.declared.change.Change.{Change}
use Rattle.td_engine.specs.laws.LeftOut.{PassesElsewhere, PassesUnlessNamed, PassesUnlessReached}
use Rattle.td_engine.specs.model.Legality.{HasKeysThatHold, IsLegal, IsTrueOf}
use Rattle.td_engine.specs.model.Refusals.{by_constraint, by_key}
use Rattle.td_eval.proofs.law_lemmas.UnreachedValues.{unreached_values_stay}
use Rattle.td_eval.specs.model.DatabaseWorlds.{world_of}
use Rattle.td_eval.specs.laws.ReachedRelvars.{DiffersIn, reached_from}
use Rattle.td_tree.specs.model.Trees.{name}
use Rattle.td_types.proofs.HeadingLaws.{same_name-itself}
use Rattle.td_types.specs.model.Headings.{has_name}
use Rattle.td_types.specs.model.Types.{same_name}

-- ---- what was given

-- a name that is none of those that were given something was given nothing
ungiven : (given : Given) (n : List ℕ) → has_name n (keys_of given) ≡ false → given_to n given ≡ None
ungiven [] n none = refl
ungiven (g ∷ gs) n none = by_test (same_name n g.0) refl (ungiven gs n apart.1)
  where
    apart : (same_name g.0 n ≡ false) × (has_name n (keys_of gs) ≡ false)
    apart = neither (same_name g.0 n) (has_name n (keys_of gs)) none

    by_test : (b : Bool) → same_name n g.0 ≡ b → given_to n gs ≡ None → cond (same_name n g.0) (Some g.1) (given_to n gs) ≡ None
    by_test false is rest = rw is rest
    by_test true is rest =
        let one : n ≡ g.0 = same_text n g.0 (sym is) in
        absurd (true≢false (sym (ap (λ m. same_name m n) (sym one) ∙ same_name-itself n) ∙ apart.0))

-- then the base relvar of that name is as it was
module _ (given : Given) (n : List ℕ) (none : has_name n (keys_of given) ≡ false) where
  still_named : (bases : List BaseRelvar) (r : BaseRelvar) → base_among n bases ≡ Some r → base_among n (map (with_assigned given) bases) ≡ Some r
  still_named [] r is = absurd (cc)
  still_named (b ∷ bs) r is = by_test (same_name b.name n) refl is (still_named bs r)
    where
      by_test : (t : Bool) → same_name b.name n ≡ t → (if t then Some b else base_among n bs) ≡ Some r
          → (base_among n bs ≡ Some r → base_among n (map (with_assigned given) bs) ≡ Some r)
          → base_among n (with_assigned given b ∷ map (with_assigned given) bs) ≡ Some r
      by_test true same found rest =
          let own : with_assigned given b ≡ b =
          given_none given b (ap (λ m. given_to m given) (same_text b.name n (sym same)) ∙ ungiven given n none) in
          ap (λ (c : BaseRelvar). if same_name c.name n then Some c else base_among n (map (with_assigned given) bs)) own ∙ rw same found
      by_test false other found rest =
          ap (λ m. if same_name m n then Some (with_assigned given b) else base_among n (map (with_assigned given) bs)) (same_named given b) ∙ rw other (rest found)

pub all_assigned_differ : (db : Database) (given : Given) → DiffersIn (keys_of given) db (with_all_assigned given db)
all_assigned_differ db given =
    record {
      types = refl;
      virtuals = refl;
      bases = λ n r none is. (r, still_named given n none db.bases r is, refl);
    }

-- ---- what is not reached

module _ (changed : List (List ℕ)) (db next : Database) (legal : IsLegal db) (is_typed : IsTyped next) (differs : DiffersIn changed db next)
    (same : next.constraints ≡ db.constraints) where
  abbrev reached : List (List ℕ)
  reached = reached_from changed db.virtuals

  virtual_passes : (v : VirtualRelvar) → IsKnown db v → HasKeysThatHold (world_of db) v → PassesUnlessReached reached (world_of next) v
  virtual_passes v known holds apart =
      ap (refusal_unless_passed (by_key v.name))
      (same_test (world_of db) (world_of next) v
      (unreached_values_stay changed db next (name v.name) legal.typed is_typed differs (name_checked db v known)
      (ap (λ b. b || false) apart))
      holds)

  constraint_passes : (c : NamedConstraint) → IsAsked db legal c → IsTrueOf (world_of db) c → PassesUnlessNamed reached (world_of next) c
  constraint_passes c asked holds apart =
      ap (refusal_unless_passed (by_constraint c.name))
      (same_truth (world_of db) (world_of next) c
      (unreached_values_stay changed db next c.tree legal.typed is_typed differs (tree_checked db legal c asked) apart)
      holds)

  pub passes_elsewhere : PassesElsewhere (reached_from changed db.virtuals) next
  passes_elsewhere =
      record {
        virtuals =
            subst (AllByRecursion (PassesUnlessReached reached (world_of next))) (sym differs.virtuals)
            (all_given (IsKnown db) (HasKeysThatHold (world_of db)) (PassesUnlessReached reached (world_of next)) virtual_passes db.virtuals (all_known db) legal.virtuals);
        constraints =
            subst (AllByRecursion (PassesUnlessNamed reached (world_of next))) (sym same)
            (all_given (IsAsked db legal) (IsTrueOf (world_of db)) (PassesUnlessNamed reached (world_of next)) constraint_passes db.constraints (all_asked db legal) legal.constraints);
      }

-- ---- what assignments gave

pub all_assigned_pass_elsewhere : (db : Database) (given : Given) → IsLegal db → IsTyped (with_all_assigned given db)
    → PassesElsewhere (reached_from (keys_of given) db.virtuals) (with_all_assigned given db)
all_assigned_pass_elsewhere db given legal is_typed = passes_elsewhere (keys_of given) db (with_all_assigned given db) legal is_typed (all_assigned_differ db given) refl

-- what is given by changes has the targets of these
pub same_targets : (db : Database) (es : List (List ℕ × Change)) → keys_of (given_in db es) ≡ keys_of es
same_targets db [] = refl
same_targets db (e ∷ es) = ap (λ ns. e.0 ∷ ns) (same_targets db es)
