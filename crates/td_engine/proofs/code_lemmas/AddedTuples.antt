-- Where one base relvar of a legal database was changed, constraints that ask of each of its tuples may be tested by those that came
-- in.
use Rattle.std.proofs.Common.{◌≡◌, ◌∙◌, ◌∷◌, ℕ, Bool, true, false, List, [], Option, Some, None, ap, map, refl, subst, sym}
use Rattle.std.specs.Borrow.{Bor}
use Rattle.std.specs.List.{slice_get}
use Rattle.std.specs.Prelude.{◌||◌, IfSome, if◌then◌else◌}
use Rattle.td_catalog.specs.model.Database.{BaseRelvar, Database, NamedConstraint, base_among, base_named, base_relvar, database_scope}
use Rattle.td_catalog.specs.model.TypedDatabases.{IsTyped}
use Rattle.td_engine.proofs.code_lemmas.ConstraintPlanLaws.{scope_stays}
use Rattle.td_engine.proofs.code_lemmas.GivenChanges.{given_of}
use Rattle.td_engine.proofs.law_lemmas.AddedOperators.{operators_keep_additions}
use Rattle.td_engine.proofs.law_lemmas.AddedTrees.{AreWorldsOf, answers, one_refusal, true_value}
use Rattle.td_engine.proofs.law_lemmas.EachOf.{all_given, of_place}
use Rattle.td_engine.proofs.law_lemmas.AssignedBases.{some_is}
use Rattle.td_engine.proofs.law_lemmas.GivenValues.{database_gives, source_gives}
use Rattle.td_engine.proofs.law_lemmas.StayingConditions.{same_after, same_in_source}
use Rattle.td_engine.proofs.law_lemmas.TestsAfterDrops.{IsAsked, all_asked, tree_checked}
use Rattle.td_engine.specs.laws.Additions.{AreAdditions, ConstraintsAreTestedByAdditions, IsOfAdditions, PassesAsAdded}
use Rattle.td_engine.specs.model.Assignments.{Given, source_world, with_assigned, with_all_assigned}
use Rattle.td_engine.specs.code.Changes.{IsTypedChange, changed_by, given_as}
use Rattle.td_engine.specs.code.AddedTuples.{AreTestedBy, IsTestedBy, added_view}
use Rattle.td_engine.specs.code.AssignedRelations.{AreAssigned, IsAssigned}
use Rattle.td_engine.specs.declared.added.Added.{Added}
use Rattle.td_engine.specs.declared.change.Change.{Change}
use Rattle.td_engine.specs.model.Legality.{IsLegal, IsTrueOf}
use Rattle.td_engine.specs.model.Refusals.{by_constraint}
use Rattle.td_eval.proofs.code_lemmas.WorldParts.{base_value, world_scope}
use Rattle.td_eval.specs.model.DatabaseWorlds.{world_of}
use Rattle.td_eval.specs.laws.ReachedRelvars.{reached_from}
use Rattle.td_eval.specs.model.TreeValues.{value_of}
use Rattle.td_eval.specs.laws.UnfailingValues.{GivesValues}
use Rattle.td_eval.specs.laws.ValueTypes.{KeepsScope}
use Rattle.td_eval.specs.model.Worlds.{World}
use Rattle.td_tree.specs.model.Outcomes.{Valued}
use Rattle.td_types.proofs.HeadingLaws.{same_name-itself}
use Rattle.td_types.specs.model.Headings.{has_name}
use Rattle.td_types.specs.model.Types.{same_name}
use Rattle.td_value.specs.model.Values.{IsRelation, Relation, relation_value}

-- ---- a list of constraints

-- one of them may be tested by what came in where all may
pub tested_at : (reached : List (List ℕ)) (db : Database) (place : ℕ) (c : NamedConstraint) (added : Option (Bor Added))
    → slice_get db.constraints place ≡ Some c → IfSome added (AreTestedBy reached db) → IfSome added (IsTestedBy reached db c)
tested_at reached db place c None at all = tt
tested_at reached db place c (Some a) at all =
    (all.gives, of_place (PassesAsAdded reached db (added_view a.now)) db.constraints place c all.passes at)

-- ---- one base relvar

-- it holds what it was given
module _ (n : List ℕ) (q : Relation) where
  base_assigned_among : (bs : List BaseRelvar) (b : BaseRelvar) → base_among n bs ≡ Some b
      → base_among n (map (with_assigned ((n, q) ∷ [])) bs) ≡ Some (base_relvar b.name b.keys q)
  base_assigned_among [] b e = absurd (cc)
  base_assigned_among (x ∷ xs) b e = by_test (same_name x.name n) refl (base_assigned_among xs b)
    where
      by_test : (t : Bool) → same_name x.name n ≡ t
          → (base_among n xs ≡ Some b → base_among n (map (with_assigned ((n, q) ∷ [])) xs) ≡ Some (base_relvar b.name b.keys q))
          → base_among n (map (with_assigned ((n, q) ∷ [])) (x ∷ xs)) ≡ Some (base_relvar b.name b.keys q)
      by_test true is rest =
          let given : with_assigned ((n, q) ∷ []) x ≡ base_relvar x.name x.keys q = rw (with_assigned, is) refl in
          ap (λ (c : BaseRelvar). if same_name c.name n then Some c else base_among n (map (with_assigned ((n, q) ∷ [])) xs)) given
          ∙ rw is (ap (λ (c : BaseRelvar). Some (base_relvar c.name c.keys q)) (some_is x b (rw is at e)))
      by_test false is rest =
          let own : with_assigned ((n, q) ∷ []) x ≡ x = rw (with_assigned, is) refl in
          ap (λ (c : BaseRelvar). if same_name c.name n then Some c else base_among n (map (with_assigned ((n, q) ∷ [])) xs)) own
          ∙ rw is (rest (rw is at e))

module _ (db : Database) (legal : IsLegal db) (relvar : List ℕ) (c : Change) (change : IsTypedChange db (relvar, c)) (is_relation : IsRelation c.add)
    (is_typed : IsTyped (with_all_assigned ((relvar, given_as db relvar c) ∷ []) db)) (all_assigned : AreAssigned db ((relvar, given_as db relvar c) ∷ [])) where
  abbrev base : BaseRelvar
  base = change.is.target

  abbrev assigned : Relation
  assigned = given_as db relvar c

  abbrev given : Given
  given = (relvar, assigned) ∷ []

  abbrev next : Database
  next = with_all_assigned given db

  assigned_is : assigned ≡ changed_by c base.relation
  assigned_is = given_of db relvar c base change.is.named

  named_after : base_named relvar next ≡ Some (base_relvar base.name base.keys assigned)
  named_after = base_assigned_among relvar assigned db.bases base change.is.named

  -- what came in is what the relvar may hold
  added_after : IsAssigned next (relvar, c.add)
  added_after = record {
    target = base_relvar base.name base.keys assigned;
    named = named_after;
    heading = change.is.headings.1 ∙ ap (λ (r : Relation). r.heading) (sym assigned_is);
    relation = is_relation;
    typed = change.typed;
  }

  named_there : (source_world next relvar c.add).relvar relvar ≡ Some (Valued (relation_value c.add))
  named_there = rw (same_name-itself relvar) refl

  -- the same is known in all three worlds
  same_scope : database_scope next ≡ database_scope db
  same_scope = scope_stays db given legal all_assigned

  abbrev reached : List (List ℕ)
  reached = reached_from (relvar ∷ []) db.virtuals

  abbrev there : World
  there = source_world next relvar c.add

  there_gives : GivesValues there (database_scope next)
  there_gives = source_gives next is_typed relvar c.add added_after

  is_changed : has_name relvar (relvar ∷ []) ≡ true
  is_changed = ap (λ b. b || false) (same_name-itself relvar)

  worlds : AreWorldsOf db relvar reached (world_of db) (world_of next) there
  worlds = record {
    old = base.relation;
    new = assigned;
    added = c.add;
    additions =
        subst (λ q. IsOfAdditions base.relation q c.add) (sym assigned_is)
        (operators_keep_additions.changed base.relation c.out c.add change.is.headings.1);
    at_before = base_value db relvar base change.is.named;
    at_after = base_value next relvar (base_relvar base.name base.keys assigned) named_after;
    at_there = named_there;
    scopes = (world_scope db, world_scope next ∙ same_scope, world_scope next ∙ same_scope);
    before_keeps = (database_gives db legal.typed).keeps;
    after_keeps = subst (KeepsScope (world_of next)) same_scope (database_gives next is_typed).keeps;
    there_keeps = subst (KeepsScope there) same_scope there_gives.keeps;
    stays_after = same_after db given legal.typed is_typed;
    stays_there = same_in_source db given legal.typed is_typed relvar c.add is_changed;
  }

  passes : (k : NamedConstraint) → IsAsked db legal k → IsTrueOf (world_of db) k → PassesAsAdded reached next (relvar, c.add) k
  passes k asked holds asks =
      sym (one_refusal (by_constraint k.name) (value_of (world_of next) [] k.tree) (value_of there [] k.tree)
      (answers db relvar reached (world_of db) (world_of next) there worlds k.tree asks (tree_checked db legal k asked)
      (true_value (value_of (world_of db) [] k.tree) holds)))

  -- so constraints may be tested by what came in
  pub additions : AreAdditions (reached_from (relvar ∷ []) db.virtuals) next (relvar, c.add)
  additions = record {
    gives = there_gives;
    passes =
        all_given (IsAsked db legal) (IsTrueOf (world_of db)) (PassesAsAdded (reached_from (relvar ∷ []) db.virtuals) next (relvar, c.add))
        passes db.constraints (all_asked db legal) legal.constraints;
  }

pub constraints_are_tested_by_additions : ConstraintsAreTestedByAdditions
constraints_are_tested_by_additions db relvar c legal change is_relation is_typed all_assigned = additions db legal relvar c change is_relation is_typed all_assigned
