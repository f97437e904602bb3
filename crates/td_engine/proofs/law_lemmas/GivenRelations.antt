-- The relations that INIT and assignments give have only user values that meet the constraints of their types.
use Rattle.std.proofs.Common.{◌≡◌, ◌∷◌, ℕ, Bool, true, false, List, [], Option, Some, None, ap, cond, map, not, option_map, refl, subst}
use Rattle.std.specs.Prelude.{if◌then◌else◌}
use Rattle.std.specs.List.{AllByRecursion}
use Rattle.std.specs.Option.{option_or}
use Rattle.td_algebra.specs.model.Operators.{difference, union}
use Rattle.td_catalog.specs.model.Database.{BaseRelvar, Database, base_named, base_relvar}
use Rattle.td_check.specs.model.OperatorTypes.{known_or, same_heading}
use Rattle.td_engine.specs.model.Assignments.{Given, assignment_value, chosen_for, current, given_by, given_to, of_heading, relation_for, setting_attributes, setting_names, source_world, target_of, updated_relation, with_assignment, with_assigned, with_given, combined_with, without_deleted}
use Rattle.td_engine.specs.model.Machine.{init_relation}
use Rattle.td_engine.proofs.law_lemmas.EachOf.{all_mapped, of_found}
use Rattle.td_eval.proofs.law_lemmas.MetAssignments.{assigned_relations_meet_constraints}
use Rattle.td_eval.proofs.law_lemmas.MetWorlds.{values_meet_constraints}
use Rattle.td_eval.specs.model.DatabaseWorlds.{world_of}
use Rattle.td_eval.specs.model.MetConstraints.{MeetConstraint, MeetsConstraints}
use Rattle.td_eval.specs.laws.MetConstraintLaws.{EachInValues, GivesOnly}
use Rattle.td_eval.specs.model.OperatorValues.{on_relation, set_value}
use Rattle.td_eval.specs.model.TreeValues.{value_of, values_in_tuples}
use Rattle.td_eval.specs.model.Worlds.{World}
use Rattle.td_tree.specs.model.Outcomes.{Outcome, Valued}
use Rattle.td_tree.specs.model.Trees.{Tree, name, parentheses, Assignment, assign, insert, disjoint_insert, delete, included_delete, update, restriction}
use Rattle.td_tree.specs.declared.cause.Cause.TheVariants as causes
use Rattle.td_tree.specs.declared.operator.Operator.TheVariants as operators
use Rattle.td_types.proofs.OutcomeLaws.{value_of_test, value_of_with, valued_is}
use Rattle.td_types.specs.model.TypeLists.{DeclaredType}
use Rattle.td_types.specs.model.Types.{Heading, same_name, unpack}
use Rattle.td_value.specs.model.Sets.{has}
use Rattle.td_value.specs.model.Values.{Val, boolean, integer, char, relation_value, user, tuple, relation, Relation, Tuple, tuple_cmp, unpack_rows, relation_view}

-- the user values in a relation meet the constraints of these types
abbrev pub Meets : List DeclaredType → Relation → Type 0
Meets ds r = MeetsConstraints ds (relation_value r)

-- a relation that is of the heading asked is the one that the value was
same_relation : (target r : Relation) (v : Val) → on_relation v (of_heading target) ≡ Valued r → on_relation v Valued ≡ Valued r
same_relation target r (relation h rs) e =
    let q = relation_view (unpack h) (unpack_rows rs) in
    ap Valued (value_of_test (same_heading q.heading target.heading) q r causes.Heading e).1
same_relation target r (boolean b) e = absurd (cc)
same_relation target r (integer z) e = absurd (cc)
same_relation target r (char s) e = absurd (cc)
same_relation target r (user n ps) e = absurd (cc)
same_relation target r (tuple fs) e = absurd (cc)

module _ (ds : List DeclaredType) where
  -- ---- one assignment

  module _ (w : World) (gives : GivesOnly (MeetConstraint ds) w) where
    -- the value of an expression
    pub source_meets : (target : Relation) (e : Tree) (r : Relation) → relation_for target w e ≡ Valued r → Meets ds r
    source_meets target e r is =
        let valued = value_of_with (value_of w [] e) (λ v. on_relation v (of_heading target)) r is in
        let met = values_meet_constraints.values ds w [] e valued.0 gives tt valued.1 in
        assigned_relations_meet_constraints.related ds valued.0 r met (same_relation target r valued.0 valued.2)

    -- the tuples that UPDATE changes
    chosen_meets : (cur : Relation) (target : List ℕ) (condition : Option Tree) (r : Relation) → Meets ds cur → chosen_for cur w target condition ≡ Valued r
        → Meets ds r
    chosen_meets cur target None r met is = subst (Meets ds) (valued_is cur r is) met
    chosen_meets cur target (Some p) r met is = source_meets cur (restriction (name target) (parentheses p)) r is

    -- the chosen tuples with what is set, and the others
    updated_meets : (cur : Relation) (names : List (List ℕ)) (fs : List (Tuple → Outcome Val)) (chosen r : Relation) → Meets ds cur → Meets ds chosen
        → EachInValues (MeetConstraint ds) chosen fs → updated_relation cur names fs chosen ≡ Valued r → Meets ds r
    updated_meets cur names fs chosen r met part values is =
        let attributes = value_of_with (setting_attributes cur.heading names) _ r is in
        let set = value_of_with (set_value attributes.0 fs chosen) _ r attributes.2 in
        let headed = value_of_with (of_heading cur set.0) _ r set.2 in
        let one : set.0 ≡ headed.0 = (value_of_test (same_heading set.0.heading cur.heading) set.0 headed.0 causes.Heading headed.1).1 in
        let new : Meets ds headed.0 = subst (Meets ds) one (assigned_relations_meet_constraints.set ds attributes.0 fs chosen set.0 part values set.1) in
        let old = assigned_relations_meet_constraints.restricted ds (λ t. not (has tuple_cmp t chosen.body)) cur met in
        subst (Meets ds) (valued_is (union (difference cur chosen) headed.0) r headed.2)
        (assigned_relations_meet_constraints.united ds (difference cur chosen) headed.0 old new)

    -- what an assignment gives to its target
    assigned_meets : (cur : Relation) (a : Assignment) (r : Relation) → Meets ds cur → assignment_value w cur a ≡ Valued r → Meets ds r
    assigned_meets cur (assign target source) r met is = source_meets cur source r is
    assigned_meets cur (insert target source) r met is = source_meets cur (combined_with target operators.Union source) r is
    assigned_meets cur (disjoint_insert target source) r met is = source_meets cur (combined_with target operators.DisjointUnion source) r is
    assigned_meets cur (included_delete target source) r met is = source_meets cur (combined_with target operators.IncludedMinus source) r is
    assigned_meets cur (delete target None) r met is = subst (Meets ds) (valued_is (relation_view cur.heading []) r is) tt
    assigned_meets cur (delete target (Some p)) r met is = source_meets cur (without_deleted target p) r is
    assigned_meets cur (update style target condition settings) r met is =
        let fs = values_in_tuples w [] settings in
        let chosen = value_of_with (chosen_for cur w target condition) (updated_relation cur (setting_names settings) fs) r is in
        let part = chosen_meets cur target condition chosen.0 met chosen.1 in
        updated_meets cur (setting_names settings) fs chosen.0 r met part
        (values_meet_constraints.parts ds w [] settings chosen.0 gives tt part) chosen.2

  -- ---- what targets were given

  -- the relations given
  abbrev pub AreMet : Given → Type 0
  AreMet = AllByRecursion (λ (g : List ℕ × Relation). Meets ds g.1)

  -- one more, or in place of what its target was given before
  given_more : (target : List ℕ) (r : Relation) (given : Given) → Meets ds r → AreMet given → AreMet (with_given target r given)
  given_more target r [] met h = (met, tt)
  given_more target r (g ∷ given) met h = by_test (same_name target g.0) (given_more target r given met h.1)
    where
      by_test : (b : Bool) → AreMet (with_given target r given) → AreMet (if b then (g.0, r) ∷ given else g ∷ with_given target r given)
      by_test true rest = (met, h.1)
      by_test false rest = (h.0, rest)

  -- that of a target
  given_met : (target : List ℕ) (given : Given) (r : Relation) → AreMet given → given_to target given ≡ Some r → Meets ds r
  given_met target [] r h e = absurd (cc)
  given_met target (g ∷ given) r h e = by_test (same_name target g.0) (given_met target given r h.1) e
    where
      one : Some g.1 ≡ Some r → g.1 ≡ r
      one f = cc

      by_test : (b : Bool) → (given_to target given ≡ Some r → Meets ds r) → cond b (Some g.1) (given_to target given) ≡ Some r → Meets ds r
      by_test true rest f = subst (Meets ds) (one f) h.0
      by_test false rest f = rest f

  -- the relations that base relvars hold
  abbrev HoldMet : List BaseRelvar → Type 0
  HoldMet = AllByRecursion (λ (b : BaseRelvar). Meets ds b.relation)

  -- the relation of a relvar so far
  current_meets : (db : Database) (given : Given) (target : List ℕ) (r : Relation) → HoldMet db.bases → AreMet given → current db given target ≡ Valued r
      → Meets ds r
  current_meets db given target r held h is = by_given (given_to target given) (λ q. given_met target given q h) is
    where
      by_base : (o : Option BaseRelvar) → ((b : BaseRelvar) → o ≡ Some b → Meets ds b.relation)
          → known_or causes.NameUnknown (option_map (λ (b : BaseRelvar). b.relation) o) ≡ Valued r → Meets ds r
      by_base None k e = absurd (cc)
      by_base (Some b) k e = subst (Meets ds) (valued_is b.relation r e) (k b refl)

      by_given : (o : Option Relation) → ((q : Relation) → o ≡ Some q → Meets ds q)
          → known_or causes.NameUnknown (option_or o (option_map (λ (b : BaseRelvar). b.relation) (base_named target db))) ≡ Valued r → Meets ds r
      by_given (Some q) k e = subst (Meets ds) (valued_is q r e) (k q refl)
      by_given None k e =
          by_base (base_named target db)
          (λ b. of_found (λ (c : BaseRelvar). Meets ds c.relation) (λ (c : BaseRelvar). same_name c.name target) db.bases b held) e

  -- ---- all of a statement

  module _ (db : Database) (gives : GivesOnly (MeetConstraint ds) (world_of db)) (held : HoldMet db.bases) where
    -- an assignment
    one_given : (given next : Given) (a : Assignment) → AreMet given → with_assignment db given a ≡ Valued next → AreMet next
    one_given given next a h is =
        let cur = value_of_with (current db given (target_of a)) _ next is in
        let met = current_meets db given (target_of a) cur.0 held h cur.1 in
        let w = source_world db (target_of a) cur.0 in
        let r = value_of_with (assignment_value w cur.0 a) _ next cur.2 in
        let new = assigned_meets w (values_meet_constraints.other ds (world_of db) (target_of a) cur.0 gives met) cur.0 a r.0 met r.1 in
        subst AreMet (valued_is (with_given (target_of a) r.0 given) next r.2) (given_more (target_of a) r.0 given new h)

    -- all assignments in turn
    pub all_given_meet : (given done : Given) (assignments : List Assignment) → AreMet given → given_by db given assignments ≡ Valued done → AreMet done
    all_given_meet given done [] h is = subst AreMet (valued_is given done is) h
    all_given_meet given done (a ∷ rest) h is =
        let next = value_of_with (with_assignment db given a) (λ g. given_by db g rest) done is in
        all_given_meet next.0 done rest (one_given given next.0 a h next.1) next.2

  -- a base relvar with what it was given
  assigned_value_meets : (given : Given) → AreMet given → (b : BaseRelvar) → Meets ds b.relation → Meets ds (with_assigned given b).relation
  assigned_value_meets given h b met = by_given (given_to b.name given) (λ q. given_met b.name given q h)
    where
      by_given : (o : Option Relation) → ((q : Relation) → o ≡ Some q → Meets ds q)
          → Meets ds (elim o as (λ _. BaseRelvar) [ Some r ↦ base_relvar b.name b.keys r | None ↦ b ]).relation
      by_given (Some q) k = k q refl
      by_given None k = met

  -- the base relvars with what they were given
  pub all_assigned_meet : (given : Given) → AreMet given → (bases : List BaseRelvar) → HoldMet bases → HoldMet (map (with_assigned given) bases)
  all_assigned_meet given h =
      all_mapped (λ (b : BaseRelvar). Meets ds b.relation) (λ (b : BaseRelvar). Meets ds b.relation) (with_assigned given) (assigned_value_meets given h)

-- ---- INIT

-- the relation of a new relvar
pub init_meets : (db : Database) (init : Option Tree) (h : Heading) (r : Relation) → GivesOnly (MeetConstraint db.types) (world_of db)
    → init_relation db init h ≡ Valued r → Meets db.types r
init_meets db None h r gives is = subst (Meets db.types) (valued_is (relation_view h []) r is) tt
init_meets db (Some init) h r gives is = source_meets db.types (world_of db) gives (relation_view h []) init r is
