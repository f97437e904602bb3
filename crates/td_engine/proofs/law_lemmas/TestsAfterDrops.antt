-- An entry that is dropped, which none mentions, changes no test of the virtual relvars and constraints that are left.
use Rattle.std.proofs.Common.{◌≡◌, ◌∙◌, ◌∷◌, ℕ, Bool, true, false, Contains, List, [], ap, map, refl, sym, true≢false}
use Rattle.std.specs.Prelude.{if◌then◌else◌}
use Rattle.std.specs.List.{AllByRecursion}
use Rattle.std.specs.Set.{remove_key}
use Rattle.td_algebra.proofs.Lists.{contains_none}
use Rattle.td_catalog.specs.model.Database.{BaseRelvar, Database, NamedConstraint, VirtualRelvar, database_scope, without_constraint, without_relvar, without_type}
use Rattle.td_catalog.specs.model.TypedDatabases.{IsTyped, IsTypedConstraint}
use Rattle.td_catalog.specs.model.Mentioned.{tree_mentions_relvar, tree_mentions_type}
use Rattle.td_check.proofs.AgreementLaws.{only_one}
use Rattle.td_check.specs.model.Mentions.{relvars_in, types_in}
use Rattle.td_engine.proofs.law_lemmas.EachOf.{all_both, all_given, all_removed}
use Rattle.td_engine.proofs.law_lemmas.SameTests.{IsKnown, all_known, name_checked, same_test, same_truth}
use Rattle.td_engine.proofs.law_lemmas.WrittenStatements.{conditions_written}
use Rattle.td_engine.specs.model.Legality.{HasKeysThatHold, IsLegal, IsTrueOf}
use Rattle.td_eval.proofs.law_lemmas.DistinctNames.{distinct_rest, first_apart}
use Rattle.td_eval.proofs.law_lemmas.DroppedEntries.{drops_change_no_value}
use Rattle.td_eval.proofs.code_lemmas.WorldParts.{virtual_name}
use Rattle.td_eval.specs.model.DatabaseWorlds.{world_of}
use Rattle.td_eval.specs.laws.ValueLaws.{IsChecked}
use Rattle.td_tree.specs.model.Trees.{name}
use Rattle.td_types.proofs.HeadingLaws.{same_name-itself}
use Rattle.td_types.proofs.NameTests.{name_tests_tell}
use Rattle.td_types.specs.model.Headings.{are_distinct, has_name}
use Rattle.td_types.specs.model.Types.{boolean, same_name}
use Rattle.std.specs.Cmp.Lexicographic.{same_text}
use Rattle.td_tree.specs.model.WrittenTrees.{IsWritten}

-- ---- names

-- a name that is not among names is not one of them
not_contained : (n : List ℕ) (ns : List (List ℕ)) → has_name n ns ≡ false → Contains ns n → ⊥
not_contained n ns e c = true≢false (sym ((name_tests_tell.0 n ns).1 c) ∙ e)

-- those that are left have other names than the one that is dropped
abbrev IsOther : List ℕ → VirtualRelvar → Type 0
IsOther dropped v = same_name v.name dropped ≡ false

-- a name that is not among the names of virtual relvars is that of none
all_apart : (n : List ℕ) (vs : List VirtualRelvar) → has_name n (map virtual_name vs) ≡ false → AllByRecursion (IsOther n) vs
all_apart n [] h = tt
all_apart n (v ∷ vs) h = by_test (same_name v.name n) refl h (all_apart n vs)
  where
    by_test : (b : Bool) → same_name v.name n ≡ b → has_name n (v.name ∷ map virtual_name vs) ≡ false
        → (has_name n (map virtual_name vs) ≡ false → AllByRecursion (IsOther n) vs) → AllByRecursion (IsOther n) (v ∷ vs)
    by_test true is e rest = absurd (true≢false (sym (rw is refl) ∙ e))
    by_test false is e rest = (is, rest (rw is at e))

-- names are distinct, so one alone has that name
all_other : (dropped : List ℕ) (vs : List VirtualRelvar) → are_distinct (map virtual_name vs) ≡ true
    → AllByRecursion (IsOther dropped) (remove_key (λ (v : VirtualRelvar). same_name v.name dropped) vs)
all_other dropped [] d = tt
all_other dropped (v ∷ vs) d = by_test (same_name v.name dropped) refl (all_other dropped vs apart.1)
  where
    apart : (has_name v.name (map virtual_name vs) ≡ false) × (are_distinct (map virtual_name vs) ≡ true)
    apart = first_apart v.name (map virtual_name vs) d

    by_test : (b : Bool) → same_name v.name dropped ≡ b
        → AllByRecursion (IsOther dropped) (remove_key (λ (u : VirtualRelvar). same_name u.name dropped) vs)
        → AllByRecursion (IsOther dropped) (if b then vs else v ∷ remove_key (λ (u : VirtualRelvar). same_name u.name dropped) vs)
    by_test true is rest =
        all_apart dropped vs (ap (λ n. has_name n (map virtual_name vs)) (sym (same_text v.name dropped (sym is))) ∙ apart.0)
    by_test false is rest = (is, rest)

-- ---- a database

module _ (db : Database) (legal : IsLegal db) where
  -- a constraint is one that has a type
  abbrev pub IsAsked : NamedConstraint → Type 0
  IsAsked c = IsTypedConstraint (database_scope db) c × IsWritten c.tree

  -- all are such
  pub all_asked : AllByRecursion IsAsked db.constraints
  all_asked =
      all_both (IsTypedConstraint (database_scope db)) (λ (c : NamedConstraint). IsWritten c.tree) db.constraints legal.typed.constraints (conditions_written db legal.spelled)

  -- its expression has a type, and is written
  pub tree_checked : (c : NamedConstraint) → IsAsked c → IsChecked (database_scope db) [] c.tree
  tree_checked c asked = record { tuples = tt; written = asked.1; typed = (boolean, asked.0) }

  -- ---- one constraint less

  module _ (dropped : List ℕ) (is_typed : IsTyped (without_constraint dropped db)) where
    -- the virtual relvars
    pub virtuals_without_constraint : AllByRecursion (HasKeysThatHold (world_of (without_constraint dropped db))) db.virtuals
    virtuals_without_constraint =
        all_given (IsKnown db) (HasKeysThatHold (world_of db)) (HasKeysThatHold (world_of (without_constraint dropped db)))
        (λ v known. same_test (world_of db) (world_of (without_constraint dropped db)) v
        (drops_change_no_value.constraint db dropped [] (name v.name) legal.typed is_typed (name_checked db v known)))
        db.virtuals (all_known db) legal.virtuals

    -- the constraints that are left
    pub constraints_without_constraint : AllByRecursion (IsTrueOf (world_of (without_constraint dropped db))) (without_constraint dropped db).constraints
    constraints_without_constraint =
        all_removed (IsTrueOf (world_of (without_constraint dropped db))) (λ (c : NamedConstraint). same_name c.name dropped) db.constraints
        (all_given IsAsked (IsTrueOf (world_of db)) (IsTrueOf (world_of (without_constraint dropped db)))
        (λ c asked. same_truth (world_of db) (world_of (without_constraint dropped db)) c
        (drops_change_no_value.constraint db dropped [] c.tree legal.typed is_typed (tree_checked c asked)))
        db.constraints all_asked legal.constraints)

  -- ---- one type less

  module _ (dropped : List ℕ) (is_typed : IsTyped (without_type dropped db)) where
    -- the virtual relvars
    pub virtuals_without_type : AllByRecursion (HasKeysThatHold (world_of (without_type dropped db))) db.virtuals
    virtuals_without_type =
        all_given (IsKnown db) (HasKeysThatHold (world_of db)) (HasKeysThatHold (world_of (without_type dropped db)))
        (λ v known. same_test (world_of db) (world_of (without_type dropped db)) v
        (drops_change_no_value.type db dropped [] (name v.name) legal.typed is_typed (name_checked db v known)
        (λ h c. absurd (contains_none h c)) (λ c. contains_none dropped c)))
        db.virtuals (all_known db) legal.virtuals

    -- a constraint that does not mention it
    abbrev pub LacksType : NamedConstraint → Type 0
    LacksType c = tree_mentions_type dropped c.tree ≡ false

    -- the constraints
    pub constraints_without_type : AllByRecursion LacksType db.constraints → AllByRecursion (IsTrueOf (world_of (without_type dropped db))) db.constraints
    constraints_without_type unused =
        all_given (λ (c : NamedConstraint). IsAsked c × LacksType c) (IsTrueOf (world_of db)) (IsTrueOf (world_of (without_type dropped db)))
        (λ c known. same_truth (world_of db) (world_of (without_type dropped db)) c
        (drops_change_no_value.type db dropped [] c.tree legal.typed is_typed (tree_checked c known.0)
        (λ h i. absurd (contains_none h i)) (not_contained dropped (types_in c.tree) known.1)))
        db.constraints (all_both IsAsked LacksType db.constraints all_asked unused) legal.constraints

  -- ---- one relvar less

  module _ (dropped : List ℕ) (is_typed : IsTyped (without_relvar dropped db)) where
    -- the name of another does not mention it
    name_unmentioned : (v : VirtualRelvar) → IsKnown db v → IsOther dropped v → Contains (relvars_in (database_scope db) (name v.name)) dropped → ⊥
    name_unmentioned v (k, is) other c =
        let mentioned : Contains (v.name ∷ []) dropped = rw is at c in
        let same : v.name ≡ dropped = only_one v.name dropped mentioned in
        true≢false (sym (same_name-itself dropped) ∙ ap (λ n. same_name n dropped) (sym same) ∙ other)

    -- the virtual relvars that are left
    pub virtuals_without_relvar : AllByRecursion (HasKeysThatHold (world_of (without_relvar dropped db))) (without_relvar dropped db).virtuals
    virtuals_without_relvar =
        let test = λ (v : VirtualRelvar). same_name v.name dropped in
        let few = remove_key test db.virtuals in
        let distinct = distinct_rest (map (λ (r : BaseRelvar). r.name) db.bases) (map virtual_name db.virtuals) legal.typed.distinct in
        all_given (λ (v : VirtualRelvar). IsKnown db v × IsOther dropped v) (HasKeysThatHold (world_of db)) (HasKeysThatHold (world_of (without_relvar dropped db)))
        (λ v known. same_test (world_of db) (world_of (without_relvar dropped db)) v
        (drops_change_no_value.relvar db dropped [] (name v.name) legal.typed is_typed (name_checked db v known.0)
        (name_unmentioned v known.0 known.1)))
        few (all_both (IsKnown db) (IsOther dropped) few (all_removed (IsKnown db) test db.virtuals (all_known db)) (all_other dropped db.virtuals distinct))
        (all_removed (HasKeysThatHold (world_of db)) test db.virtuals legal.virtuals)

    -- a constraint that does not mention it
    abbrev pub LacksRelvar : NamedConstraint → Type 0
    LacksRelvar c = tree_mentions_relvar (database_scope db) dropped c.tree ≡ false

    -- the constraints
    pub constraints_without_relvar : AllByRecursion LacksRelvar db.constraints → AllByRecursion (IsTrueOf (world_of (without_relvar dropped db))) db.constraints
    constraints_without_relvar unused =
        all_given (λ (c : NamedConstraint). IsAsked c × LacksRelvar c) (IsTrueOf (world_of db)) (IsTrueOf (world_of (without_relvar dropped db)))
        (λ c known. same_truth (world_of db) (world_of (without_relvar dropped db)) c
        (drops_change_no_value.relvar db dropped [] c.tree legal.typed is_typed (tree_checked c known.0)
        (not_contained dropped (relvars_in (database_scope db) c.tree) known.1)))
        db.constraints (all_both IsAsked LacksRelvar db.constraints all_asked unused) legal.constraints
