-- What keeps a database typed: a relvar or a constraint less, that no entry mentions.
use Rattle.std.proofs.Common.{◌≡◌, ◌∷◌, ◌++◌, ◌∙◌, ℕ, Bool, true, false, List, [], ap, map, refl, sym, subst, true≢false}
use Rattle.std.specs.Prelude.{◌&&◌, ◌||◌, if◌then◌else◌, not}
use Rattle.std.specs.List.{AllByRecursion, Contains, list_any}
use Rattle.std.specs.Set.{remove_key}
use Rattle.std.proofs.lemmas.List.{append-nil, append_assoc, map-append}
use Rattle.td_catalog.specs.model.Database.{BaseRelvar, Database, NamedConstraint, VirtualRelvar, constraint_names, database_scope, known_base, known_virtual, relvar_names, with_virtuals, without_constraint, without_relvar}
use Rattle.td_catalog.specs.model.TypedDatabases.{IsTypedBase, IsTypedConstraint, IsTyped, IsTypedVirtual}
use Rattle.td_catalog.specs.model.Mentioned.{is_relvar_in_use, tree_mentions_relvar}
use Rattle.td_catalog.proofs.KnownRelvars.{found_removed, types_stay}
use Rattle.td_catalog.proofs.Lists.{all_kept, all_kept_in, all_removed, distinct_removed, each_kept, each_removed, has_removed, neither, not_true}
use Rattle.td_catalog.proofs.Rows.{has_append}
use Rattle.td_check.specs.model.Mentions.{relvars_in}
use Rattle.td_check.specs.model.Scopes.{relvar_in}
use Rattle.td_check.specs.laws.StaticLaws.{HasMore, LacksRelvar}
use Rattle.td_check.specs.model.StaticTypes.{type_of}
use Rattle.td_check.proofs.StaticLaws.{drops_change_nothing, more_changes_nothing}
use Rattle.td_tree.specs.model.Names.{IsName}
use Rattle.td_tree.specs.model.Outcomes.{Valued}
use Rattle.td_tree.specs.model.Trees.{Tree}
use Rattle.td_tree.specs.model.WrittenTrees.{IsWritten}
use Rattle.td_types.specs.model.Headings.{are_distinct, has_name}
use Rattle.td_types.specs.model.Types.{Type', boolean, pack, relation, same_name}
use Rattle.td_types.proofs.NameTests.{name_tests_tell}

-- ---- the names that are left

abbrev pub of_name : List ℕ → List ℕ → Bool
of_name name m = same_name m name

names_left : {X : Type 0} (name_of : X → List ℕ) (name : List ℕ) (xs : List X)
    → map name_of (remove_key (λ x. same_name (name_of x) name) xs) ≡ remove_key (of_name name) (map name_of xs)
names_left name_of name [] = refl
names_left {X} name_of name (x ∷ xs) = by_test (same_name (name_of x) name) (names_left name_of name xs)
  where
    by_test : (b : Bool) → map name_of (remove_key (λ y. same_name (name_of y) name) xs) ≡ remove_key (of_name name) (map name_of xs)
        → map name_of (if b then xs else x ∷ remove_key (λ y. same_name (name_of y) name) xs) ≡ (if b then map name_of xs else name_of x ∷ remove_key (of_name name) (map name_of xs))
    by_test true e = refl
    by_test false e = ap (λ ns. name_of x ∷ ns) e

relvar_names_left : (name : List ℕ) (db : Database) → relvar_names (without_relvar name db)
    ≡ remove_key (of_name name) (map (λ (b : BaseRelvar). b.name) db.bases) ++ remove_key (of_name name) (map (λ (v : VirtualRelvar). v.name) db.virtuals)
relvar_names_left name db =
    λ i. names_left (λ (b : BaseRelvar). b.name) name db.bases i ++ names_left (λ (v : VirtualRelvar). v.name) name db.virtuals i

all_of_both : {A : Type 0} (P : A → Type 0) (xs ys : List A) → AllByRecursion P (xs ++ ys) → AllByRecursion P xs × AllByRecursion P ys
all_of_both P [] ys h = (tt, h)
all_of_both P (x ∷ xs) ys h = let rest = all_of_both P xs ys h.1 in ((h.0, rest.0), rest.1)

all_both : {A : Type 0} (P : A → Type 0) (xs ys : List A) → AllByRecursion P xs → AllByRecursion P ys → AllByRecursion P (xs ++ ys)
all_both P [] ys h g = g
all_both P (x ∷ xs) ys h g = (h.0, all_both P xs ys h.1 g)

-- names that are apart stay so where some are left out
distinct_left : (test : List ℕ → Bool) (ns ms : List (List ℕ)) → are_distinct (ns ++ ms) ≡ true → are_distinct (remove_key test ns ++ remove_key test ms) ≡ true
distinct_left test [] ms h = distinct_removed test ms h
distinct_left test (n ∷ ns) ms h = by_test (test n) (distinct_left test ns ms)
  where
    both : (a b : Bool) → (a && b) ≡ true → (a ≡ true) × (b ≡ true)
    both true true e = (refl, refl)
    both true false e = absurd (cc)
    both false b e = absurd (cc)

    parts : (not (has_name n (ns ++ ms)) ≡ true) × (are_distinct (ns ++ ms) ≡ true)
    parts = both (not (has_name n (ns ++ ms))) (are_distinct (ns ++ ms)) h

    absent : (has_name n ns ≡ false) × (has_name n ms ≡ false)
    absent = neither (has_name n ns) (has_name n ms) (sym (has_append n ns ms) ∙ not_true (has_name n (ns ++ ms)) parts.0)

    in_rest : (rest : List (List ℕ)) → has_name n rest ≡ false → has_name n (rest ++ remove_key test ms) ≡ false
    in_rest rest e = has_append n rest (remove_key test ms) ∙ rw (e, has_removed test n ms absent.1) refl

    -- those behind the one that is left out are all there
    behind : (rest : List (List ℕ)) → are_distinct (rest ++ ms) ≡ true → are_distinct (rest ++ remove_key test ms) ≡ true
    behind [] e = distinct_removed test ms e
    behind (m ∷ rest) e =
        let p = both (not (has_name m (rest ++ ms))) (are_distinct (rest ++ ms)) e in
        let apart = neither (has_name m rest) (has_name m ms) (sym (has_append m rest ms) ∙ not_true (has_name m (rest ++ ms)) p.0) in
        let none = has_append m rest (remove_key test ms) ∙ (λ i. apart.0 i || has_removed test m ms apart.1 i) in
        rw (none, behind rest p.1) refl

    by_test : (b : Bool) → (are_distinct (ns ++ ms) ≡ true → are_distinct (remove_key test ns ++ remove_key test ms) ≡ true)
        → are_distinct ((if b then ns else n ∷ remove_key test ns) ++ remove_key test ms) ≡ true
    by_test true rest = behind ns parts.1
    by_test false rest = rw (in_rest (remove_key test ns) (has_removed test n ns absent.0), rest parts.1) refl

-- ---- what is not mentioned

pub none_of : {A : Type 0} (test : A → Bool) (xs : List A) → list_any test xs ≡ false → AllByRecursion (λ x. test x ≡ false) xs
none_of test [] h = tt
none_of test (x ∷ xs) h = let p = neither (test x) (list_any test xs) h in (p.0, none_of test xs p.1)

-- of one that stands among others
pub one_of : {A : Type 0} (P : A → Type 0) (before : List A) (x : A) (after : List A) → AllByRecursion P (before ++ (x ∷ after)) → P x
one_of P [] x after h = h.0
one_of P (y ∷ before) x after h = one_of P before x after h.1

pub uncontained : (n : List ℕ) (ns : List (List ℕ)) → has_name n ns ≡ false → Contains ns n → ⊥
uncontained n ns e c = true≢false (sym ((name_tests_tell.0 n ns).1 c) ∙ e)

-- ---- one relvar less

-- the relvars that stand before a virtual relvar are the first of all
pub earlier_virtuals : (db : Database) (before : List VirtualRelvar) (v : VirtualRelvar) (after : List VirtualRelvar) → db.virtuals ≡ before ++ (v ∷ after)
    → HasMore (database_scope (with_virtuals before db)) (database_scope db)
earlier_virtuals db before v after is =
    let bs = map known_base db.bases in
    record {
      types = ([], sym (append-nil db.types));
      relvars = (
        map known_virtual (v ∷ after),
        ap (λ vs. bs ++ map known_virtual vs) is ∙ ap (λ ks. bs ++ ks) (map-append known_virtual before (v ∷ after)) ∙ sym (append_assoc bs (map known_virtual before) (map known_virtual (v ∷ after))),
      );
      entered = refl;
    }

module _ (db : Database) (name : List ℕ) where
  -- what is known without it and behind these virtual relvars
  lacking : (before : List VirtualRelvar)
      → LacksRelvar name (database_scope (with_virtuals before db)) (database_scope (with_virtuals (remove_key (λ v. same_name v.name name) before) (without_relvar name db)))
  lacking before =
      record {
        types = refl;
        relvars = λ n other. found_removed known_base n name db.bases (map known_virtual (remove_key (λ v. same_name v.name name) before)) (map known_virtual before) other (virtuals n other);
        entered = refl;
      }
    where
      virtuals : (n : List ℕ) → (n ≡ name → ⊥) → relvar_in n (map known_virtual (remove_key (λ v. same_name v.name name) before)) ≡ relvar_in n (map known_virtual before)
      virtuals n other =
          ap (relvar_in n) (sym (append-nil (map known_virtual (remove_key (λ v. same_name v.name name) before))))
          ∙ found_removed known_virtual n name before [] [] other refl ∙ ap (relvar_in n) (append-nil (map known_virtual before))

  typed_without : (before : List VirtualRelvar) (e : Tree) (t : Type') → tree_mentions_relvar (database_scope db) name e ≡ false
      → HasMore (database_scope (with_virtuals before db)) (database_scope db) → type_of (database_scope (with_virtuals before db)) e ≡ Valued t
      → type_of (database_scope (with_virtuals (remove_key (λ v. same_name v.name name) before) (without_relvar name db))) e ≡ Valued t
  typed_without before e t unused more is =
      let same = (more_changes_nothing (database_scope (with_virtuals before db)) (database_scope db) e t more is).1 in
      drops_change_nothing.relvar name (database_scope (with_virtuals before db))
      (database_scope (with_virtuals (remove_key (λ v. same_name v.name name) before) (without_relvar name db))) e t (lacking before)
      (uncontained name (relvars_in (database_scope (with_virtuals before db)) e) (ap (has_name name) (sym same) ∙ unused)) is

  pub typed_without_relvar : IsTyped db → is_relvar_in_use name db ≡ false → IsTyped (without_relvar name db)
  typed_without_relvar h unused =
      let names = all_of_both IsName (map (λ (b : BaseRelvar). b.name) db.bases) (map (λ (v : VirtualRelvar). v.name) db.virtuals) h.named in
      record {
        declared = h.declared;
        constrained = h.constrained;
        named =
            subst (AllByRecursion IsName) (sym (relvar_names_left name db))
            (all_both IsName (remove_key (of_name name) (map (λ (b : BaseRelvar). b.name) db.bases)) (remove_key (of_name name) (map (λ (v : VirtualRelvar). v.name) db.virtuals))
            (all_removed (of_name name) IsName (map (λ (b : BaseRelvar). b.name) db.bases) names.0)
            (all_removed (of_name name) IsName (map (λ (v : VirtualRelvar). v.name) db.virtuals) names.1));
        distinct =
            ap are_distinct (relvar_names_left name db)
            ∙ distinct_left (of_name name) (map (λ (b : BaseRelvar). b.name) db.bases) (map (λ (v : VirtualRelvar). v.name) db.virtuals) h.distinct;
        bases = all_removed (λ b. same_name b.name name) (IsTypedBase db.types) db.bases h.bases;
        virtuals =
            each_removed (λ v. same_name v.name name) (λ earlier v. IsTypedVirtual (database_scope (with_virtuals earlier db)) v)
            (λ earlier v. IsTypedVirtual (database_scope (with_virtuals earlier (without_relvar name db))) v) db.virtuals virtual_stays h.virtuals;
        constraints_named = h.constraints_named;
        constraints_distinct = h.constraints_distinct;
        constraints =
            all_kept_in (λ c. tree_mentions_relvar (database_scope db) name c.tree ≡ false) (IsTypedConstraint (database_scope db)) (IsTypedConstraint (database_scope (without_relvar name db)))
            (λ c u. typed_without db.virtuals c.tree boolean u all_of_them) db.constraints (none_of (λ c. tree_mentions_relvar (database_scope db) name c.tree) db.constraints uses.1) h.constraints;
        written =
            record {
              constraints = h.written.constraints;
              virtuals = all_removed (λ v. same_name v.name name) (λ (v : VirtualRelvar). IsWritten v.tree) db.virtuals h.written.virtuals;
            };
      }
    where
      uses : (list_any (λ (v : VirtualRelvar). tree_mentions_relvar (database_scope db) name v.tree) db.virtuals ≡ false)
          × (list_any (λ (c : NamedConstraint). tree_mentions_relvar (database_scope db) name c.tree) db.constraints ≡ false)
      uses =
          neither (list_any (λ (v : VirtualRelvar). tree_mentions_relvar (database_scope db) name v.tree) db.virtuals)
          (list_any (λ (c : NamedConstraint). tree_mentions_relvar (database_scope db) name c.tree) db.constraints) unused

      all_of_them : HasMore (database_scope db) (database_scope db)
      all_of_them =
          record {
            types = ([], sym (append-nil db.types));
            relvars = ([], sym (append-nil (map known_base db.bases ++ map known_virtual db.virtuals)));
            entered = refl;
          }

      virtual_stays : (before after : List VirtualRelvar) (v : VirtualRelvar) → db.virtuals ≡ before ++ (v ∷ after) → IsTypedVirtual (database_scope (with_virtuals before db)) v
          → IsTypedVirtual (database_scope (with_virtuals (remove_key (λ w. same_name w.name name) before) (without_relvar name db))) v
      virtual_stays before after v is g =
          let none = none_of (λ (w : VirtualRelvar). tree_mentions_relvar (database_scope db) name w.tree) db.virtuals uses.0 in
          let unused_here = one_of (λ (w : VirtualRelvar). tree_mentions_relvar (database_scope db) name w.tree ≡ false) before v after
          (subst (AllByRecursion (λ (w : VirtualRelvar). tree_mentions_relvar (database_scope db) name w.tree ≡ false)) is none) in
          record {
            known = g.known;
            typed = typed_without before v.tree (relation (pack v.heading)) unused_here (earlier_virtuals db before v after is) g.typed;
          }

-- ---- one constraint less

pub typed_without_constraint : (db : Database) (name : List ℕ) → IsTyped db → IsTyped (without_constraint name db)
typed_without_constraint db name h =
    record {
      declared = h.declared;
      constrained = h.constrained;
      named = h.named;
      distinct = h.distinct;
      bases = h.bases;
      virtuals =
          each_kept (λ earlier v. IsTypedVirtual (database_scope (with_virtuals earlier db)) v)
          (λ earlier v. IsTypedVirtual (database_scope (with_virtuals earlier (without_constraint name db))) v) db.virtuals (λ earlier later v is. virtual_stays earlier v) h.virtuals;
      constraints_named = subst (AllByRecursion IsName) (sym names) (all_removed (of_name name) IsName (constraint_names db) h.constraints_named);
      constraints_distinct = ap are_distinct names ∙ distinct_removed (of_name name) (constraint_names db) h.constraints_distinct;
      constraints =
          all_removed (λ c. same_name c.name name) (IsTypedConstraint (database_scope (without_constraint name db))) db.constraints
          (all_kept (IsTypedConstraint (database_scope db)) (IsTypedConstraint (database_scope (without_constraint name db)))
          (λ c. types_stay (database_scope db) (database_scope (without_constraint name db)) c.tree boolean refl refl (λ n q f. f)) db.constraints h.constraints);
      written = record { constraints = h.written.constraints; virtuals = h.written.virtuals };
    }
  where
    names : constraint_names (without_constraint name db) ≡ remove_key (of_name name) (constraint_names db)
    names = names_left (λ (c : NamedConstraint). c.name) name db.constraints

    virtual_stays : (earlier : List VirtualRelvar) (v : VirtualRelvar) → IsTypedVirtual (database_scope (with_virtuals earlier db)) v
        → IsTypedVirtual (database_scope (with_virtuals earlier (without_constraint name db))) v
    virtual_stays earlier v g =
        record {
          known = g.known;
          typed = types_stay (database_scope (with_virtuals earlier db)) (database_scope (with_virtuals earlier (without_constraint name db))) v.tree (relation (pack v.heading)) refl refl (λ n q f. f) g.typed;
        }
