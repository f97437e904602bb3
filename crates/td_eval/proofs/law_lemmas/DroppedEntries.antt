-- An entry that is dropped changes no value of an expression that does not mention it.
use Rattle.std.proofs.Common.{◌≡◌, ◌∙◌, ℕ, Bool, true, false, Contains, List, [], ◌∷◌, Option, Some, None, ap, map, not, option_map, refl, subst, sym, true≢false}
use Rattle.std.specs.Cmp.Lexicographic.{same_text}
use Rattle.std.specs.List.{AllByRecursion}
use Rattle.std.specs.Option.{option_or}
use Rattle.std.specs.Prelude.{if◌then◌else◌, is_some}
use Rattle.std.specs.Set.{remove_key}
use Rattle.td_catalog.proofs.Lists.{not_true}
use Rattle.td_catalog.specs.model.Database.{BaseRelvar, Database, VirtualRelvar, base_named, database_scope, known_base, known_virtual, virtual_named, without_constraint, without_relvar, without_type}
use Rattle.td_catalog.specs.model.TypedDatabases.{IsTypedBase, IsTyped, IsTypedVirtual}
use Rattle.td_check.specs.model.Mentions.{relvars_in, types_in}
use Rattle.td_check.specs.model.OperatorTypes.{if_type}
use Rattle.td_check.specs.model.Scopes.{alone_with, known_relvar, scope_of}
use Rattle.td_check.specs.model.StatementTypes.{constraint_fits}
use Rattle.td_check.specs.laws.StaticLaws.{AgreeAt, AgreeOn, UsersAllIn, UsersIn, is_other}
use Rattle.td_check.specs.model.StaticTypes.{type_of}
use Rattle.td_check.proofs.StaticLaws.{depends, mentions_are_known, more_changes_nothing}
use Rattle.td_eval.specs.model.Worlds.{with_tuples}
use Rattle.td_tree.specs.model.Outcomes.{Valued, with_value}
use Rattle.td_tree.specs.model.Trees.{Tree}
use Rattle.td_types.specs.model.Headings.{are_distinct, has_name, heading_from}
use Rattle.td_types.specs.model.TypeLists.{AreKnown, DeclaredType, IsKnown, declared_at, is_declared}
use Rattle.td_types.specs.model.Types.{Attrs, Type', attr, boolean, char, integer, no_attrs, pack, relation, same_name, tuple, user}
use Rattle.td_types.proofs.DeclaredTypes.{is_declared-earlier, stands_in}
use Rattle.td_types.proofs.HeadingLaws.{same_name-itself}
use Rattle.td_types.proofs.OutcomeLaws.{value_of_with}
use Rattle.td_types.proofs.RemovedTypes.{declared_at-without, other_name, removed_is_gone}
use Rattle.td_eval.specs.laws.ValueLaws.{AgreeOnRelvars, AgreeOnTypes, DropsChangeNoValue}
use Rattle.td_eval.proofs.law_lemmas.DistinctNames.{distinct_first, distinct_rest, first_apart}
use Rattle.td_eval.proofs.law_lemmas.KnownRelvars.{front_has_more, fronted, has_named, known_as_virtual, known_in, named, named_at}
use Rattle.td_eval.proofs.law_lemmas.MentionedEntries.{values_depend_on_entries}
use Rattle.td_eval.proofs.law_lemmas.MoreWorlds.{any, any_users_all}
use Rattle.td_eval.proofs.law_lemmas.TypedDatabases.{all_at, components_known}
use Rattle.td_eval.proofs.code_lemmas.WorldParts.{virtual_name}

-- ---- names

other_of : (dropped : List ℕ) (R : List ℕ → Type 0) → (R dropped → ⊥) → (n : List ℕ) → R n → is_other dropped n ≡ true
other_of dropped R absent n r = by_test (same_name n dropped) refl
  where
    by_test : (b : Bool) → same_name n dropped ≡ b → not b ≡ true
    by_test true is = absurd (absent (subst R (same_text n dropped (sym is)) r))
    by_test false is = refl

-- ---- lists without what has a name

module _ {X : Type 0} (name_of : X → List ℕ) (dropped : List ℕ) where
  abbrev pub without : List X → List X
  without = remove_key (λ x. same_name (name_of x) dropped)

  -- another name finds the same
  named_without : (n : List ℕ) (xs : List X) → same_name n dropped ≡ false → named name_of n (without xs) ≡ named name_of n xs
  named_without n [] other = refl
  named_without n (x ∷ xs) other = by_test (same_name (name_of x) dropped) refl (named_without n xs other)
    where
      unnamed : same_name (name_of x) dropped ≡ true → (b : Bool) → same_name (name_of x) n ≡ b → b ≡ false
      unnamed is false same = refl
      unnamed is true same =
          let one : n ≡ dropped = sym (same_text (name_of x) n (sym same)) ∙ same_text (name_of x) dropped (sym is) in
          absurd (true≢false (sym (same_name-itself dropped) ∙ ap (λ k. same_name k dropped) (sym one) ∙ other))

      kept : (b : Bool) → named name_of n (without xs) ≡ named name_of n xs
          → (if b then Some x else named name_of n (without xs)) ≡ (if b then Some x else named name_of n xs)
      kept true rest = refl
      kept false rest = rest

      by_test : (b : Bool) → same_name (name_of x) dropped ≡ b → named name_of n (without xs) ≡ named name_of n xs
          → named name_of n (if b then xs else x ∷ without xs) ≡ named name_of n (x ∷ xs)
      by_test true is rest = rw (unnamed is (same_name (name_of x) n) refl) refl
      by_test false is rest = kept (same_name (name_of x) n) rest

  -- the name itself finds nothing, where names are distinct
  gone : (xs : List X) → are_distinct (map name_of xs) ≡ true → named name_of dropped (without xs) ≡ None
  gone [] distinct = refl
  gone (x ∷ xs) distinct = by_test (same_name (name_of x) dropped) refl (gone xs parts.1)
    where
      parts : (has_name (name_of x) (map name_of xs) ≡ false) × (are_distinct (map name_of xs) ≡ true)
      parts = first_apart (name_of x) (map name_of xs) distinct

      none_behind : same_name (name_of x) dropped ≡ true → (o : Option X) → named name_of dropped xs ≡ o → named name_of dropped xs ≡ None
      none_behind is None none = none
      none_behind is (Some y) some =
          let there : has_name (name_of x) (map name_of xs) ≡ true =
          ap (λ k. has_name k (map name_of xs)) (same_text (name_of x) dropped (sym is)) ∙ has_named name_of dropped xs ∙ ap is_some some in
          absurd (true≢false (sym there ∙ parts.0))

      by_test : (b : Bool) → same_name (name_of x) dropped ≡ b → named name_of dropped (without xs) ≡ None
          → named name_of dropped (if b then xs else x ∷ without xs) ≡ None
      by_test true is rest = none_behind is (named name_of dropped xs) refl
      by_test false is rest = rw is rest

abbrev base_name : BaseRelvar → List ℕ
base_name r = r.name

-- ---- one relvar less

module _ (db : Database) (dropped : List ℕ) (is_typed : IsTyped db) (other : IsTyped (without_relvar dropped db)) where
  abbrev less : Database
  less = without_relvar dropped db

  found_same : (n : List ℕ) → same_name n dropped ≡ false → known_relvar (database_scope less) n ≡ known_relvar (database_scope db) n
  found_same n apart =
      known_in less n
      ∙ (λ i. option_or (option_map known_base (named_without base_name dropped n db.bases apart i)) (option_map known_virtual (named_without virtual_name dropped n db.virtuals apart i)))
      ∙ sym (known_in db n)

  distinct_bases : are_distinct (map base_name db.bases) ≡ true
  distinct_bases = distinct_first (map base_name db.bases) (map virtual_name db.virtuals) is_typed.distinct

  distinct_virtuals : are_distinct (map virtual_name db.virtuals) ≡ true
  distinct_virtuals = distinct_rest (map base_name db.bases) (map virtual_name db.virtuals) is_typed.distinct

  not_there : known_relvar (database_scope less) dropped ≡ None
  not_there =
      known_as_virtual less dropped (gone base_name dropped db.bases distinct_bases)
      ∙ ap (option_map known_virtual) (gone virtual_name dropped db.virtuals distinct_virtuals)

  -- what is known without it has another name
  known_other : (n : List ℕ) → is_some (known_relvar (database_scope less) n) ≡ true → same_name n dropped ≡ false
  known_other n known = by_test (same_name n dropped) refl
    where
      by_test : (b : Bool) → same_name n dropped ≡ b → same_name n dropped ≡ false
      by_test false is = is
      by_test true is =
          absurd (true≢false (sym known ∙ ap (λ k. is_some (known_relvar (database_scope less) k)) (same_text n dropped (sym is)) ∙ ap is_some not_there))

  agree_back : AgreeOn any (database_scope less) (database_scope db)
  agree_back =
      record {
        entered = refl;
        types = λ n d m is. is;
        closed = λ n d m is. any_users_all (pack d.components);
        entered_in = λ h c. any_users_all (pack h);
      }

  known_back : (n : List ℕ) → AgreeAt any (database_scope less) (database_scope db) n
  known_back n r is = (r, sym (found_same n (known_other n (ap is_some is))) ∙ is, refl, any_users_all (pack r.heading))

  -- the expression of another virtual relvar does not mention it
  unmentioned : (n : List ℕ) (v : VirtualRelvar) → same_name n dropped ≡ false → virtual_named n db ≡ Some v
      → (k : List ℕ) → Contains (relvars_in (database_scope db) v.tree) k → is_other dropped k ≡ true
  unmentioned n v apart is k c =
      let place = named_at virtual_name n less.virtuals v (named_without virtual_name dropped n db.virtuals apart ∙ is) in
      let its_type = relation (pack v.heading) in
      let typed = (more_changes_nothing (database_scope (fronted less place.0)) (database_scope less) v.tree its_type
      (front_has_more less place.0 (v ∷ place.1) place.2) (other.virtuals place.0 place.1 v place.2).typed).0 in
      let same = (depends.of_tree any (database_scope less) (database_scope db) v.tree its_type agree_back (λ m d. refl) (λ m d. known_back m) typed).1 in
      ap not (known_other k (mentions_are_known.relvars (database_scope less) v.tree k (subst (λ ns. Contains ns k) same c)))

  agree_apart : AgreeOnRelvars any (is_other dropped) db less
  agree_apart =
      record {
        bases = λ n r m is. (any_users_all (pack r.relation.heading), r, named_without base_name dropped n db.bases (not_true (same_name n dropped) m) ∙ is, refl);
        virtuals = λ n v m is. (any_users_all (pack v.heading), v, named_without virtual_name dropped n db.virtuals (not_true (same_name n dropped) m) ∙ is, refl, refl);
        types = λ n v m is k c. refl;
        relvars = λ n v m is. unmentioned n v (not_true (same_name n dropped) m) is;
      }

-- ---- one type less

module _ (dropped : List ℕ) (ds : List DeclaredType) (none : is_declared dropped ds ≡ false) where
  pub other_declared : (n : List ℕ) → is_declared n ds ≡ true → is_other dropped n ≡ true
  other_declared n is = ap not (other_name dropped n ds none is)

  mutual
    users_other : (t : Type') → IsKnown ds t → UsersIn (is_other dropped) t
    users_other boolean k = tt
    users_other integer k = tt
    users_other char k = tt
    users_other (user n) k = other_declared n k
    users_other (tuple xs) k = all_users_other xs k
    users_other (relation xs) k = all_users_other xs k

    all_users_other : (xs : Attrs) → AreKnown ds xs → UsersAllIn (is_other dropped) xs
    all_users_other no_attrs k = tt
    all_users_other (attr n t xs) k = (users_other t k.0, all_users_other xs k.1)

module _ (db : Database) (dropped : List ℕ) (is_typed : IsTyped db) (other : IsTyped (without_type dropped db)) where
  abbrev fewer : Database
  fewer = without_type dropped db

  pub none_there : is_declared dropped fewer.types ≡ false
  none_there = removed_is_gone dropped db.types is_typed.declared

  kept_type : (n : List ℕ) (d : DeclaredType) → is_other dropped n ≡ true → declared_at n db.types ≡ Some d → declared_at n fewer.types ≡ Some d
  kept_type n d m is = declared_at-without dropped n db.types (not_true (same_name n dropped) m) ∙ is

  constraint_other : (n : List ℕ) (d : DeclaredType) (e : Tree) → is_other dropped n ≡ true → declared_at n db.types ≡ Some d → d.constraint ≡ Some e
      → (k : List ℕ) → Contains (types_in e) k → is_other dropped k ≡ true
  constraint_other n d e m is at k c =
      let place = stands_in n fewer.types d (kept_type n d m is) in
      let scope = alone_with (heading_from d.components) (scope_of place.0) in
      let fits : with_value (type_of scope e) (λ t. if_type boolean t tt) ≡ Valued tt =
      subst (λ o. constraint_fits (scope_of place.0) d.components o ≡ Valued tt) at (other.constrained place.0 place.1 d place.2) in
      let asked = value_of_with (type_of scope e) (λ t. if_type boolean t tt) tt fits in
      let earlier = mentions_are_known.types scope e asked.0 k asked.1 c in
      let whole : is_declared k fewer.types ≡ true =
      ap (is_declared k) place.2 ∙ is_declared-earlier k place.0 (d ∷ place.1) earlier in
      other_declared dropped fewer.types none_there k whole

  pub types_apart : AgreeOnTypes (is_other dropped) db.types fewer.types
  types_apart =
      record {
        same = kept_type;
        components = λ n d m is.
            all_users_other dropped fewer.types none_there (pack d.components) (components_known fewer.types [] other.declared n d (kept_type n d m is));
        constraints = constraint_other;
      }

  is_base : (n : List ℕ) (r : BaseRelvar) → base_named n db ≡ Some r → IsTypedBase fewer.types r
  is_base n r is =
      let place = named_at base_name n db.bases r is in
      all_at (IsTypedBase fewer.types) place.0 r place.1 (subst (AllByRecursion (IsTypedBase fewer.types)) place.2 other.bases)

  is_virtual : (n : List ℕ) (v : VirtualRelvar) → virtual_named n db ≡ Some v → (front : List VirtualRelvar) × IsTypedVirtual (database_scope (fronted fewer front)) v
  is_virtual n v is =
      let place = named_at virtual_name n db.virtuals v is in
      (place.0, other.virtuals place.0 place.1 v place.2)

  relvars_apart : AgreeOnRelvars (is_other dropped) any db fewer
  relvars_apart =
      record {
        bases = λ n r m is. (all_users_other dropped fewer.types none_there (pack r.relation.heading) (is_base n r is).known, r, is, refl);
        virtuals = λ n v m is. (all_users_other dropped fewer.types none_there (pack v.heading) (is_virtual n v is).1.known, v, is, refl, refl);
        types = λ n v m is k c.
            let at = is_virtual n v is in
            other_declared dropped fewer.types none_there k
            (mentions_are_known.types (database_scope (fronted fewer at.0)) v.tree (relation (pack v.heading)) k at.1.typed c);
        relvars = λ n v m is k c. refl;
      }

-- ---- all types

all_types : (ds : List DeclaredType) → AgreeOnTypes any ds ds
all_types ds =
    record {
      same = λ n d m is. is;
      components = λ n d m is. any_users_all (pack d.components);
      constraints = λ n d t m is at k c. refl;
    }

pub drops_change_no_value : DropsChangeNoValue
drops_change_no_value =
    record {
      relvar = λ db dropped s e is_typed other checked absent.
          values_depend_on_entries any (is_other dropped) db (without_relvar dropped db) s e is_typed other checked
          (record {
            types = all_types db.types;
            relvars = agree_apart db dropped is_typed other;
            tuples = λ h c. any_users_all (pack h);
            mentioned = λ n c. refl;
            mentioned_relvars = other_of dropped (Contains (relvars_in (with_tuples (database_scope db) s) e)) absent;
          });
      type = λ db dropped s e is_typed other checked tuples absent.
          values_depend_on_entries (is_other dropped) any db (without_type dropped db) s e is_typed other checked
          (record {
            types = types_apart db dropped is_typed other;
            relvars = relvars_apart db dropped is_typed other;
            tuples = tuples;
            mentioned = other_of dropped (Contains (types_in e)) absent;
            mentioned_relvars = λ n c. refl;
          });
      constraint = λ db dropped s e is_typed other checked.
          values_depend_on_entries any any db (without_constraint dropped db) s e is_typed other checked
          (record {
            types = all_types db.types;
            relvars = record {
              bases = λ n r m is. (any_users_all (pack r.relation.heading), r, is, refl);
              virtuals = λ n v m is. (any_users_all (pack v.heading), v, is, refl, refl);
              types = λ n v m is k c. refl;
              relvars = λ n v m is k c. refl;
            };
            tuples = λ h c. any_users_all (pack h);
            mentioned = λ n c. refl;
            mentioned_relvars = λ n c. refl;
          });
    }
