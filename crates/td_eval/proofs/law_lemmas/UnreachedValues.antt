-- An expression that names nothing which a change of base relvars reaches has the value that it had.
use Rattle.std.proofs.Common.{◌≡◌, ◌∙◌, ◌∷◌, ◌++◌, ℕ, Bool, true, false, Contains, List, [], ap, append_assoc, map, not, refl, subst, sym, true≢false}
use Rattle.std.proofs.lemmas.List.{map-append}
use Rattle.std.specs.Prelude.{◌||◌, if◌then◌else◌, is_some}
use Rattle.std.specs.List.{find, list_any}
use Rattle.td_catalog.proofs.Lists.{not_true}
use Rattle.td_catalog.specs.model.Database.{BaseRelvar, Database, VirtualRelvar, database_scope, relvar_names}
use Rattle.td_catalog.specs.laws.NamedRelvars.{names_any}
use Rattle.td_catalog.specs.model.TypedDatabases.{IsTyped}
use Rattle.td_check.proofs.WrittenNames.{relvars_are_named}
use Rattle.td_check.proofs.StaticLaws.{mentions_are_known, more_changes_nothing}
use Rattle.td_check.specs.model.Mentions.{relvars_in}
use Rattle.td_check.specs.model.Scopes.{known_relvar}
use Rattle.td_check.specs.laws.WrittenNames.{names_in}
use Rattle.td_eval.proofs.law_lemmas.DistinctNames.{are_apart, has_first, has_name-append, has_rest}
use Rattle.td_eval.proofs.law_lemmas.KnownRelvars.{front_has_more, fronted, known_name, named_at}
use Rattle.td_eval.proofs.law_lemmas.MentionedEntries.{values_depend_on_entries}
use Rattle.td_eval.proofs.law_lemmas.MoreWorlds.{any, any_users_all}
use Rattle.td_eval.proofs.code_lemmas.WorldParts.{virtual_name}
use Rattle.td_eval.specs.laws.ReachedRelvars.{DiffersIn, UnreachedValuesStay, reached_from, with_dependent}
use Rattle.td_eval.specs.laws.ValueLaws.{AgreeOnRelvars, AgreeOnTypes}
use Rattle.td_types.proofs.HeadingLaws.{same_name-itself}
use Rattle.td_types.proofs.NameTests.{name_tests_tell}
use Rattle.td_types.specs.model.Headings.{are_distinct, has_name}
use Rattle.td_types.specs.model.TypeLists.{DeclaredType}
use Rattle.td_types.specs.model.Types.{pack, relation, same_name}
use Rattle.std.specs.Cmp.Lexicographic.{same_text}

-- ---- names

-- a name of a list that is among the relvars is one of those that are
named_there : (relvars : List (List ℕ)) (n : List ℕ) → has_name n relvars ≡ true → (ns : List (List ℕ)) → has_name n ns ≡ true
    → list_any (λ k. has_name k relvars) ns ≡ true
named_there relvars n is [] e = e
named_there relvars n is (k ∷ ns) e = by_name (same_name k n) refl e (named_there relvars n is ns)
  where
    rest : Bool
    rest = list_any (λ m. has_name m relvars) ns

    behind : (b : Bool) → rest ≡ true → (b || rest) ≡ true
    behind true f = refl
    behind false f = f

    by_name : (b : Bool) → same_name k n ≡ b → (b || has_name n ns) ≡ true → (has_name n ns ≡ true → rest ≡ true) → (has_name k relvars || rest) ≡ true
    by_name true one f later = ap (λ m. has_name m relvars || rest) (same_text k n (sym one)) ∙ ap (λ b. b || rest) is
    by_name false other f later = behind (has_name k relvars) (later f)

-- where no name of an expression is among the relvars, a name of it is not
unnamed : (relvars ns : List (List ℕ)) (n : List ℕ) → list_any (λ k. has_name k relvars) ns ≡ false → Contains ns n → has_name n relvars ≡ false
unnamed relvars ns n none c = by_test (has_name n relvars) refl
  where
    by_test : (b : Bool) → has_name n relvars ≡ b → has_name n relvars ≡ false
    by_test false is = is
    by_test true is = absurd (true≢false (sym (named_there relvars n is ns ((name_tests_tell.0 n ns).1 c)) ∙ none))

module _ (n : List ℕ) where
  -- what is reached stays so
  reached_more : (relvars : List (List ℕ)) (vs : List VirtualRelvar) → has_name n relvars ≡ true → has_name n (reached_from relvars vs) ≡ true
  reached_more relvars [] is = is
  reached_more relvars (v ∷ vs) is = reached_more (with_dependent relvars v) vs (by_test (names_any relvars v.tree))
    where
      by_test : (b : Bool) → has_name n (if b then relvars ++ (v.name ∷ []) else relvars) ≡ true
      by_test true = has_first n relvars (v.name ∷ []) is
      by_test false = is

  -- nothing else is, but virtual relvars
  reached_others : (relvars : List (List ℕ)) (vs : List VirtualRelvar) → has_name n relvars ≡ false → has_name n (map virtual_name vs) ≡ false
      → has_name n (reached_from relvars vs) ≡ false
  reached_others relvars [] not_there apart = not_there
  reached_others relvars (v ∷ vs) not_there apart = by_test (same_name v.name n) refl apart (reached_others (with_dependent relvars v) vs)
    where
      either : same_name v.name n ≡ false → (b : Bool) → has_name n (if b then relvars ++ (v.name ∷ []) else relvars) ≡ false
      either other true = has_name-append n relvars (v.name ∷ []) ∙ rw (not_there, other) refl
      either other false = not_there

      by_test : (b : Bool) → same_name v.name n ≡ b → (b || has_name n (map virtual_name vs)) ≡ false
          → (has_name n (with_dependent relvars v) ≡ false → has_name n (map virtual_name vs) ≡ false → has_name n (reached_from (with_dependent relvars v) vs) ≡ false)
          → has_name n (reached_from (with_dependent relvars v) vs) ≡ false
      by_test true is e later = absurd (true≢false e)
      by_test false is e later = later (either is (names_any relvars v.tree)) e

reached_in_turn : (relvars : List (List ℕ)) (vs us : List VirtualRelvar) → reached_from relvars (vs ++ us) ≡ reached_from (reached_from relvars vs) us
reached_in_turn relvars [] us = refl
reached_in_turn relvars (v ∷ vs) us = reached_in_turn (with_dependent relvars v) vs us

-- ---- two databases

abbrev base_name : BaseRelvar → List ℕ
base_name r = r.name

all_types : (ds es : List DeclaredType) → es ≡ ds → AgreeOnTypes any ds es
all_types ds es e =
    subst (AgreeOnTypes any ds) (sym e)
    (record {
      same = λ n d m is. is;
      components = λ n d m is. any_users_all (pack d.components);
      constraints = λ n d t m is at k c. refl;
    })

-- what a change of these reaches
abbrev all_reached : List (List ℕ) → Database → List (List ℕ)
all_reached changed db = reached_from changed db.virtuals

-- whether it does not reach the relvar of the name
abbrev is_apart : List (List ℕ) → Database → List ℕ → Bool
is_apart changed db n = not (has_name n (all_reached changed db))

module _ (changed : List (List ℕ)) (first second : Database) (is_typed : IsTyped first) (differs : DiffersIn changed first second) where
  abbrev reached : List (List ℕ)
  reached = all_reached changed first

  abbrev seen : List ℕ → Bool
  seen = is_apart changed first

  -- what is not reached has not changed
  unchanged : (n : List ℕ) → seen n ≡ true → has_name n changed ≡ false
  unchanged n m = by_test (has_name n changed) refl
    where
      by_test : (b : Bool) → has_name n changed ≡ b → has_name n changed ≡ false
      by_test false is = is
      by_test true is = absurd (true≢false (sym (reached_more n changed first.virtuals is) ∙ not_true (has_name n reached) m))

  -- a virtual relvar that is not reached mentions nothing that is
  module _ (v : VirtualRelvar) (front rest : List VirtualRelvar) (place : first.virtuals ≡ front ++ (v ∷ rest)) (m : seen v.name ≡ true) where
    abbrev before : List (List ℕ)
    before = reached_from changed front

    in_turn : reached ≡ reached_from (with_dependent before v) rest
    in_turn = ap (reached_from changed) place ∙ reached_in_turn changed front (v ∷ rest)

    names_none : names_any before v.tree ≡ false
    names_none = by_test (names_any before v.tree) refl
      where
        by_test : (b : Bool) → names_any before v.tree ≡ b → names_any before v.tree ≡ false
        by_test false is = is
        by_test true is =
            let first_is : has_name v.name (with_dependent before v) ≡ true = rw is (has_rest v.name before (v.name ∷ []) (ap (λ b. b || false) (same_name-itself v.name))) in
            absurd (true≢false (sym (ap (has_name v.name) in_turn ∙ reached_more v.name (with_dependent before v) rest first_is) ∙ not_true (has_name v.name reached) m))

    module _ (k : List ℕ) (c : Contains (relvars_in (database_scope first) v.tree) k) where
      not_before : has_name k before ≡ false
      not_before = unnamed before (names_in v.tree) k names_none (relvars_are_named (database_scope first) v.tree k c)

      same_mentions : relvars_in (database_scope first) v.tree ≡ relvars_in (database_scope (fronted first front)) v.tree
      same_mentions =
          (more_changes_nothing (database_scope (fronted first front)) (database_scope first) v.tree (relation (pack v.heading))
          (front_has_more first front (v ∷ rest) place) (is_typed.virtuals front rest v place).typed).1

      known : is_some (known_relvar (database_scope (fronted first front)) k) ≡ true
      known = mentions_are_known.relvars (database_scope (fronted first front)) v.tree k (subst (λ ns. Contains ns k) same_mentions c)

      -- names are distinct, so it is none of those that stand behind
      not_behind : has_name k (map virtual_name rest) ≡ false
      not_behind = by_test (has_name k (map virtual_name rest)) refl
        where
          earlier : List (List ℕ)
          earlier = relvar_names (fronted first front)

          whole : relvar_names first ≡ earlier ++ (v.name ∷ map virtual_name rest)
          whole =
              ap (λ vs. map base_name first.bases ++ map virtual_name vs) place
              ∙ ap (λ ns. map base_name first.bases ++ ns) (map-append virtual_name front (v ∷ rest))
              ∙ sym (append_assoc (map base_name first.bases) (map virtual_name front) (v.name ∷ map virtual_name rest))

          behind_it : has_name k (map virtual_name rest) ≡ true → has_name k (v.name ∷ map virtual_name rest) ≡ true
          behind_it is = by_first (same_name v.name k)
            where
              by_first : (b : Bool) → (b || has_name k (map virtual_name rest)) ≡ true
              by_first true = refl
              by_first false = is

          by_test : (b : Bool) → has_name k (map virtual_name rest) ≡ b → has_name k (map virtual_name rest) ≡ false
          by_test false is = is
          by_test true is =
              absurd (true≢false (sym (known_name (fronted first front) k known)
              ∙ are_apart k earlier (v.name ∷ map virtual_name rest) (ap are_distinct (sym whole) ∙ is_typed.distinct) (behind_it is)))

      unreached : has_name k reached ≡ false
      unreached =
          ap (has_name k) (in_turn ∙ ap (λ b. reached_from (if b then before ++ (v.name ∷ []) else before) rest) names_none)
          ∙ reached_others k before rest not_before not_behind

  agree : AgreeOnRelvars any seen first second
  agree =
      record {
        bases = λ n r m is.
            let same = differs.bases n r (unchanged n m) is in
            (any_users_all (pack r.relation.heading), same.0, same.1, same.2);
        virtuals = λ n v m is. (any_users_all (pack v.heading), v, ap (find (λ (u : VirtualRelvar). same_name u.name n)) differs.virtuals ∙ is, refl, refl);
        types = λ n v m is k c. refl;
        relvars = λ n v m is k c.
            let at = named_at virtual_name n first.virtuals v is in
            ap not (unreached v at.0 at.1 at.2 (ap seen (same_text v.name n (sym at.4)) ∙ m) k c);
      }

pub unreached_values_stay : UnreachedValuesStay
unreached_values_stay changed first second e is_typed other differs checked apart =
    values_depend_on_entries any (is_apart changed first) first second [] e is_typed other checked
    (record {
      types = all_types first.types second.types differs.types;
      relvars = agree changed first second is_typed differs;
      tuples = λ h c. any_users_all (pack h);
      mentioned = λ n c. refl;
      mentioned_relvars = λ n c.
          ap not (unnamed (all_reached changed first) (names_in e) n apart (relvars_are_named (database_scope first) e n c));
    })
