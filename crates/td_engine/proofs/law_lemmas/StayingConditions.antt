-- What names nothing which a change of base relvars reaches has the value that it had, a condition in each tuple.
use Rattle.std.proofs.Common.{◌≡◌, ◌∙◌, ◌∷◌, ◌++◌, ℕ, Bool, true, false, Contains, List, [], Option, Some, None, ap, option_map, refl, subst, sym, true≢false}
use Rattle.std.specs.Cmp.Lexicographic.{same_text}
use Rattle.std.specs.List.{list_any}
use Rattle.std.specs.Map.{keys_of}
use Rattle.std.specs.Prelude.{◌||◌, if◌then◌else◌, is_some}
use Rattle.td_catalog.specs.model.Database.{BaseRelvar, Database, VirtualRelvar, base_named, database_scope, known_base, known_virtual, virtual_named}
use Rattle.td_catalog.specs.laws.NamedRelvars.{names_any}
use Rattle.td_catalog.specs.model.TypedDatabases.{IsTyped}
use Rattle.td_check.proofs.StaticLaws.{mentions_are_known}
use Rattle.td_check.proofs.WrittenNames.{relvars_are_named}
use Rattle.td_check.specs.model.Mentions.{relvars_in}
use Rattle.td_check.specs.model.OperatorTypes.{known_or, over_relation, restriction_type}
use Rattle.td_check.specs.model.Scopes.{KnownRelvar, Scope, entered_with, known_relvar}
use Rattle.td_check.specs.laws.StaticLaws.{AgreeAt, UsersAllIn}
use Rattle.td_check.specs.model.StaticTypes.{type_of}
use Rattle.td_check.specs.laws.WrittenNames.{names_in}
use Rattle.td_engine.proofs.code_lemmas.UnreachedChecks.{all_assigned_differ}
use Rattle.td_engine.specs.laws.Additions.{ConditionsStayInTuples, ExpressionsStay}
use Rattle.td_engine.specs.model.Assignments.{Given, source_world, with_all_assigned}
use Rattle.td_eval.proofs.code_lemmas.WorldParts.{world_scope, world_selectors}
use Rattle.td_eval.proofs.law_lemmas.DistinctNames.{has_first}
use Rattle.td_eval.proofs.law_lemmas.KnownRelvars.{known_as_base, known_as_virtual, known_has, never_none, no_base, some_of, some_one}
use Rattle.td_eval.proofs.law_lemmas.LaterTypes.{selected_by}
use Rattle.td_eval.proofs.law_lemmas.MentionedValues.{values_depend_on_mentions}
use Rattle.td_eval.proofs.law_lemmas.MoreWorlds.{any, any_users_all}
use Rattle.td_eval.proofs.law_lemmas.TypedDatabases.{database_keeps}
use Rattle.td_eval.proofs.law_lemmas.UnreachedValues.{unreached_values_stay}
use Rattle.td_eval.specs.model.DatabaseWorlds.{selectors_of, world_of}
use Rattle.td_eval.specs.laws.ReachedRelvars.{DiffersIn, reached_from, with_dependent}
use Rattle.td_eval.specs.model.TreeValues.{value_of}
use Rattle.td_eval.specs.laws.ValueLaws.{IsChecked}
use Rattle.td_eval.specs.laws.ValueTypes.{IsTypedTuple}
use Rattle.td_eval.specs.model.Worlds.{World, known_outcome, with_tuples}
use Rattle.td_tree.specs.declared.cause.Cause.TheVariants as causes
use Rattle.td_tree.specs.model.Outcomes.{Outcome, Valued, with_value}
use Rattle.td_tree.specs.model.Trees.{Tree, name, restriction}
use Rattle.td_types.proofs.HeadingLaws.{same_name-itself}
use Rattle.td_types.proofs.NameTests.{name_tests_tell}
use Rattle.td_types.proofs.OutcomeLaws.{value_of_with}
use Rattle.td_types.specs.code.TypeCode.{unpack_pack}
use Rattle.td_types.specs.model.Headings.{has_name}
use Rattle.td_types.specs.model.TypeLists.{declared_at}
use Rattle.td_types.specs.model.Types.{Heading, Type', pack, relation, same_name}
use Rattle.td_value.specs.model.Values.{Relation, Tuple, heading_of, relation_value}

-- ---- names

-- where a name of a list is among the relvars, one of the list is
pub one_named : (relvars : List (List ℕ)) (n : List ℕ) → has_name n relvars ≡ true → (ns : List (List ℕ)) → has_name n ns ≡ true
    → list_any (λ k. has_name k relvars) ns ≡ true
one_named relvars n is [] e = e
one_named relvars n is (k ∷ ns) e = by_name (same_name k n) refl e (one_named relvars n is ns)
  where
    rest : Bool
    rest = list_any (λ m. has_name m relvars) ns

    behind : (b : Bool) → rest ≡ true → (b || rest) ≡ true
    behind true f = refl
    behind false f = f

    by_name : (b : Bool) → same_name k n ≡ b → (b || has_name n ns) ≡ true → (has_name n ns ≡ true → rest ≡ true) → (has_name k relvars || rest) ≡ true
    by_name true one f later = ap (λ m. has_name m relvars || rest) (same_text k n (sym one)) ∙ ap (λ b. b || rest) is
    by_name false other f later = behind (has_name k relvars) (later f)

-- a relvar that an expression mentions, which names none of these, is none of these
mentions_none : (relvars : List (List ℕ)) (scope : Scope) (e : Tree) (n : List ℕ) → names_any relvars e ≡ false → Contains (relvars_in scope e) n
    → has_name n relvars ≡ false
mentions_none relvars scope e n none c = by_test (has_name n relvars) refl
  where
    by_test : (b : Bool) → has_name n relvars ≡ b → has_name n relvars ≡ false
    by_test false is = is
    by_test true is =
        absurd (true≢false (sym (one_named relvars n is (names_in e) ((name_tests_tell.0 n (names_in e)).1 (relvars_are_named scope e n c))) ∙ none))

-- what changes is reached
changed_reached : (n : List ℕ) (relvars : List (List ℕ)) (vs : List VirtualRelvar) → has_name n relvars ≡ true → has_name n (reached_from relvars vs) ≡ true
changed_reached n relvars [] is = is
changed_reached n relvars (v ∷ vs) is = changed_reached n (with_dependent relvars v) vs (by_test (names_any relvars v.tree))
  where
    by_test : (b : Bool) → has_name n (if b then relvars ++ (v.name ∷ []) else relvars) ≡ true
    by_test true = has_first n relvars (v.name ∷ []) is
    by_test false = is

-- so what is not reached has not changed
not_changed : (n : List ℕ) (relvars : List (List ℕ)) (vs : List VirtualRelvar) → has_name n (reached_from relvars vs) ≡ false → has_name n relvars ≡ false
not_changed n relvars vs apart = by_test (has_name n relvars) refl
  where
    by_test : (b : Bool) → has_name n relvars ≡ b → has_name n relvars ≡ false
    by_test false is = is
    by_test true is = absurd (true≢false (sym (changed_reached n relvars vs is) ∙ apart))

-- ---- before and after assignments

module _ (db : Database) (given : Given) (is_typed : IsTyped db) (other : IsTyped (with_all_assigned given db)) where
  abbrev next : Database
  next = with_all_assigned given db

  abbrev reached : List (List ℕ)
  reached = reached_from (keys_of given) db.virtuals

  abbrev differ : DiffersIn (keys_of given) db next
  differ = all_assigned_differ db given

  abbrev IsKnownAfter : List ℕ → KnownRelvar → Type 0
  IsKnownAfter n r =
      (q : KnownRelvar) × (known_relvar (database_scope next) n ≡ Some q) × (q.heading ≡ r.heading) × UsersAllIn any (pack r.heading)

  -- a relvar that is not reached has the heading that it had
  known_after : (n : List ℕ) → has_name n reached ≡ false → AgreeAt any (database_scope db) (database_scope next) n
  known_after n apart r is = by_base (base_named n db) refl
    where
      by_virtual : base_named n db ≡ None → (o : Option VirtualRelvar) → virtual_named n db ≡ o → IsKnownAfter n r
      by_virtual none None found =
          never_none r (known_relvar (database_scope db) n) is (known_as_virtual db n none ∙ ap (option_map known_virtual) found)
      by_virtual none (Some v) found =
          let same : known_virtual v ≡ r = some_one (known_virtual v) r (sym (known_as_virtual db n none ∙ ap (option_map known_virtual) found) ∙ is) in
          subst (IsKnownAfter n) same (
            known_virtual v,
            known_as_virtual next n (no_base next n other.distinct (ap is_some found)) ∙ ap (option_map known_virtual) found,
            refl,
            any_users_all (pack v.heading),
          )

      by_base : (o : Option BaseRelvar) → base_named n db ≡ o → IsKnownAfter n r
      by_base None none = by_virtual none (virtual_named n db) refl
      by_base (Some b) found =
          let x = differ.bases n b (not_changed n (keys_of given) db.virtuals apart) found in
          let same : known_base b ≡ r = some_one (known_base b) r (sym (known_as_base db n b found) ∙ is) in
          subst (IsKnownAfter n) same (known_base x.0, known_as_base next n x.0 x.1, ap (λ q. q.heading) x.2, any_users_all (pack b.relation.heading))

  -- the name of a relvar that is known is an expression that has a type
  name_typed : (n : List ℕ) (r : KnownRelvar) → known_relvar (database_scope db) n ≡ Some r → IsChecked (database_scope db) [] (name n)
  name_typed n r is =
      record {
        tuples = tt;
        written = (tt, tt);
        typed = (
          relation (pack r.heading),
          ap (λ o. with_value (known_or causes.NameUnknown o) (λ (k : KnownRelvar). Valued (relation (pack k.heading)))) is,
        );
      }

  -- a relvar that is not reached has the value that it had
  value_after : (n : List ℕ) → has_name n reached ≡ false → is_some (known_relvar (database_scope db) n) ≡ true
      → (world_of next).relvar n ≡ (world_of db).relvar n
  value_after n apart known =
      let r = some_of (known_relvar (database_scope db) n) known in
      let q = known_after n apart r.0 r.1 in
      let first = known_has db n known in
      let second = known_has next n (ap is_some q.1) in
      let same : known_outcome ((world_of next).relvar n) ≡ known_outcome ((world_of db).relvar n) =
      unreached_values_stay (keys_of given) db next (name n) is_typed other differ (name_typed n r.0 r.1) (ap (λ b. b || false) apart) in
      second.1 ∙ ap Some (sym (ap known_outcome second.1) ∙ same ∙ ap known_outcome first.1) ∙ sym first.1

  -- in a world of that scope in which what is not reached has the value that it had, an expression that names nothing which is
  -- reached has its value
  same_in : (w : World) → w.scope ≡ database_scope next → w.selector ≡ selectors_of db.types db.types
      → ((n : List ℕ) → has_name n reached ≡ false → is_some (known_relvar (database_scope db) n) ≡ true → w.relvar n ≡ (world_of db).relvar n)
      → (s : List Tuple) (e : Tree) → IsChecked (database_scope db) s e → names_any reached e ≡ false
      → value_of w s e ≡ value_of (world_of db) s e
  same_in w scope_is selectors values s e checked none =
      values_depend_on_mentions any (database_scope db) (world_of db) w s e (database_keeps db is_typed) checked
      (record {
        known = record {
          entered = refl;
          types = λ n d m is. ap (λ (scope : Scope). declared_at n scope.types) scope_is ∙ is;
          closed = λ n d m is. any_users_all (pack d.components);
          entered_in = λ h c. any_users_all (pack h);
        };
        types = λ n c. (
          refl,
          λ d vs is h.
              selected_by w (selectors_of db.types db.types) n vs selectors
              ∙ sym (selected_by (world_of db) (selectors_of db.types db.types) n vs (world_selectors db)),
        );
        relvars = λ n c.
            let apart = mentions_none reached (with_tuples (database_scope db) s) e n none c in (
              subst (λ (scope : Scope). AgreeAt any (database_scope db) scope n) (sym scope_is) (known_after n apart),
              values n apart (mentions_are_known.relvars (with_tuples (database_scope db) s) e n c),
            );
      })

  -- afterwards it has it
  pub same_after : (s : List Tuple) (e : Tree) → IsChecked (database_scope db) s e → names_any reached e ≡ false
      → value_of (world_of next) s e ≡ value_of (world_of db) s e
  same_after = same_in (world_of next) (world_scope next) (world_selectors next) value_after

  -- and it has it too where the name of a relvar that changed means another relation
  pub same_in_source : (relvar : List ℕ) (r : Relation) → has_name relvar (keys_of given) ≡ true → (s : List Tuple) (e : Tree)
      → IsChecked (database_scope db) s e → names_any reached e ≡ false
      → value_of (source_world next relvar r) s e ≡ value_of (world_of db) s e
  same_in_source relvar r changed =
      same_in (source_world next relvar r) (world_scope next) (world_selectors next)
      (λ n apart known. is_other n apart (same_name relvar n) refl ∙ value_after n apart known)
    where
      is_other : (n : List ℕ) → has_name n reached ≡ false → (b : Bool) → same_name relvar n ≡ b
          → (if same_name relvar n then Some (Valued (relation_value r)) else (world_of next).relvar n) ≡ (world_of next).relvar n
      is_other n apart false is = rw is refl
      is_other n apart true is =
          let there : has_name n reached ≡ true =
          ap (λ m. has_name m reached) (sym (same_text relvar n (sym is))) ∙ changed_reached relvar (keys_of given) db.virtuals changed in
          absurd (true≢false (sym there ∙ apart))

-- ---- conditions

-- the condition of a restriction of a base relvar has a type in a tuple of that relvar's heading
condition_checked : (db : Database) (n : List ℕ) (b : BaseRelvar) (condition : Tree) (t : Tuple) → base_named n db ≡ Some b
    → IsChecked (database_scope db) [] (restriction (name n) condition) → IsTypedTuple db.types t → heading_of t ≡ b.relation.heading
    → IsChecked (database_scope db) (t ∷ []) condition
condition_checked db n b condition t at checked typed heading =
    let kind : Type' = relation (pack b.relation.heading) in
    let inside : Type' → Outcome Type' =
    λ s. over_relation s (λ h. with_value (type_of (entered_with h (database_scope db)) condition) (restriction_type s)) in
    let operand : type_of (database_scope db) (name n) ≡ Valued kind =
    ap (λ o. with_value (known_or causes.NameUnknown o) (λ r. Valued (relation (pack r.heading)))) (known_as_base db n b at) in
    let whole : with_value (type_of (entered_with b.relation.heading (database_scope db)) condition) (restriction_type kind) ≡ Valued checked.typed.0 =
    ap (λ (h : Heading). with_value (type_of (entered_with h (database_scope db)) condition) (restriction_type kind)) (sym (unpack_pack b.relation.heading))
    ∙ ap (λ o. with_value o inside) (sym operand) ∙ checked.typed.1 in
    let x = value_of_with (type_of (entered_with b.relation.heading (database_scope db)) condition) (restriction_type kind) checked.typed.0 whole in
    record {
      tuples = (typed, tt);
      written = (checked.written.0.1, checked.written.1.1);
      typed = (x.0, subst (λ (h : Heading). type_of (entered_with h (database_scope db)) condition ≡ Valued x.0) (sym heading) x.1);
    }

pub conditions_stay_in_tuples : ConditionsStayInTuples
conditions_stay_in_tuples db relvar base assigned other condition t legal is_typed at checked none typed heading =
    let given : Given = (relvar, assigned) ∷ [] in
    let here = condition_checked db relvar base condition t at checked typed heading in
    let after = same_after db given legal.typed is_typed (t ∷ []) condition here none in
    let changed : has_name relvar (relvar ∷ []) ≡ true = ap (λ b. b || false) (same_name-itself relvar) in
    (after, same_in_source db given legal.typed is_typed relvar other changed (t ∷ []) condition here none ∙ sym after)

-- ---- expressions in which no tuple is in scope

pub expressions_stay : ExpressionsStay
expressions_stay db relvar assigned other e legal is_typed checked none =
    let given : Given = (relvar, assigned) ∷ [] in
    let after = same_after db given legal.typed is_typed [] e checked none in
    let changed : has_name relvar (relvar ∷ []) ≡ true = ap (λ b. b || false) (same_name-itself relvar) in
    (after, same_in_source db given legal.typed is_typed relvar other changed [] e checked none ∙ sym after)
