-- In two databases that agree on the entries that an expression mentions, it has the same value.
use Rattle.std.proofs.Common.{◌≡◌, ◌∙◌, ◌++◌, ℕ, Bool, true, false, Contains, List, [], ◌∷◌, Option, Some, None, ap, option_map, refl, subst, sym, true≢false}
use Rattle.std.specs.List.{AllByRecursion}
use Rattle.std.specs.Prelude.{IsTrue, is_some}
use Rattle.td_algebra.proofs.Lists.{contains_none}
use Rattle.td_catalog.specs.model.Database.{BaseRelvar, Database, VirtualRelvar, base_named, database_scope, known_base, known_virtual, virtual_named}
use Rattle.td_catalog.specs.model.TypedDatabases.{IsTyped}
use Rattle.td_catalog.specs.model.WrittenDefinitions.{DefinitionsAreWritten}
use Rattle.td_check.specs.model.Mentions.{relvars_in}
use Rattle.td_check.specs.model.Scopes.{KnownRelvar, Scope, known_relvar}
use Rattle.td_check.specs.laws.StaticLaws.{AgreeAt, AgreeOn, UsersAllIn}
use Rattle.td_check.specs.model.StaticTypes.{type_of}
use Rattle.td_check.proofs.StaticLaws.{depends, mentions_are_known, more_changes_nothing}
use Rattle.td_tree.specs.model.Outcomes.{Valued}
use Rattle.td_types.specs.model.TypeLists.{declared_at}
use Rattle.td_types.specs.model.Types.{Type', pack, same_name}
use Rattle.td_types.specs.model.Types as types
use Rattle.td_eval.specs.model.DatabaseWorlds.{selectors_of, world_of}
use Rattle.td_eval.specs.model.TreeValues.{value_of}
use Rattle.td_eval.specs.laws.ValueLaws.{AgreeOnRelvars, AgreeOnTypes, HasTheSame, IsChecked, SelectsTheSame, ValuesDependOnEntries}
use Rattle.td_eval.specs.model.Worlds.{World, with_tuples}
use Rattle.td_eval.proofs.law_lemmas.KnownRelvars.{NamedAt, front_has_more, fronted, known_as_base, known_as_virtual, known_in_more, named, named_at, named_behind, never_none, no_base, of_all, one_more_scope, relvar_behind, some_of, some_one, stays_behind, unknown_parts, virtual_at}
use Rattle.td_eval.proofs.law_lemmas.LaterTypes.{selected_by}
use Rattle.td_eval.proofs.law_lemmas.MentionedTypes.{all_alike}
use Rattle.td_eval.proofs.law_lemmas.MentionedValues.{values_depend_on_mentions}
use Rattle.td_eval.proofs.law_lemmas.TypedDatabases.{all_at, database_keeps, fronts_keep}
use Rattle.td_eval.proofs.code_lemmas.WorldParts.{base_value, virtual_name, world_scope, world_selectors}
use Rattle.td_tree.specs.model.WrittenTrees.{IsWritten}
use Rattle.td_value.specs.model.Values.{relation_value}

module _ (among seen : List ℕ → Bool) (first second : Database) (is_typed : IsTyped first) (other : IsTyped second)
    (agree_types : AgreeOnTypes among first.types second.types)
    (agree : AgreeOnRelvars among seen first second) where
  -- the selectors of types that both have
  select_alike : (w v : World) → w.selector ≡ selectors_of first.types first.types → v.selector ≡ selectors_of second.types second.types
      → (n : List ℕ) → IsTrue (among n) → SelectsTheSame (database_scope first) w v n
  select_alike w v e f n m d vs is h =
      selected_by v (selectors_of second.types second.types) n vs f
      ∙ all_alike among first.types second.types
      (record { declared = is_typed.declared; constrained = is_typed.constrained; written = is_typed.written.constraints })
      other.declared other.constrained agree_types n d m is vs h
      ∙ sym (selected_by w (selectors_of first.types first.types) n vs e)

  -- ---- relvars that both have

  abbrev IsKnownIn : Scope → List ℕ → KnownRelvar → Type 0
  IsKnownIn scope n r = (q : KnownRelvar) × (known_relvar scope n ≡ Some q) × (q.heading ≡ r.heading) × UsersAllIn among (pack r.heading)

  seen_known : (n : List ℕ) → IsTrue (seen n) → AgreeAt among (database_scope first) (database_scope second) n
  seen_known n m r is = by_base (base_named n first) refl
    where
      by_virtual : base_named n first ≡ None → (o : Option VirtualRelvar) → virtual_named n first ≡ o → IsKnownIn (database_scope second) n r
      by_virtual none None found =
          never_none r (known_relvar (database_scope first) n) is (known_as_virtual first n none ∙ ap (option_map known_virtual) found)
      by_virtual none (Some v) found =
          let x = agree.virtuals n v m found in
          let same : known_virtual v ≡ r = some_one (known_virtual v) r (sym (known_as_virtual first n none ∙ ap (option_map known_virtual) found) ∙ is) in
          subst (IsKnownIn (database_scope second) n) same (
            known_virtual x.1,
            known_as_virtual second n (no_base second n other.distinct (ap is_some x.2)) ∙ ap (option_map known_virtual) x.2,
            x.3,
            x.0,
          )

      by_base : (o : Option BaseRelvar) → base_named n first ≡ o → IsKnownIn (database_scope second) n r
      by_base None none = by_virtual none (virtual_named n first) refl
      by_base (Some b) found =
          let x = agree.bases n b m found in
          let same : known_base b ≡ r = some_one (known_base b) r (sym (known_as_base first n b found) ∙ is) in
          subst (IsKnownIn (database_scope second) n) same (known_base x.1, known_as_base second n x.1 x.2, ap (λ q. q.heading) x.3, x.0)

  agree_scopes : AgreeOn among (database_scope first) (database_scope second)
  agree_scopes =
      record {
        entered = refl;
        types = agree_types.same;
        closed = agree_types.components;
        entered_in = λ h c. absurd (contains_none h c);
      }

  -- ---- values of virtual relvars

  -- a relvar that is known with the first virtual relvars of the first database alone has the same value in both
  abbrev AreAlike : List VirtualRelvar → Type 0
  AreAlike front =
      (n : List ℕ) → IsTrue (seen n) → is_some (known_relvar (database_scope (fronted first front)) n) ≡ true
      → (world_of second).relvar n ≡ (world_of (fronted first front)).relvar n

  -- the expression of a virtual relvar, where the earlier ones alone are known, in the first database and in the second
  module _ (n : List ℕ) (m : IsTrue (seen n)) (v : VirtualRelvar) (found : virtual_named n first ≡ Some v) (front rest : List VirtualRelvar)
      (e : first.virtuals ≡ front ++ (v ∷ rest)) (alike : AreAlike front) (u : VirtualRelvar) (tree : u.tree ≡ v.tree)
      (place : NamedAt virtual_name n second.virtuals u) where
    abbrev here : Scope
    here = database_scope (fronted first front)

    abbrev there : Scope
    there = database_scope (fronted second place.0)

    abbrev its_type : Type'
    its_type = types.relation (pack v.heading)

    typed_here : type_of here v.tree ≡ Valued its_type
    typed_here = (is_typed.virtuals front rest v e).typed

    in_first : (type_of (database_scope first) v.tree ≡ Valued its_type) × (relvars_in (database_scope first) v.tree ≡ relvars_in here v.tree)
    in_first = more_changes_nothing here (database_scope first) v.tree its_type (front_has_more first front (v ∷ rest) e) typed_here

    in_second : relvars_in (database_scope second) u.tree ≡ relvars_in there u.tree
    in_second =
        (more_changes_nothing there (database_scope second) u.tree (types.relation (pack u.heading))
        (front_has_more second place.0 (u ∷ place.1) place.2) (other.virtuals place.0 place.1 u place.2).typed).1

    across : relvars_in (database_scope second) v.tree ≡ relvars_in (database_scope first) v.tree
    across =
        (depends.of_tree among (database_scope first) (database_scope second) v.tree its_type agree_scopes (agree.types n v m found)
        (λ k c. seen_known k (agree.relvars n v m found k c)) in_first.0).1

    same_mentions : relvars_in here v.tree ≡ relvars_in there u.tree
    same_mentions = sym in_first.1 ∙ sym across ∙ ap (relvars_in (database_scope second)) (sym tree) ∙ in_second

    -- a relvar that it mentions
    module _ (k : List ℕ) (c : Contains (relvars_in here v.tree) k) where
      is_seen : IsTrue (seen k)
      is_seen = agree.relvars n v m found k (subst (λ ns. Contains ns k) (sym in_first.1) c)

      known_there : is_some (known_relvar there k) ≡ true
      known_there = mentions_are_known.relvars there u.tree k (subst (λ ns. Contains ns k) same_mentions c)

      agrees : AgreeAt among here there k
      agrees r is =
          let whole : known_relvar (database_scope first) k ≡ Some r =
          ap (λ vs. known_relvar (database_scope (fronted first vs)) k) e ∙ known_in_more first front (v ∷ rest) k r is in
          let q = seen_known k is_seen r whole in
          let p = some_of (known_relvar there k) known_there in
          let in_all : known_relvar (database_scope second) k ≡ Some p.0 =
          ap (λ vs. known_relvar (database_scope (fronted second vs)) k) place.2 ∙ known_in_more second place.0 (u ∷ place.1) k p.0 p.1 in
          let same : p.0 ≡ q.0 = some_one p.0 q.0 (sym in_all ∙ q.1) in
          (q.0, p.1 ∙ ap Some same, q.2, q.3)

      same_value : (world_of (fronted second place.0)).relvar k ≡ (world_of (fronted first front)).relvar k
      same_value =
          sym (ap (λ vs. (world_of (fronted second vs)).relvar k) place.2 ∙ stays_behind second place.0 (u ∷ place.1) k known_there)
          ∙ alike k is_seen (mentions_are_known.relvars here v.tree k c)

      has_same : HasTheSame among here (world_of (fronted first front)) (world_of (fronted second place.0)) k
      has_same = (subst (λ (scope : Scope). AgreeAt among here scope k) (sym (world_scope (fronted second place.0))) agrees, same_value)

    checked : IsChecked here [] v.tree
    checked =
        record {
          tuples = tt;
          written = all_at (λ (x : VirtualRelvar). IsWritten x.tree) front v rest (subst (AllByRecursion (λ (x : VirtualRelvar). IsWritten x.tree)) e is_typed.written.virtuals);
          typed = (its_type, typed_here);
        }

    value_alike : value_of (world_of (fronted second place.0)) [] u.tree ≡ value_of (world_of (fronted first front)) [] v.tree
    value_alike =
        ap (value_of (world_of (fronted second place.0)) []) tree
        ∙ values_depend_on_mentions among here (world_of (fronted first front)) (world_of (fronted second place.0)) [] v.tree
        (fronts_keep first is_typed front (v ∷ rest) e) checked
        (record {
          known = record {
            entered = refl;
            types = λ k d a is. ap (λ (scope : Scope). declared_at k scope.types) (world_scope (fronted second place.0)) ∙ agree_types.same k d a is;
            closed = agree_types.components;
            entered_in = λ h c. absurd (contains_none h c);
          };
          types = λ k c. (
            agree.types n v m found k c,
            select_alike (world_of (fronted first front)) (world_of (fronted second place.0)) (world_selectors (fronted first front))
                (world_selectors (fronted second place.0)) k (agree.types n v m found k c),
          );
          relvars = has_same;
        })

  -- ---- one virtual relvar after the other

  none_alike : AreAlike []
  none_alike n m known = by_base (base_named n first) refl
    where
      by_base : (o : Option BaseRelvar) → base_named n first ≡ o → (world_of second).relvar n ≡ (world_of (fronted first [])).relvar n
      by_base None none = absurd (true≢false (sym known ∙ ap is_some (known_as_virtual (fronted first []) n none)))
      by_base (Some b) is =
          let x = agree.bases n b m is in
          base_value second n x.1 x.2 ∙ ap (λ q. Some (Valued (relation_value q))) x.3 ∙ sym (base_value (fronted first []) n b is)

  module _ (front rest : List VirtualRelvar) (v : VirtualRelvar) (e : first.virtuals ≡ front ++ (v ∷ rest)) (alike : AreAlike front)
      (n : List ℕ) (m : IsTrue (seen n)) where
    -- the virtual relvar itself
    itself_alike : base_named n first ≡ None → named virtual_name n front ≡ None → same_name v.name n ≡ true
        → (world_of second).relvar n ≡ (world_of (fronted first (front ++ (v ∷ [])))).relvar n
    itself_alike none new same =
        let found : virtual_named n first ≡ Some v =
        ap (named virtual_name n) e ∙ named_behind virtual_name n front (v ∷ rest) new ∙ rw same refl in
        let x = agree.virtuals n v m found in
        let place = named_at virtual_name n second.virtuals x.1 x.2 in
        virtual_at second n x.1 (no_base second n other.distinct (ap is_some x.2)) place
        ∙ ap Some (value_alike n m v found front rest e alike x.1 x.4 place)
        ∙ sym (virtual_at (fronted first (front ++ (v ∷ []))) n v none (front, [], refl, new, same))

    next_alike : is_some (known_relvar (database_scope (fronted first (front ++ (v ∷ [])))) n) ≡ true
        → (world_of second).relvar n ≡ (world_of (fronted first (front ++ (v ∷ [])))).relvar n
    next_alike known = by_option (known_relvar (database_scope (fronted first front)) n) refl
      where
        by_test : known_relvar (database_scope (fronted first front)) n ≡ None → (b : Bool) → same_name v.name n ≡ b
            → (world_of second).relvar n ≡ (world_of (fronted first (front ++ (v ∷ [])))).relvar n
        by_test none true same = let parts = unknown_parts (fronted first front) n none in itself_alike parts.0 parts.1 same
        by_test none false apart =
            let missing : known_relvar (database_scope (fronted first (front ++ (v ∷ [])))) n ≡ None =
            ap (λ (scope : Scope). known_relvar scope n) (one_more_scope first front v)
            ∙ relvar_behind n (database_scope (fronted first front)).relvars (known_virtual v ∷ []) none ∙ rw apart refl in
            absurd (true≢false (sym known ∙ ap is_some missing))

        by_option : (o : Option KnownRelvar) → known_relvar (database_scope (fronted first front)) n ≡ o
            → (world_of second).relvar n ≡ (world_of (fronted first (front ++ (v ∷ [])))).relvar n
        by_option None none = by_test none (same_name v.name n) refl
        by_option (Some r) is = alike n m (ap is_some is) ∙ sym (stays_behind first front (v ∷ []) n (ap is_some is))

  relvars_alike : AreAlike first.virtuals
  relvars_alike = of_all AreAlike first.virtuals none_alike next_alike

pub values_depend_on_entries : ValuesDependOnEntries
values_depend_on_entries among seen first second s e is_typed other checked agree =
    values_depend_on_mentions among (database_scope first) (world_of first) (world_of second) s e (database_keeps first is_typed) checked
    (record {
      known = record {
        entered = refl;
        types = λ n d m is. ap (λ (scope : Scope). declared_at n scope.types) (world_scope second) ∙ agree.types.same n d m is;
        closed = agree.types.components;
        entered_in = agree.tuples;
      };
      types = λ n c. (
        agree.mentioned n c,
        select_alike among seen first second is_typed other agree.types agree.relvars (world_of first) (world_of second)
            (world_selectors first) (world_selectors second) n (agree.mentioned n c),
      );
      relvars = λ n c. (
        subst (λ (scope : Scope). AgreeAt among (database_scope first) scope n) (sym (world_scope second))
            (seen_known among seen first second is_typed other agree.types agree.relvars n (agree.mentioned_relvars n c)),
        relvars_alike among seen first second is_typed other agree.types agree.relvars n (agree.mentioned_relvars n c)
            (mentions_are_known.relvars (with_tuples (database_scope first) s) e n c),
      );
    })
