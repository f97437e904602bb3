-- What keeps a database typed: a type less, that no entry mentions.
use Rattle.std.proofs.Common.{◌≡◌, ◌∷◌, ◌++◌, ◌∙◌, ℕ, Bool, true, false, List, [], Option, None, Some, ap, arith, fold, map, refl, sym, subst}
use Rattle.std.specs.Prelude.{◌||◌, not}
use Rattle.std.specs.Cmp.Lexicographic.{same_text}
use Rattle.std.specs.List.{AllByRecursion, Contains, list_any}
use Rattle.std.proofs.lemmas.List.{append-nil, append_assoc}
use Rattle.std.proofs.lemmas.List.Folds.{list_any-append}
use Rattle.td_catalog.specs.model.Database.{BaseRelvar, Database, NamedConstraint, VirtualRelvar, database_scope, known_base, known_virtual, with_virtuals, without_type}
use Rattle.td_catalog.specs.model.WrittenDefinitions.{ConstraintIsWritten}
use Rattle.td_catalog.specs.model.TypedDatabases.{IsConstrained, IsTyped, IsTypedBase, IsTypedConstraint, IsTypedVirtual}
use Rattle.td_catalog.specs.model.Mentioned.{base_mentions_type, condition_mentions_type, is_type_in_use, tree_mentions_type, type_mentions_type}
use Rattle.td_catalog.proofs.TypedDrops.{none_of, one_of, uncontained}
use Rattle.td_catalog.proofs.Lists.{all_kept_in, all_push, each_kept, each_removed, neither, all_removed}
use Rattle.td_catalog.proofs.ValuesLeft.{not_made, rows_left}
use Rattle.td_check.specs.model.Mentions.{types_in}
use Rattle.td_check.specs.model.OperatorTypes.{if_type}
use Rattle.td_check.specs.model.Scopes.{KnownRelvar, alone_with, known_relvar, relvar_in, scope_of}
use Rattle.td_check.specs.model.StatementTypes.{constraint_fits}
use Rattle.td_check.specs.laws.StaticLaws.{AgreeOn, LacksType, UsersAllIn, UsersIn, is_other}
use Rattle.td_check.specs.model.StaticTypes.{type_of}
use Rattle.td_check.proofs.AgreementLaws.{only_one}
use Rattle.td_check.proofs.StaticLaws.{drops_change_nothing, made_of_mentions}
use Rattle.td_check.proofs.UserTypeLaws.{users_closed}
use Rattle.td_tree.specs.model.Outcomes.{Valued, with_value}
use Rattle.td_tree.specs.model.Trees.{Tree}
use Rattle.td_types.specs.model.Headings.{heading_from, with_attribute}
use Rattle.td_types.specs.model.NamedTypes.{any_names_user, is_component, is_made_of, names_user, without_declared}
use Rattle.td_types.specs.model.TypeLists.{DeclaredType}
use Rattle.td_types.specs.model.Types.{Attribute, Attrs, Heading, Type', attr, boolean, char, integer, no_attrs, pack, relation, same_name, tuple, user}
use Rattle.td_types.proofs.OutcomeLaws.{value_of_with}
use Rattle.td_types.proofs.RemovedTypes.{AreDeclared-without, AreKnown-without, declared_at-without, is_made_of-among}
use Rattle.td_value.specs.model.Values.{pack_rows}

-- ---- types in which it does not stand

mutual
  users_other : (name : List ℕ) (t : Type') → names_user name t ≡ false → UsersIn (is_other name) t
  users_other name boolean e = tt
  users_other name integer e = tt
  users_other name char e = tt
  users_other name (user n) e = ap not e
  users_other name (tuple xs) e = users_all_other name xs e
  users_other name (relation xs) e = users_all_other name xs e

  users_all_other : (name : List ℕ) (xs : Attrs) → any_names_user name xs ≡ false → UsersAllIn (is_other name) xs
  users_all_other name no_attrs e = tt
  users_all_other name (attr n t xs) e =
      let apart = neither (names_user name t) (any_names_user name xs) e in
      (users_other name t apart.0, users_all_other name xs apart.1)

none_passes : (b : Bool) → not b ≡ true → b ≡ false
none_passes true e = absurd (cc)
none_passes false e = refl

mutual
  others_alone : (name : List ℕ) (t : Type') → UsersIn (is_other name) t → names_user name t ≡ false
  others_alone name boolean u = refl
  others_alone name integer u = refl
  others_alone name char u = refl
  others_alone name (user n) u = none_passes (same_name n name) u
  others_alone name (tuple xs) u = others_all_alone name xs u
  others_alone name (relation xs) u = others_all_alone name xs u

  pub others_all_alone : (name : List ℕ) (xs : Attrs) → UsersAllIn (is_other name) xs → any_names_user name xs ≡ false
  others_all_alone name no_attrs u = refl
  others_all_alone name (attr n t xs) u = rw (others_alone name t u.0, others_all_alone name xs u.1) refl

other_names : (name n : List ℕ) → (n ≡ name → ⊥) → same_name n name ≡ false
other_names name n other = by_test (same_name n name) refl
  where
    by_test : (b : Bool) → same_name n name ≡ b → b ≡ false
    by_test true is = absurd (other (same_text n name (sym is)))
    by_test false is = refl

-- ---- what is known

-- what holds of each holds of the one that a name finds
found_among : (P : KnownRelvar → Type 0) (n : List ℕ) (rs : List KnownRelvar) (q : KnownRelvar) → AllByRecursion P rs → relvar_in n rs ≡ Some q → P q
found_among P n [] q h e = absurd (cc)
found_among P n (r ∷ rs) q h e = by_test (same_name r.name n) refl (found_among P n rs q h.1)
  where
    here : Some r ≡ Some q → r ≡ q
    here f = cc

    by_test : (b : Bool) → same_name r.name n ≡ b → (relvar_in n rs ≡ Some q → P q) → P q
    by_test true is rest = subst P (here (rw is at e)) h.0
    by_test false is rest = rest (rw is at e)

nothing_there : {A : Type 0} (x : A) → Contains [] x → ⊥
nothing_there x c = absurd (omega (arith, c.1))

module _ (name : List ℕ) where
  abbrev Apart : Heading → Type 0
  Apart h = UsersAllIn (is_other name) (pack h)

  -- the heading that attributes make
  heading_apart : (h : Heading) (xs : List Attribute) → Apart h → UsersAllIn (is_other name) (pack xs) → Apart (fold with_attribute h xs)
  heading_apart h [] k u = k
  heading_apart h (a ∷ xs) k u = heading_apart (with_attribute h a) xs ((users_closed (is_other name)).one_more h a tt u.0 k) u.1

  -- ---- the parts of a database

  base_left : (ds : List DeclaredType) → is_component name ds ≡ false → (r : BaseRelvar) → base_mentions_type name r ≡ false → IsTypedBase ds r → IsTypedBase (without_declared name ds) r
  base_left ds none r apart h =
      record {
        known = AreKnown-without name ds (pack r.relation.heading) apart h.known;
        relation = h.relation;
        typed = rows_left name ds none (pack_rows r.relation.body) (pack r.relation.heading) apart h.typed;
      }

  -- ---- types

  -- no type mentions it as a component
  no_component : (ds : List DeclaredType) → list_any (type_mentions_type name) ds ≡ false → is_component name ds ≡ false
  no_component [] e = refl
  no_component (d ∷ ds) e =
      let here = neither (type_mentions_type name d) (list_any (type_mentions_type name) ds) e in
      rw ((neither (is_made_of name d) (condition_mentions_type name d.constraint) here.0).0, no_component ds here.1) refl

  module _ (before after : List DeclaredType) (d : DeclaredType) (none : is_component name (before ++ (d ∷ after)) ≡ false) where
    none_before : is_component name before ≡ false
    none_before = (neither (is_component name before) (is_component name (d ∷ after)) (sym (list_any-append (is_made_of name) before (d ∷ after)) ∙ none)).0

    lacks_alone : LacksType name (alone_with (heading_from d.components) (scope_of before)) (alone_with (heading_from d.components) (scope_of (without_declared name before)))
    lacks_alone =
        record {
          types = λ n other. declared_at-without name n before (other_names name n other);
          relvars = refl;
          entered = refl;
          components = λ n c other e. users_all_other name (pack c.components) (not_made name n before c none_before e);
          headings = λ n r e. absurd (cc);
          entered_of = λ h c. subst Apart (only_one (heading_from d.components) h c) components_apart;
        }
      where
        components_apart : Apart (heading_from d.components)
        components_apart = heading_apart [] d.components tt (users_all_other name (pack d.components) (is_made_of-among name before d after none))

    constrained_left : condition_mentions_type name d.constraint ≡ false → IsConstrained before d → IsConstrained (without_declared name before) d
    constrained_left = by_constraint d.constraint
      where
        by_constraint : (o : Option Tree) → condition_mentions_type name o ≡ false → constraint_fits (scope_of before) d.components o ≡ Valued tt
            → constraint_fits (scope_of (without_declared name before)) d.components o ≡ Valued tt
        by_constraint None unused h = refl
        by_constraint (Some e) unused h =
            let first = alone_with (heading_from d.components) (scope_of before) in
            let second = alone_with (heading_from d.components) (scope_of (without_declared name before)) in
            let typed = value_of_with (type_of first e) (λ t. if_type boolean t tt) tt h in
            ap (λ o. with_value o (λ t. if_type boolean t tt))
            (drops_change_nothing.type name first second e typed.0 lacks_alone (uncontained name (types_in e) unused) typed.1)
            ∙ typed.2

  -- ---- relvars and constraints

  module _ (db : Database) (is_typed : IsTyped db) (unused : is_type_in_use name db ≡ false) where
    apart_types : list_any (type_mentions_type name) db.types ≡ false
    apart_types = (neither (list_any (type_mentions_type name) db.types) _ (neither (list_any (type_mentions_type name) db.types || list_any (base_mentions_type name) db.bases) _ unused).0).0

    pub apart_bases : list_any (base_mentions_type name) db.bases ≡ false
    apart_bases = (neither (list_any (type_mentions_type name) db.types) _ (neither (list_any (type_mentions_type name) db.types || list_any (base_mentions_type name) db.bases) _ unused).0).1

    apart_virtuals : list_any (λ (v : VirtualRelvar). tree_mentions_type name v.tree) db.virtuals ≡ false
    apart_virtuals = (neither (list_any (λ (v : VirtualRelvar). tree_mentions_type name v.tree) db.virtuals) _ (neither (list_any (type_mentions_type name) db.types || list_any (base_mentions_type name) db.bases) _ unused).1).0

    apart_constraints : list_any (λ (c : NamedConstraint). tree_mentions_type name c.tree) db.constraints ≡ false
    apart_constraints = (neither (list_any (λ (v : VirtualRelvar). tree_mentions_type name v.tree) db.virtuals) _ (neither (list_any (type_mentions_type name) db.types || list_any (base_mentions_type name) db.bases) _ unused).1).1

    -- no type is made of it
    pub made_of_none : is_component name db.types ≡ false
    made_of_none = no_component db.types apart_types

    abbrev Unmentioned : VirtualRelvar → Type 0
    Unmentioned v = tree_mentions_type name v.tree ≡ false

    abbrev IsApart : VirtualRelvar → Type 0
    IsApart v = Apart v.heading

    abbrev Known : KnownRelvar → Type 0
    Known k = Apart k.heading

    bases_apart : (rs : List BaseRelvar) → list_any (base_mentions_type name) rs ≡ false → (ks : List KnownRelvar) → AllByRecursion Known ks
        → AllByRecursion Known (map known_base rs ++ ks)
    bases_apart [] e ks h = h
    bases_apart (r ∷ rs) e ks h =
        let here = neither (base_mentions_type name r) (list_any (base_mentions_type name) rs) e in
        (users_all_other name (pack r.relation.heading) here.0, bases_apart rs here.1 ks h)

    virtuals_apart : (vs : List VirtualRelvar) → AllByRecursion IsApart vs → AllByRecursion Known (map known_virtual vs)
    virtuals_apart [] h = tt
    virtuals_apart (v ∷ vs) h = (h.0, virtuals_apart vs h.1)

    known_apart : (vs : List VirtualRelvar) → AllByRecursion IsApart vs → (n : List ℕ) (q : KnownRelvar)
        → known_relvar (database_scope (with_virtuals vs db)) n ≡ Some q → Apart q.heading
    known_apart vs h n q e =
        found_among Known n (map known_base db.bases ++ map known_virtual vs) q (bases_apart db.bases apart_bases (map known_virtual vs) (virtuals_apart vs h)) e

    agree : (vs : List VirtualRelvar) → AgreeOn (is_other name) (database_scope (with_virtuals vs db)) (database_scope (with_virtuals vs db))
    agree vs =
        record {
          entered = refl;
          types = λ n d m e. e;
          closed = λ n d m e. users_all_other name (pack d.components) (not_made name n db.types d made_of_none e);
          entered_in = λ h c. absurd (nothing_there h c);
        }

    -- the heading of a virtual relvar is made of what its expression mentions
    next_apart : (done later : List VirtualRelvar) (v : VirtualRelvar) → db.virtuals ≡ done ++ (v ∷ later) → AllByRecursion IsApart done → IsApart v
    next_apart done later v is h =
        made_of_mentions (is_other name) (database_scope (with_virtuals done db)) v.tree (relation (pack v.heading)) (agree done)
        (λ n c. ap not (other_names name n (λ e. uncontained name (types_in v.tree) unmentioned (subst (Contains (types_in v.tree)) e c))))
        (λ n c r e. (r, e, refl, known_apart done h n r e)) (is_typed.virtuals done later v is).typed
      where
        unmentioned : Unmentioned v
        unmentioned = one_of Unmentioned done v later (subst (AllByRecursion Unmentioned) is (none_of (λ (w : VirtualRelvar). tree_mentions_type name w.tree) db.virtuals apart_virtuals))

    all_apart : (done rest : List VirtualRelvar) → db.virtuals ≡ done ++ rest → AllByRecursion IsApart done → AllByRecursion IsApart db.virtuals
    all_apart done [] is h = subst (AllByRecursion IsApart) (sym (append-nil done) ∙ sym is) h
    all_apart done (v ∷ rest) is h =
        all_apart (done ++ (v ∷ [])) rest (is ∙ sym (append_assoc done (v ∷ []) rest)) (all_push IsApart done v h (next_apart done rest v is h))

    pub headings_apart : AllByRecursion IsApart db.virtuals
    headings_apart = all_apart [] db.virtuals refl tt

    front_apart : (done later : List VirtualRelvar) → AllByRecursion IsApart (done ++ later) → AllByRecursion IsApart done
    front_apart [] later h = tt
    front_apart (v ∷ done) later h = (h.0, front_apart done later h.1)

    lacks : (vs : List VirtualRelvar) → AllByRecursion IsApart vs → LacksType name (database_scope (with_virtuals vs db)) (database_scope (with_virtuals vs (without_type name db)))
    lacks vs h =
        record {
          types = λ n other. declared_at-without name n db.types (other_names name n other);
          relvars = refl;
          entered = refl;
          components = λ n d other e. users_all_other name (pack d.components) (not_made name n db.types d made_of_none e);
          headings = known_apart vs h;
          entered_of = λ g c. absurd (nothing_there g c);
        }

    typed_left : (vs : List VirtualRelvar) (e : Tree) (t : Type') → AllByRecursion IsApart vs → tree_mentions_type name e ≡ false
        → type_of (database_scope (with_virtuals vs db)) e ≡ Valued t → type_of (database_scope (with_virtuals vs (without_type name db))) e ≡ Valued t
    typed_left vs e t h unmentioned is =
        drops_change_nothing.type name (database_scope (with_virtuals vs db)) (database_scope (with_virtuals vs (without_type name db))) e t (lacks vs h)
        (uncontained name (types_in e) unmentioned) is

    virtual_left : (earlier later : List VirtualRelvar) (v : VirtualRelvar) → db.virtuals ≡ earlier ++ (v ∷ later) → IsTypedVirtual (database_scope (with_virtuals earlier db)) v
        → IsTypedVirtual (database_scope (with_virtuals earlier (without_type name db))) v
    virtual_left earlier later v is g =
        let apart = front_apart earlier (v ∷ later) (subst (AllByRecursion IsApart) is headings_apart) in
        let unmentioned = one_of Unmentioned earlier v later (subst (AllByRecursion Unmentioned) is (none_of (λ (w : VirtualRelvar). tree_mentions_type name w.tree) db.virtuals apart_virtuals)) in
        record {
          known = AreKnown-without name db.types (pack v.heading) (others_all_alone name (pack v.heading) (next_apart earlier later v is apart)) g.known;
          typed = typed_left earlier v.tree (relation (pack v.heading)) apart unmentioned g.typed;
        }

    types_left : (before after : List DeclaredType) (d : DeclaredType) → db.types ≡ before ++ (d ∷ after) → IsConstrained before d → IsConstrained (without_declared name before) d
    types_left before after d is h =
        let mentions = one_of (λ (c : DeclaredType). type_mentions_type name c ≡ false) before d after
        (subst (AllByRecursion (λ (c : DeclaredType). type_mentions_type name c ≡ false)) is (none_of (type_mentions_type name) db.types apart_types)) in
        constrained_left before after d (subst (λ ds. is_component name ds ≡ false) is made_of_none)
        (neither (is_made_of name d) (condition_mentions_type name d.constraint) mentions).1 h

    pub typed_without_type : IsTyped (without_type name db)
    typed_without_type =
        record {
          declared = AreDeclared-without name db.types made_of_none is_typed.declared;
          constrained = each_removed (λ (d : DeclaredType). same_name d.name name) IsConstrained IsConstrained db.types types_left is_typed.constrained;
          named = is_typed.named;
          distinct = is_typed.distinct;
          bases =
              all_kept_in (λ (r : BaseRelvar). base_mentions_type name r ≡ false) (IsTypedBase db.types) (IsTypedBase (without_declared name db.types)) (base_left db.types made_of_none) db.bases
              (none_of (base_mentions_type name) db.bases apart_bases) is_typed.bases;
          virtuals =
              each_kept (λ earlier v. IsTypedVirtual (database_scope (with_virtuals earlier db)) v)
              (λ earlier v. IsTypedVirtual (database_scope (with_virtuals earlier (without_type name db))) v) db.virtuals virtual_left is_typed.virtuals;
          constraints_named = is_typed.constraints_named;
          constraints_distinct = is_typed.constraints_distinct;
          constraints =
              all_kept_in (λ (c : NamedConstraint). tree_mentions_type name c.tree ≡ false) (IsTypedConstraint (database_scope db)) (IsTypedConstraint (database_scope (without_type name db)))
              (λ c u. typed_left db.virtuals c.tree boolean headings_apart u) db.constraints
              (none_of (λ (c : NamedConstraint). tree_mentions_type name c.tree) db.constraints apart_constraints) is_typed.constraints;
          written =
              record {
                constraints = all_removed (λ (d : DeclaredType). same_name d.name name) ConstraintIsWritten db.types is_typed.written.constraints;
                virtuals = is_typed.written.virtuals;
              };
        }
