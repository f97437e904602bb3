-- What an accepted statement makes of a legal database is typed; and what is new in it has a rank and keys that are allowed.
use Rattle.std.proofs.Common.{◌≡◌, ◌∙◌, ◌∷◌, ◌++◌, ◌+◌, ◌<◌, ◌≤◌, ℕ, zero, suc, true, List, [], Option, Some, None, ap, append-nil, arith, drop, length, map, not, refl, subst, sym}
use Rattle.std.proofs.lemmas.List.{drop_all, take_all}
use Rattle.std.specs.List.{AllByRecursion, Contains, slice_get}
use Rattle.std.specs.List.Sorted.{IsStrictlySortedBy}
use Rattle.td_catalog.proofs.TypedChanges.{base_relvars_keep, constraints_keep, held, typed_with_body, types_keep, virtual_relvars_keep}
use Rattle.td_catalog.specs.model.Database.{BaseRelvar, Database, base_named, base_relvar, database_scope, knows_constraint, knows_relvar, named_constraint, virtual_relvar, with_base, with_bases, with_constraint, with_declared, with_virtual}
use Rattle.td_catalog.specs.model.Dumps.{ordered_names}
use Rattle.td_catalog.specs.model.TypedDatabases.{IsTyped, IsTypedBase}
use Rattle.td_check.proofs.StaticLaws.{types_are_known}
use Rattle.td_check.specs.model.OperatorTypes.{over_relation}
use Rattle.td_check.specs.model.StatementTypes.{type_if_given}
use Rattle.td_check.specs.model.StaticTypes.{type_of}
use Rattle.td_engine.proofs.law_lemmas.Admitted.{both_asked, constraint_admitted, free_in, is_held, type_admitted, virtual_admitted}
use Rattle.td_engine.proofs.law_lemmas.BaseAdmitted.{base_admitted}
use Rattle.td_engine.proofs.law_lemmas.AssignedBases.{checked_keys, found, assigned_heading, assigned_to, given_none, given_some, put, skipped, some_is, still_found}
use Rattle.td_engine.proofs.law_lemmas.AssignedInTurn.{one_at}
use Rattle.td_engine.proofs.law_lemmas.OrderedAssigned.{each_found}
use Rattle.td_engine.proofs.law_lemmas.OrderedKeys.{base_keys_stay}
use Rattle.td_engine.proofs.law_lemmas.Settled.{keys_are_held}
use Rattle.td_engine.proofs.law_lemmas.TypedAssigned.{value_like}
use Rattle.td_engine.proofs.law_lemmas.WrittenStatements.{if_written, statement_written}
use Rattle.td_engine.specs.code.Plannable.{IsWrittenIf}
use Rattle.td_engine.specs.model.Assignments.{Given, given_to, of_heading, with_assigned, with_all_assigned}
use Rattle.td_engine.specs.code.Carried.{IsAdmitted}
use Rattle.td_engine.specs.model.Checks.{base_check, keys_hold}
use Rattle.td_engine.specs.code.AssignedRelations.{AreAssigned, assigned_bases}
use Rattle.td_engine.specs.model.Machine.{init_relation}
use Rattle.td_engine.specs.model.Legality.{AreBaseKeys, IsRuledBase, IsRuledVirtual, IsRanked, IsRankedHeading, IsLegal}
use Rattle.td_eval.proofs.code_lemmas.KeepsGathered.{member_from_all}
use Rattle.td_eval.proofs.law_lemmas.TypedDatabases.{database_keeps}
use Rattle.td_eval.proofs.code_lemmas.TypedTrees.{values_keep_types}
use Rattle.td_eval.specs.model.DatabaseWorlds.{world_of}
use Rattle.td_eval.specs.model.OperatorValues.{on_relation}
use Rattle.td_eval.specs.model.TreeValues.{value_of}
use Rattle.td_eval.specs.laws.ValueTypes.{KeepsType}
use Rattle.td_tree.specs.model.Names.{IsName}
use Rattle.td_tree.specs.model.Outcomes.{Valued, with_value}
use Rattle.td_tree.specs.model.Trees as trees
use Rattle.td_tree.specs.model.Trees.{AttributeTrees, Text, Tree}
use Rattle.td_tree.specs.model.WrittenTrees.{HaveNames}
use Rattle.td_tree.specs.declared.cause.Cause.TheVariants as causes
use Rattle.td_types.proofs.Meanings.{known_attributes, known_heading, pack_unpack}
use Rattle.td_types.proofs.OutcomeLaws.{valued_is, value_of_with, values_of_both}
use Rattle.td_types.specs.model.Headings.{made_heading}
use Rattle.td_types.specs.model.TypeLists.{IsKnown, attributes_meant, declared_type, heading_meant, is_declared}
use Rattle.td_types.specs.model.Types.{Attribute, Attrs, Heading, IsHeading, IsType, Type', pack, relation, unpack}
use Rattle.td_value.specs.model.Values.{IsRelation, Relation, relation_view}

module _ (db : Database) (legal : IsLegal db) where
  -- ---- definitions

  pub type_after : (n : Text) (cs : AttributeTrees) (k : Option Tree) (xs : List Attribute) → IsAdmitted db (trees.define_type n cs k) → attributes_meant db.types cs ≡ Valued xs
      → IsTyped (with_declared (declared_type n xs k) db) × IsRanked db.types (declared_type n xs k)
  type_after n cs k xs is meant =
      let names = statement_written (trees.define_type n cs k) is.spelled in
      let asked = type_admitted db n cs k xs names.1 is meant in
      let Knows : Attribute → Type 0 = λ a. IsName a.0 × IsType a.1 × IsKnown db.types a.1 in
      let each : (a : Attribute) → Contains xs a → Knows a = λ a there. member_from_all Knows xs (known_attributes db.types cs xs names.1 meant) a there in (
        types_keep db (declared_type n xs k) legal.typed
            (record {
              named = names.0;
              new = is_held causes.NameTaken (not (is_declared n db.types)) asked.free;
              has_component = asked.components.some;
              distinct = asked.components.distinct;
              names = λ a there. (each a there).0;
              types = λ a there. (each a there).1;
              known = λ a there. (each a there).2;
            })
            asked.constrained (if_written k names.2),
        asked.ranked,
      )

  -- the relation of a new relvar is one
  init_proper : (init : Option Tree) (h : Heading) (t : Option Type') (r : Relation) → IsWrittenIf init → IsHeading (pack h) → type_if_given (database_scope db) init ≡ Valued t
      → init_relation db init h ≡ Valued r → IsRelation r
  unfolding IsStrictlySortedBy
  init_proper None h t r is_written headed typed is = subst IsRelation (valued_is (relation_view h []) r is) (tt, tt, headed)
  init_proper (Some e) h t r is_written headed typed is =
      let scope = database_scope db in
      let has = value_of_with (type_of scope e) _ t typed in
      let value = value_of_with (value_of (world_of db) [] e) (λ v. on_relation v (of_heading (relation_view h []))) r is in
      let kept : KeepsType db.types (type_of scope e) (value_of (world_of db) [] e) =
      values_keep_types (world_of db) scope [] e (database_keeps db legal.typed) tt is_written in
      let of_type : KeepsType db.types (Valued has.0) (Valued value.0) =
      subst (λ o. KeepsType db.types o (Valued value.0)) has.1 (subst (KeepsType db.types (type_of scope e)) value.1 kept) in
      (value_like db.types (relation_view h []) value.0 has.0 r of_type value.2).0.is_relation

  heading_proper : (hs : AttributeTrees) (h : Heading) → HaveNames hs → heading_meant db.types hs ≡ Valued h → IsHeading (pack h)
  heading_proper hs h names is =
      let meant = value_of_with (attributes_meant db.types hs) made_heading h is in
      (known_heading db.types meant.0 h (known_attributes db.types hs meant.0 names meant.1) meant.2).0

  pub base_after : (n : Text) (hs : AttributeTrees) (init : Option Tree) (keys : List (List Text)) (r : Relation) → IsAdmitted db (trees.define_base n hs init keys)
      → with_value (heading_meant db.types hs) (init_relation db init) ≡ Valued r → keys_hold (map (ordered_names r.heading) keys) r.body ≡ true
      → IsTyped (with_base (base_relvar n (map (ordered_names r.heading) keys) r) db) × IsRuledBase db.types (base_relvar n (map (ordered_names r.heading) keys) r)
  base_after n hs init keys r is made hold =
      let names = statement_written (trees.define_base n hs init keys) is.spelled in
      let asked = base_admitted db n hs init keys r legal is names.1 names.2 made in
      let both = both_asked _ _ is.checked in
      let parts = values_of_both (heading_meant db.types hs) (type_if_given (database_scope db) init) _ tt both.1 in
      let given = value_of_with (heading_meant db.types hs) (init_relation db init) r made in
      let proper : IsRelation r = init_proper init given.0 parts.1 r names.2 (heading_proper hs given.0 names.1 given.1) parts.3 given.2 in
      let free = is_held causes.NameTaken (not (knows_relvar n db)) (free_in db n both.0) in (
        base_relvars_keep db (base_relvar n (map (ordered_names r.heading) keys) r) legal.typed names.0 free (record { known = asked.known; relation = proper; typed = asked.typed }),
        record {
          ranked = asked.ranked;
          keys = base_keys_stay r.heading proper.2 keys asked.keys_are;
          hold = keys_are_held (map (ordered_names r.heading) keys) r proper hold;
        },
      )

  pub virtual_after : (n : Text) (e : Tree) (keys : List (List Text)) (g : Attrs) → IsAdmitted db (trees.define_virtual n e keys)
      → type_of (database_scope db) e ≡ Valued (relation g)
      → IsTyped (with_virtual (virtual_relvar n (unpack g) e (map (ordered_names (unpack g)) keys)) db)
      × IsRuledVirtual db.types (virtual_relvar n (unpack g) e (map (ordered_names (unpack g)) keys))
  virtual_after n e keys g is typed =
      let names = statement_written (trees.define_virtual n e keys) is.spelled in
      let scope = (database_keeps db legal.typed).scope_is in
      let headed : IsHeading (pack (unpack g)) =
      subst IsHeading (sym (pack_unpack g)) (types_are_known.of_tree (database_scope db) e (relation g) scope names.1.0 typed).0 in
      let asked = virtual_admitted db n e keys (unpack g) headed legal is (ap (λ o. with_value o (λ t. over_relation t Valued)) typed) in (
        virtual_relvars_keep db (virtual_relvar n (unpack g) e (map (ordered_names (unpack g)) keys)) legal.typed names.0
            (is_held causes.NameTaken (not (knows_relvar n db)) asked.free) asked.virtual names.1,
        asked.ruled,
      )

  pub constraint_after : (n : Text) (e : Tree) → IsAdmitted db (trees.define_constraint n e) → IsTyped (with_constraint (named_constraint n e) db)
  constraint_after n e is =
      let names = statement_written (trees.define_constraint n e) is.spelled in
      let asked = constraint_admitted db n e is in
      constraints_keep db (named_constraint n e) legal.typed names.0 (is_held causes.NameTaken (not (knows_constraint n db)) asked.free) asked.constraint

-- ---- assignments

module _ (db : Database) (given : Given) (legal : IsLegal db) (all_assigned : AreAssigned db given) where
  -- the first relvars hold what they were given
  abbrev so_far : ℕ → Database
  so_far i = with_bases (assigned_bases given i db.bases) db

  next_typed : (i : ℕ) → i < length db.bases → IsTyped (so_far i) → IsTyped (so_far (i + 1))
  next_typed i inside before = by_assigned (given_to r.name given) refl
    where
      r : BaseRelvar
      r = (one_at given db.bases i inside).0

      at : slice_get db.bases i ≡ Some r
      at = (one_at given db.bases i inside).1

      one : (q : Relation) → given_to r.name given ≡ Some q → (b : BaseRelvar) → base_named r.name (so_far i) ≡ Some b
          → (q.heading ≡ b.relation.heading) × IsTypedBase db.types (base_relvar r.name b.keys q)
      one q k b is =
          let same : r ≡ b = some_is r b (sym (still_found db given legal.typed i r at) ∙ is) in
          let there = found db given legal.typed i r at in
          let assigned = assigned_to db given r.name q all_assigned k in
          let headed = assigned_heading db given r.name q r all_assigned k there in
          subst (λ (c : BaseRelvar). (q.heading ≡ c.relation.heading) × IsTypedBase db.types (base_relvar r.name c.keys q)) same
          (headed, held db r.name q r legal.typed there headed assigned.relation assigned.typed)

      by_assigned : (o : Option Relation) → given_to r.name given ≡ o → IsTyped (so_far (i + 1))
      by_assigned None k = subst IsTyped (skipped db given legal.typed i r at k) before
      by_assigned (Some q) k = subst IsTyped (put db given legal.typed i r at q k) (typed_with_body (so_far i) r.name q before (one q k))

  typed_so_far : (i : ℕ) → i ≤ length db.bases → IsTyped (so_far i)
  typed_so_far zero h = legal.typed
  typed_so_far (suc i) h = subst (λ n. IsTyped (so_far n)) next (next_typed i (omega (arith, h)) (typed_so_far i (omega (arith, h))))
    where
      next : i + 1 ≡ suc i
      next = omega arith

  whole : assigned_bases given (length db.bases) db.bases ≡ map (with_assigned given) db.bases
  whole =
      ap (λ bs. map (with_assigned given) bs ++ drop (length db.bases) db.bases) (take_all (length db.bases) db.bases (omega arith))
      ∙ ap (λ bs. map (with_assigned given) db.bases ++ bs) (drop_all (length db.bases) db.bases (omega arith)) ∙ append-nil (map (with_assigned given) db.bases)

  pub all_assigned_typed : IsTyped (with_all_assigned given db)
  all_assigned_typed = subst (λ bs. IsTyped (with_bases bs db)) whole (typed_so_far (length db.bases) (omega arith))

  -- what a relvar was given leaves its rank and its keys, which hold where the check is passed
  assigned_ruled : (b : BaseRelvar) → IsRuledBase db.types b × (base_named b.name db ≡ Some b) → base_check (with_assigned given b) ≡ None
      → IsRuledBase db.types (with_assigned given b)
  assigned_ruled b is passed = by_assigned (given_to b.name given) refl
    where
      by_assigned : (o : Option Relation) → given_to b.name given ≡ o → IsRuledBase db.types (with_assigned given b)
      by_assigned None k = subst (IsRuledBase db.types) (sym (given_none given b k)) is.0
      by_assigned (Some q) k =
          let headed = assigned_heading db given b.name q b all_assigned k is.1 in
          let same : with_assigned given b ≡ base_relvar b.name b.keys q = given_some given b q k in
          let checked : base_check (base_relvar b.name b.keys q) ≡ None = ap base_check (sym same) ∙ passed in
          subst (IsRuledBase db.types) (sym same)
          (record {
            ranked = subst (IsRankedHeading db.types) (sym headed) is.0.ranked;
            keys = subst (λ h. AreBaseKeys h b.keys) (sym headed) is.0.keys;
            hold = checked_keys (base_relvar b.name b.keys q) (assigned_to db given b.name q all_assigned k).relation checked;
          })

  pub all_assigned_ruled : AllByRecursion (λ b. base_check b ≡ None) (map (with_assigned given) db.bases) → AllByRecursion (IsRuledBase db.types) (map (with_assigned given) db.bases)
  all_assigned_ruled passed = each db.bases legal.bases (each_found db given legal.typed) passed
    where
      each : (bs : List BaseRelvar) → AllByRecursion (IsRuledBase db.types) bs → AllByRecursion (λ (b : BaseRelvar). base_named b.name db ≡ Some b) bs
          → AllByRecursion (λ b. base_check b ≡ None) (map (with_assigned given) bs) → AllByRecursion (IsRuledBase db.types) (map (with_assigned given) bs)
      each [] ruled there checks = tt
      each (b ∷ bs) ruled there checks = (assigned_ruled b (ruled.0, there.0) checks.0, each bs ruled.1 there.1 checks.1)
