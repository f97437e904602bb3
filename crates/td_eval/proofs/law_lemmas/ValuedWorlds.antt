-- The world of a typed database gives values, also where a base relvar has another relation of its heading.
use Rattle.std.proofs.Common.{◌≡◌, ◌∙◌, ℕ, Bool, true, false, List, [], ◌∷◌, Option, Some, None, ap, fold, map, option_map, refl, subst, sym}
use Rattle.td_catalog.specs.model.Database.{BaseRelvar, Database, VirtualRelvar, base_named, database_scope, known_virtual, virtual_named}
use Rattle.td_check.specs.declared.scope.Kind.TheVariants as kinds
use Rattle.td_check.specs.model.OperatorTypes.{are_types_of}
use Rattle.td_check.specs.model.Scopes.{KnownRelvar, Scope, known_relvar}
use Rattle.td_eval.specs.model.DatabaseWorlds.{Selectors, constraint_value, selector_value, types_alone, with_other, with_selector, world_of}
use Rattle.td_eval.specs.laws.ValueTypes.{AreComponentsOf, KeepsScope, KeepsType}
use Rattle.td_eval.specs.model.Worlds.{World, selector_outcome}
use Rattle.td_eval.proofs.code_lemmas.AddedInTurn.{stays}
use Rattle.td_eval.proofs.law_lemmas.KnownRelvars.{known_as_virtual, never_none, some_one}
use Rattle.td_eval.proofs.law_lemmas.OtherRelations.{other_relations_keep_scopes}
use Rattle.td_eval.proofs.law_lemmas.TypedDatabases.{typed_databases_keep_scopes}
use Rattle.td_eval.proofs.code_lemmas.WorldParts.{base_value, world_scope, world_selectors}
use Rattle.td_eval.specs.laws.UnfailingValues.{GivesValues, OtherRelationsGiveValues, TypedDatabasesGiveValues}
use Rattle.td_eval.proofs.law_lemmas.StaticOutcomes.{IsStatic, has_value, test_static, with_static}
use Rattle.td_tree.specs.declared.cause.Cause.TheVariants as causes
use Rattle.td_tree.specs.model.Outcomes.{Outcome, Valued, value_if, with_value}
use Rattle.td_types.specs.model.TypeLists.{DeclaredType, declared_at}
use Rattle.td_types.specs.model.Types.{same_name}
use Rattle.td_types.specs.model.Types as types
use Rattle.td_value.specs.model.Values.{Val, relation_value, selected_value, type_of, user_view}

-- ---- selectors

-- the first type of a name has the selector of that name
selector_found : (ds first : List DeclaredType) (selectors : Selectors) (n : List ℕ) (d : DeclaredType) → selectors n ≡ None
    → declared_at n first ≡ Some d
    → (earlier : Selectors) × (fold (with_selector ds) selectors first n ≡ Some (selector_value (types_alone ds earlier) d))
selector_found ds [] selectors n d none e = absurd (cc)
selector_found ds (c ∷ first) selectors n d none e =
    by_test (same_name c.name n) refl (λ q. selector_found ds first (with_selector ds selectors c) n d q)
  where
    by_test : (b : Bool) → same_name c.name n ≡ b
        → (with_selector ds selectors c n ≡ None → declared_at n first ≡ Some d
        → (earlier : Selectors) × (fold (with_selector ds) (with_selector ds selectors c) first n ≡ Some (selector_value (types_alone ds earlier) d)))
        → (earlier : Selectors) × (fold (with_selector ds) selectors (c ∷ first) n ≡ Some (selector_value (types_alone ds earlier) d))
    by_test true is rest =
        let same : c ≡ d = some_one c d (rw is at e) in
        let new : with_selector ds selectors c n ≡ Some (selector_value (types_alone ds selectors) c) = rw (with_selector, none, is) refl in (
          selectors,
          stays (λ (f : Selectors) m. f m) (with_selector ds) (λ (b : DeclaredType). b.name) (λ f b. selector_value (types_alone ds f) b) (λ f b m. refl)
              first (with_selector ds selectors c) n (selector_value (types_alone ds selectors) d)
              (new ∙ ap (λ b. Some (selector_value (types_alone ds selectors) b)) same),
        )
    by_test false is rest = rest (rw (with_selector, none, is) refl) (rw is at e)

-- that of a type without a constraint refuses only what is of other types
free_static : (w : World) (d : DeclaredType) (vs : List Val) → d.constraint ≡ None → IsStatic (selector_value w d vs)
free_static w d vs free =
    with_static (value_if (are_types_of (map type_of vs) d.components) (user_view d.name vs) causes.TypeMismatch)
    (λ u. with_value (constraint_value w d vs) (λ holds. value_if holds (selected_value u) causes.TypeConstraint))
    (test_static (are_types_of (map type_of vs) d.components) (user_view d.name vs) causes.TypeMismatch (λ k. k))
    (λ u.
    let met : constraint_value w d vs ≡ Valued true = rw free refl in
    subst (λ (o : Outcome Bool). IsStatic (with_value o (λ holds. value_if holds (selected_value u) causes.TypeConstraint))) (sym met) tt)

selected_is : (w : World) (n : List ℕ) (vs : List Val) (f : List Val → Outcome Val) → w.selector n ≡ Some f → selector_outcome w n vs ≡ f vs
selected_is w n vs f e = rw (selector_outcome, e) refl

-- ---- databases

module _ (db : Database) (keeps : KeepsScope (world_of db) (world_of db).scope) where
  -- a base relvar has the relation that it holds
  base_found : (n : List ℕ) (r : KnownRelvar) → known_relvar (world_of db).scope n ≡ Some r → r.kind ≡ kinds.Base
      → (v : Val) × ((world_of db).relvar n ≡ Some (Valued v))
  base_found n r e base = by_base (base_named n db) refl
    where
      here : known_relvar (database_scope db) n ≡ Some r
      here = ap (λ (s : Scope). known_relvar s n) (sym (world_scope db)) ∙ e

      is_virtual : (v : VirtualRelvar) → known_virtual v ≡ r → ⊥
      is_virtual v is = let kind : kinds.Virtual ≡ kinds.Base = ap (λ (k : KnownRelvar). k.kind) is ∙ base in cc

      by_virtual : (o : Option VirtualRelvar) → known_relvar (database_scope db) n ≡ option_map known_virtual o
          → (v : Val) × ((world_of db).relvar n ≡ Some (Valued v))
      by_virtual None is = never_none r (known_relvar (database_scope db) n) here is
      by_virtual (Some v) is = absurd (is_virtual v (some_one (known_virtual v) r (sym is ∙ here)))

      by_base : (o : Option BaseRelvar) → base_named n db ≡ o → (v : Val) × ((world_of db).relvar n ≡ Some (Valued v))
      by_base (Some b) is = (relation_value b.relation, base_value db n b is)
      by_base None is = by_virtual (virtual_named n db) (known_as_virtual db n is)

  free_selected : (n : List ℕ) (d : DeclaredType) (vs : List Val) → declared_at n (world_of db).scope.types ≡ Some d → d.constraint ≡ None
      → AreComponentsOf (world_of db).scope.types d vs → (v : Val) × (selector_outcome (world_of db) n vs ≡ Valued v)
  free_selected n d vs e free h =
      let found = selector_found db.types db.types (λ m. None) n d refl (ap (λ (s : Scope). declared_at n s.types) (sym (world_scope db)) ∙ e) in
      let is : (world_of db).selector n ≡ Some (selector_value (types_alone db.types found.0) d) = ap (λ (f : Selectors). f n) (world_selectors db) ∙ found.1 in
      let x = keeps.selectors n d e in
      let v = has_value (world_of db).scope.types (types.user n) (selector_outcome (world_of db) n vs)
      (subst (KeepsType (world_of db).scope.types (Valued (types.user n))) (sym (selected_is (world_of db) n vs x.0 x.1)) (x.2 vs h))
      (subst (λ (o : Outcome Val). IsStatic o) (sym (selected_is (world_of db) n vs (selector_value (types_alone db.types found.0) d) is))
      (free_static (types_alone db.types found.0) d vs free)) in
      (v.0, v.1)

  gives : GivesValues (world_of db) (world_of db).scope
  gives = record { keeps = keeps; relvars = base_found; selectors = free_selected }

pub typed_databases_give_values : TypedDatabasesGiveValues
typed_databases_give_values db is_typed = gives db (typed_databases_keep_scopes db is_typed)

pub other_relations_give_values : OtherRelationsGiveValues
other_relations_give_values db n b r values is_base valid typed headed =
    record {
      keeps = other_relations_keep_scopes db n b r values.keeps is_base valid typed headed;
      relvars = others;
      selectors = values.selectors;
    }
  where
    others : (m : List ℕ) (k : KnownRelvar) → known_relvar (world_of db).scope m ≡ Some k → k.kind ≡ kinds.Base
        → (v : Val) × ((with_other (Some (n, r)) (world_of db)).relvar m ≡ Some (Valued v))
    others m k e base = by_test (same_name n m) refl
      where
        by_test : (t : Bool) → same_name n m ≡ t → (v : Val) × ((with_other (Some (n, r)) (world_of db)).relvar m ≡ Some (Valued v))
        by_test true same = (relation_value r, rw same refl)
        by_test false same = let there = values.relvars m k e base in (there.0, rw same there.1)
