-- A virtual relvar has the value of its expression where the whole of the database is known.
use Rattle.std.proofs.Common.{◌≡◌, ◌∙◌, ◌∷◌, ◌++◌, ℕ, List, [], Result, Some, append-nil, ap, refl, subst, sym}
use Rattle.std.specs.List.{AllByRecursion}
use Rattle.std.specs.Prelude.{is_some}
use Rattle.td_catalog.specs.model.Database.{Database, VirtualRelvar, database_scope, virtual_named}
use Rattle.td_catalog.specs.model.TypedDatabases.{IsTyped}
use Rattle.td_check.specs.model.Scopes.{Scope, known_relvar}
use Rattle.td_check.specs.model.StaticTypes.{type_of}
use Rattle.td_check.proofs.StaticLaws.{more_changes_nothing}
use Rattle.td_eval.specs.model.DatabaseWorlds.{selectors_of, world_of}
use Rattle.td_eval.specs.model.TreeValues.{value_of}
use Rattle.td_eval.specs.laws.UnfailingValues.{GivesValues}
use Rattle.td_eval.specs.laws.ValueLaws.{IsChecked}
use Rattle.td_eval.specs.model.Worlds.{World, known_outcome, selector_outcome}
use Rattle.td_eval.proofs.law_lemmas.KnownRelvars.{NamedAt, front_has_more, fronted, known_in_more, named_at, no_base, stays_behind, virtual_at}
use Rattle.td_eval.proofs.law_lemmas.LaterTypes.{selected_by}
use Rattle.td_eval.proofs.law_lemmas.MoreWorlds.{HasMoreThan, same_in_more}
use Rattle.td_eval.proofs.law_lemmas.TypedDatabases.{all_at, fronts_keep}
use Rattle.td_eval.proofs.law_lemmas.ValuedWorlds.{typed_databases_give_values}
use Rattle.td_eval.proofs.code_lemmas.WorldParts.{virtual_name, world_scope, world_selectors}
use Rattle.td_plan.specs.declared.running.plan_world.ValuedRelvar.{ValuedRelvar}
use Rattle.td_plan.specs.code.Hands.{AreValued, IsValued}
use Rattle.td_plan.specs.code.Plans.{PlanTree}
use Rattle.td_plan.specs.code.PlansOf.{AreInHand, IsPlanFor, IsPlanIfTyped, IsPlanOf, outermost}
use Rattle.td_plan.specs.laws.VirtualRelvars.{VirtualRelvarsAreTheirExpressions}
use Rattle.td_tree.specs.declared.fault.Fault.{Fault}
use Rattle.td_tree.specs.model.Outcomes.{Answers, Outcome, Valued}
use Rattle.td_tree.specs.model.Trees.{Tree}
use Rattle.td_tree.specs.model.WrittenTrees.{IsWritten}
use Rattle.td_types.specs.model.Types.{pack}
use Rattle.td_types.specs.model.Types as types
use Rattle.td_value.specs.model.Values.{Tuple, Val}

module _ (db : Database) (is_typed : IsTyped db) where
  -- the database gives values in its scope
  pub database_gives : GivesValues (world_of db) (database_scope db)
  database_gives = subst (GivesValues (world_of db)) (world_scope db) (typed_databases_give_values db is_typed)

  module _ (n : List ℕ) (v : VirtualRelvar) (is : virtual_named n db ≡ Some v) where
    -- where it stands
    at : NamedAt virtual_name n db.virtuals v
    at = named_at virtual_name n db.virtuals v is

    -- its expression is written, and has its relation type
    virtual_written : IsWritten v.tree
    virtual_written = all_at (λ (u : VirtualRelvar). IsWritten u.tree) at.0 v at.1 (subst (AllByRecursion (λ (u : VirtualRelvar). IsWritten u.tree)) at.2 is_typed.written.virtuals)

    typed_before : type_of (database_scope (fronted db at.0)) v.tree ≡ Valued (types.relation (pack v.heading))
    typed_before = (is_typed.virtuals at.0 at.1 v at.2).typed

    pub virtual_typed : type_of (database_scope db) v.tree ≡ Valued (types.relation (pack v.heading))
    virtual_typed =
        (more_changes_nothing (database_scope (fronted db at.0)) (database_scope db) v.tree (types.relation (pack v.heading))
        (front_has_more db at.0 (v ∷ at.1) at.2) typed_before).0

    -- the whole database has what the virtual relvars before it have
    selected_alike : (m : List ℕ) (vs : List Val) → selector_outcome (world_of db) m vs ≡ selector_outcome (world_of (fronted db at.0)) m vs
    selected_alike m vs =
        selected_by (world_of db) (selectors_of db.types db.types) m vs (world_selectors db)
        ∙ sym (selected_by (world_of (fronted db at.0)) (selectors_of db.types db.types) m vs (world_selectors (fronted db at.0)))

    has_more : HasMoreThan (database_scope (fronted db at.0)) (world_of (fronted db at.0)) (world_of db)
    has_more =
        record {
          types = ([], ap (λ (scope : Scope). scope.types) (world_scope db) ∙ sym (append-nil db.types));
          relvars = λ m r e.
              subst (λ (scope : Scope). known_relvar scope m ≡ Some r) (sym (world_scope db))
              (subst (λ vs. known_relvar (database_scope (fronted db vs)) m ≡ Some r) (sym at.2) (known_in_more db at.0 (v ∷ at.1) m r e));
          values = λ m k. ap (λ vs. (world_of (fronted db vs)).relvar m) at.2 ∙ stays_behind db at.0 (v ∷ at.1) m k;
          selectors = λ m d vs e h. selected_alike m vs;
        }

    checked : IsChecked (database_scope (fronted db at.0)) [] v.tree
    checked = record { tuples = tt; written = virtual_written; typed = (types.relation (pack v.heading), typed_before) }

    pub virtual_is : (world_of db).relvar n ≡ Some (value_of (world_of db) [] v.tree)
    virtual_is =
        virtual_at db n v (no_base db n is_typed.distinct (ap is_some is)) at
        ∙ ap (λ (o : Outcome Val). Some o)
        (sym (same_in_more (database_scope (fronted db at.0)) (world_of (fronted db at.0)) (world_of db) has_more [] v.tree
        (fronts_keep db is_typed at.0 (v ∷ at.1) at.2) checked))

    -- what a plan of its expression answers where no tuple is in hand is an answer for it
    pub virtual_planned : (r : Result Val Fault) (p : PlanTree) (e : Tree) → e ≡ v.tree → IsPlanIfTyped (database_scope db) p e
        → ((scope : Scope) (outcome : World → List Tuple → Outcome Val) → IsPlanFor scope p outcome → GivesValues (world_of db) (outermost scope)
        → AreInHand scope [] → Answers (λ u. u) r (outcome (world_of db) []))
        → Answers (λ u. u) r (known_outcome ((world_of db).relvar n))
    virtual_planned r p e same planned found =
        let planned_here : IsPlanOf (database_scope db) p e =
        planned (types.relation (pack v.heading))
        (subst (λ t. type_of (database_scope db) t ≡ Valued (types.relation (pack v.heading))) (sym same) virtual_typed) in
        subst (λ o. Answers (λ (u : Val). u) r (known_outcome o)) (sym virtual_is)
        (subst (λ t. Answers (λ (u : Val). u) r (value_of (world_of db) [] t)) same
        (found (database_scope db) (λ w s. value_of w s e) planned_here database_gives (tt, refl)))

pub virtual_relvars_are_their_expressions : VirtualRelvarsAreTheirExpressions
virtual_relvars_are_their_expressions db n v is_typed is = virtual_is db is_typed n v is

-- ---- virtual relvars that have been valued

pub valued_more : (w : World) (rs : List ValuedRelvar) (r : ValuedRelvar) → AreValued w rs → IsValued w r → AreValued w (rs ++ (r ∷ []))
valued_more w [] r h i = (i, tt)
valued_more w (q ∷ rs) r h i = (h.0, valued_more w rs r h.1 i)

-- in two worlds in which the relvar of its name has the same
pub valued_in_both : (w v : World) (rs all : List ValuedRelvar) (n m : List ℕ) (r : Result Val Fault) → AreValued w rs × AreValued v rs
    → Answers (λ u. u) r (known_outcome (w.relvar n)) → v.relvar n ≡ w.relvar n → m ≡ n → all ≡ rs ++ (record { name = m; answer = r } ∷ [])
    → AreValued w all × AreValued v all
valued_in_both w v rs all n m r so_far answer same named pushed =
    let new : ValuedRelvar = record { name = m; answer = r } in
    let here : IsValued w new = subst (λ k. Answers (λ (u : Val). u) r (known_outcome (w.relvar k))) (sym named) answer in
    let there : IsValued v new =
    subst (λ k. Answers (λ (u : Val). u) r (known_outcome (v.relvar k))) (sym named)
    (subst (λ o. Answers (λ (u : Val). u) r (known_outcome o)) (sym same) answer) in (
      subst (AreValued w) (sym pushed) (valued_more w rs new so_far.0 here),
      subst (AreValued v) (sym pushed) (valued_more v rs new so_far.1 there),
    )
