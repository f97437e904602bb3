use Rattle.std.proofs.Common.{◌≡◌, ◌∙◌, ℕ, false, ap, arith, option_map, refl, subst, sym}
use Rattle.std.specs.List.{AllByRecursion}
use Rattle.std.specs.Prelude.{is_some}
use Rattle.td_catalog.specs.code.CatalogViews.{database_view, rows_of}
use Rattle.td_catalog.specs.model.Database.{Database, with_declared}
use Rattle.td_catalog.specs.code.Histories.{HasRoom, IsHistory, IsOwnStep, dropped_in, history_view}
use Rattle.td_catalog.specs.code.KeptDatabases.{CatalogView}
use Rattle.td_catalog.specs.model.TypedDatabases.{IsConstrained}
use Rattle.td_catalog.specs.declared.history.Step.TheVariants.{TypeAdded}
use Rattle.td_catalog.proofs.Changes.{catalog_with_type, with_types}
use Rattle.td_catalog.proofs.LedSteps.{some_map, type_added}
use Rattle.td_catalog.proofs.Named.{own_more}
use Rattle.td_catalog.proofs.Steps.{history_next, room_stays, view_next}
use Rattle.td_catalog.proofs.catalog.Catalog.add_type.Goals as goal
use Rattle.td_tree.specs.code.TreeViews.{tree_view}
use Rattle.td_types.specs.model.Headings.{are_distinct}
use Rattle.td_types.specs.model.TypeLists.{declared_type, is_declared}
use Rattle.td_types.specs.code.Views.{pairs_view}
use Rattle.td_types.proofs.Made.{names_of_pairs}

pub add-requires-clause-distinct : goal.add-requires-clause-distinct
add-requires-clause-distinct g c = ap are_distinct (sym (names_of_pairs c.args.components.items)) ∙ c.requires.components.distinct

pub invariant_of-self-2 : goal.invariant_of-self-2
invariant_of-self-2 g c =
    let relation = g.B.Body.relation in
    let keys = g.B.Body.keys in
    let kept = g.B.Body.kept in
    let rows = rows_of c.self.inside.tables in
    let steps = c.reserve.new.self.steps.items in
    let history : IsHistory relation keys kept rows steps = subst (IsHistory relation keys kept rows) (sym c.reserve.ensures.steps) c.self.invariant.history in
    let d = declared_type c.args.name (pairs_view c.args.components.items) (option_map tree_view c.args.constraint) in
    let new : is_declared c.args.name rows.types ≡ false = ap is_some (sym c.get.ensures) ∙ some_map _ c.get.result ∙ sym c.is_some.ensures ∙ c.if-is_some.false in
    let led = type_added relation keys kept rows c.in_ok-added.added c.add.new.self d c.in_ok-add.ensures.added (sym c.in_ok-added.ensures) (ap (λ n. is_declared n rows.types) c.in_ok-added.ensures ∙ new) in
    let catalog = catalog_with_type relation keys rows d c.add.new.self history.catalog c.in_ok-add.ensures.added c.reveal.ensures
    (subst (λ (db : Database). IsConstrained db.types d) (ap (λ (v : CatalogView). v.database) (sym c.self.view_is)) c.requires.constrained) c.reveal_constraint.ensures in
    record {
      history = history_next relation keys kept rows (with_types c.add.new.self rows) steps c.note.new.self.steps.items (TypeAdded c.in_ok-added.added) c.note.ensures led history catalog;
      room = room_stays c.self.inside.tables _ steps c.note.new.self.steps.items (TypeAdded c.in_ok-added.added) c.note.ensures refl (subst (λ (n : ℕ). HasRoom n c.self.inside.tables) (ap dropped_in (sym c.reserve.ensures.steps)) c.self.invariant.room) (record { bases = omega arith; virtuals = omega arith; constraints = omega arith; known_bases = omega arith; known_virtuals = omega arith; known_constraints = omega arith });
      named = c.self.invariant.named;
      own = own_more steps c.note.new.self.steps.items (TypeAdded c.in_ok-added.added) c.note.ensures (subst (AllByRecursion IsOwnStep) (sym c.reserve.ensures.steps) c.self.invariant.own) tt;
    }

pub returns-clause-added : goal.returns-clause-added
returns-clause-added g c =
    let relation = g.B.Body.relation in
    let keys = g.B.Body.keys in
    let kept = g.B.Body.kept in
    let rows = rows_of c.self.inside.tables in
    let steps = c.reserve.new.self.steps.items in
    let history : IsHistory relation keys kept rows steps = subst (IsHistory relation keys kept rows) (sym c.reserve.ensures.steps) c.self.invariant.history in
    let d = declared_type c.args.name (pairs_view c.args.components.items) (option_map tree_view c.args.constraint) in
    let new : is_declared c.args.name rows.types ≡ false = ap is_some (sym c.get.ensures) ∙ some_map _ c.get.result ∙ sym c.is_some.ensures ∙ c.if-is_some.false in
    let led = type_added relation keys kept rows c.in_ok-added.added c.add.new.self d c.in_ok-add.ensures.added (sym c.in_ok-added.ensures) (ap (λ n. is_declared n rows.types) c.in_ok-added.ensures ∙ new) in
    view_next relation keys kept rows (with_types c.add.new.self rows) steps c.note.new.self.steps.items (TypeAdded c.in_ok-added.added) c.note.ensures led c.args.self.now _
    (ap (history_view relation keys kept rows) c.reserve.ensures.steps ∙ c.self.view_is)
    (ap (λ types. database_view relation (with_types types rows)) c.in_ok-add.ensures.added
    ∙ ap (with_declared d) (ap (λ (v : CatalogView). v.database) c.self.view_is))
