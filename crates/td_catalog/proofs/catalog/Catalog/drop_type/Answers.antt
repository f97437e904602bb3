use Rattle.std.proofs.Common.{◌∙◌, ℕ, ap, arith, refl, subst, sym}
use Rattle.std.specs.List.{AllByRecursion}
use Rattle.std.specs.Prelude.{not}
use Rattle.td_catalog.specs.code.CatalogViews.{database_view, rows_of}
use Rattle.td_catalog.specs.model.Database.{without_type}
use Rattle.td_catalog.specs.code.Histories.{HasRoom, IsHistory, IsOwnStep, dropped_in, held_view, history_view, with_held_types}
use Rattle.td_catalog.specs.code.KeptDatabases.{CatalogView}
use Rattle.td_catalog.specs.model.Mentioned.{is_type_in_use}
use Rattle.td_catalog.specs.declared.history.Step.TheVariants.{TypeDropped}
use Rattle.td_catalog.proofs.Changes.{with_types}
use Rattle.td_catalog.proofs.EntriesLess.{catalog_without_type}
use Rattle.td_catalog.proofs.Named.{own_more}
use Rattle.td_catalog.proofs.Steps.{history_next, room_stays, view_next}
use Rattle.td_catalog.proofs.TypedTypeDrops.{made_of_none}
use Rattle.td_catalog.proofs.catalog.Catalog.drop_type.Goals as goal

pub remove-requires : goal.remove-requires
remove-requires g c =
    let relation = g.B.Body.relation in
    let rows = rows_of c.self.inside.tables in
    let free = ap (is_type_in_use c.args.name.now) (ap (λ (v : CatalogView). v.database) c.self.view_is) ∙ sym c.in_ok-is_type_in_use.ensures ∙ c.if-branch.false in
    record { unused = ap not (made_of_none c.args.name.now (database_view relation rows) c.self.invariant.history.catalog.is_typed free) }

pub invariant_of-self-2 : goal.invariant_of-self-2
invariant_of-self-2 g c =
    let relation = g.B.Body.relation in
    let keys = g.B.Body.keys in
    let kept = g.B.Body.kept in
    let rows = rows_of c.self.inside.tables in
    let steps = c.reserve.new.self.steps.items in
    let history : IsHistory relation keys kept rows steps = subst (IsHistory relation keys kept rows) (sym c.reserve.ensures.steps) c.self.invariant.history in
    let free = ap (is_type_in_use c.args.name.now) (ap (λ (v : CatalogView). v.database) c.self.view_is) ∙ sym c.in_ok-is_type_in_use.ensures ∙ c.if-branch.false in
    let led = ap (λ ts. with_held_types ts (held_view relation keys kept rows)) c.in_ok-types.ensures in
    let catalog = catalog_without_type relation keys rows c.args.name.now c.remove.new.self c.remove.ensures history.catalog free in
    record {
      history = history_next relation keys kept rows (with_types c.remove.new.self rows) steps c.note.new.self.steps.items (TypeDropped c.in_ok-types.types) c.note.ensures led history catalog;
      room = room_stays c.self.inside.tables _ steps c.note.new.self.steps.items (TypeDropped c.in_ok-types.types) c.note.ensures refl (subst (λ (n : ℕ). HasRoom n c.self.inside.tables) (ap dropped_in (sym c.reserve.ensures.steps)) c.self.invariant.room) (record { bases = omega arith; virtuals = omega arith; constraints = omega arith; known_bases = omega arith; known_virtuals = omega arith; known_constraints = omega arith });
      named = c.self.invariant.named;
      own = own_more steps c.note.new.self.steps.items (TypeDropped c.in_ok-types.types) c.note.ensures (subst (AllByRecursion IsOwnStep) (sym c.reserve.ensures.steps) c.self.invariant.own) tt;
    }

pub returns-clause-dropped : goal.returns-clause-dropped
returns-clause-dropped g c =
    let relation = g.B.Body.relation in
    let keys = g.B.Body.keys in
    let kept = g.B.Body.kept in
    let rows = rows_of c.self.inside.tables in
    let steps = c.reserve.new.self.steps.items in
    let history : IsHistory relation keys kept rows steps = subst (IsHistory relation keys kept rows) (sym c.reserve.ensures.steps) c.self.invariant.history in
    let led = ap (λ ts. with_held_types ts (held_view relation keys kept rows)) c.in_ok-types.ensures in
    view_next relation keys kept rows (with_types c.remove.new.self rows) steps c.note.new.self.steps.items (TypeDropped c.in_ok-types.types) c.note.ensures led c.args.self.now _
    (ap (history_view relation keys kept rows) c.reserve.ensures.steps ∙ c.self.view_is)
    (ap (λ types. database_view relation (with_types types rows)) c.remove.ensures ∙ ap (without_type c.args.name.now) (ap (λ (v : CatalogView). v.database) c.self.view_is))
