use Rattle.std.proofs.Common.{◌≡◌, ◌∙◌, ap, map, subst, sym}
use Rattle.td_catalog.specs.code.CatalogViews.{base_view, database_view, known_of, rows_of, virtual_view}
use Rattle.td_catalog.specs.model.Database.{BaseRelvar, Database, VirtualRelvar}
use Rattle.td_catalog.specs.code.KeptDatabases.{CatalogView}
use Rattle.td_catalog.specs.model.TypedDatabases.{IsTyped}
use Rattle.td_catalog.specs.declared.tables.Tables.{Tables}
use Rattle.td_catalog.proofs.Lists.{distinct_behind, distinct_front}
use Rattle.td_catalog.proofs.Named.{bases_apart, constraints_apart, same_known, virtuals_apart}
use Rattle.td_catalog.proofs.Steps.{kept_none}
use Rattle.td_catalog.proofs.catalog.Catalog.try_clone.Goals as goal

pub invariant_of-result : goal.invariant_of-result
invariant_of-result g c =
    let relation = g.B.Body.relation in
    let tables : Tables _ = record {
      types = c.in_ok-try_clone.field-0;
      bases = c.in_ok-copied_bases.field-0;
      virtuals = c.in_ok-copied_virtuals.field-0;
      constraints = c.in_ok-copied_constraints.field-0;
      declared = c.in_ok-copied_declared.field-0;
    } in
    let now = ap (λ (v : CatalogView). v.database) c.self.view_is in
    let seen : database_view relation (rows_of tables) ≡ c.args.self.now.database = λ i. record {
      types = (c.in_ok-try_clone.ensures ∙ ap (λ (db : Database). db.types) now) i;
      bases = c.in_ok-copied_bases.ensures.bases i;
      virtuals = c.in_ok-copied_virtuals.ensures i;
      constraints = c.in_ok-copied_constraints.ensures i;
    } in
    let rows = rows_of c.self.inside.tables in
    let copied : known_of tables ≡ known_of c.self.inside.tables = λ i. record {
      bases = c.in_ok-copied_declared.ensures.0 i;
      virtuals = c.in_ok-copied_declared.ensures.1.0 i;
      constraints = c.in_ok-copied_declared.ensures.1.1 i;
    } in
    kept_none relation g.B.Body.keys g.B.Body.kept tables c.new.result.steps.items c.new.ensures
    (record { entries = c.in_ok-copied_bases.ensures.entries; is_typed = subst IsTyped (sym seen) (subst IsTyped now c.self.invariant.history.catalog.is_typed) })
    (copied ∙ c.self.invariant.named ∙ sym (same_known relation g.B.Body.keys rows (known_of c.self.inside.tables) c.self.invariant.named c.self.invariant.history.catalog.entries (rows_of tables) c.in_ok-copied_bases.ensures.entries (seen ∙ sym now)))

pub copied_declared-requires-clause-bases : goal.copied_declared-requires-clause-bases
copied_declared-requires-clause-bases g c =
    let relation = g.B.Body.relation in
    let keys = g.B.Body.keys in
    let rows = rows_of c.self.inside.tables in
    let typed = c.self.invariant.history.catalog.is_typed in
    bases_apart relation keys rows (known_of c.self.inside.tables) c.self.invariant.named c.self.invariant.history.catalog.entries
    (distinct_front (map (λ (r : BaseRelvar). r.name) (map (base_view relation) rows.bases)) (map (λ (v : VirtualRelvar). v.name) (map virtual_view rows.virtuals)) typed.distinct)

pub copied_declared-requires-clause-virtuals : goal.copied_declared-requires-clause-virtuals
copied_declared-requires-clause-virtuals g c =
    let relation = g.B.Body.relation in
    let keys = g.B.Body.keys in
    let rows = rows_of c.self.inside.tables in
    let typed = c.self.invariant.history.catalog.is_typed in
    virtuals_apart relation keys rows (known_of c.self.inside.tables) c.self.invariant.named c.self.invariant.history.catalog.entries
    (distinct_behind (map (λ (r : BaseRelvar). r.name) (map (base_view relation) rows.bases)) (map (λ (v : VirtualRelvar). v.name) (map virtual_view rows.virtuals)) typed.distinct)

pub copied_declared-requires-clause-constraints : goal.copied_declared-requires-clause-constraints
copied_declared-requires-clause-constraints g c =
    let relation = g.B.Body.relation in
    let keys = g.B.Body.keys in
    let rows = rows_of c.self.inside.tables in
    let typed = c.self.invariant.history.catalog.is_typed in
    constraints_apart relation keys rows (known_of c.self.inside.tables) c.self.invariant.named c.self.invariant.history.catalog.entries typed.constraints_distinct
