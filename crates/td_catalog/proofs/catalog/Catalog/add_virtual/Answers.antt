use Rattle.std.proofs.Common.{◌≡◌, ◌∙◌, ap, arith, false, map, refl, subst, sym}
use Rattle.std.specs.List.{AllByRecursion}
use Rattle.std.specs.Prelude.{is_some}
use Rattle.std.specs.Map.{lookup}
use Rattle.td_types.specs.model.Types.{same_name}
use Rattle.td_catalog.specs.code.CatalogViews.{IsCatalog, Known, known_of, known_rows, virtual_heading, virtual_view, database_view, rows_of}
use Rattle.td_catalog.specs.code.Histories.{IsHistory, IsOwnStep, history_view}
use Rattle.td_catalog.specs.code.KeptDatabases.{CatalogView}
use Rattle.td_catalog.specs.declared.history.Step.TheVariants.{VirtualAdded}
use Rattle.td_catalog.proofs.LedSteps.{virtual_added}
use Rattle.td_catalog.proofs.Named.{added_as, found_as, own_more}
use Rattle.td_catalog.proofs.Steps.{history_next, room_next, view_next}
use Rattle.td_catalog.specs.model.Database.{Database, VirtualRelvar, database_scope, knows_relvar, virtual_relvar, with_virtual}
use Rattle.td_catalog.specs.model.TypedDatabases.{IsTypedVirtual}
use Rattle.td_catalog.specs.declared.entry.VirtualEntry.{VirtualEntry}
use Rattle.td_catalog.proofs.Changes.{catalog_with_virtual, no_virtual, view_with_virtual, with_virtual_rows}
use Rattle.td_tree.specs.model.WrittenTrees.{IsWritten}
use Rattle.td_tree.specs.code.TreeViews.{tree_view}
use Rattle.td_catalog.proofs.Rows.{rows_with}
use Rattle.td_catalog.proofs.catalog.Catalog.add_virtual.Goals as goal

pub invariant_of-self-2 : goal.invariant_of-self-2
invariant_of-self-2 g c =
    let relation = g.B.Body.relation in
    let keys = g.B.Body.keys in
    let kept = g.B.Body.kept in
    let rows = rows_of c.prepare.new.tables in
    let steps = c.prepare.new.log.steps.items in
    let same : rows ≡ rows_of c.self.inside.tables = c.prepare.ensures.rows in
    let seen : database_view relation rows ≡ c.args.self.now.database = ap (database_view relation) same ∙ ap (λ (v : CatalogView). v.database) c.self.view_is in
    let history : IsHistory relation keys kept rows steps =
    subst (λ r. IsHistory relation keys kept r steps) (sym same) (subst (IsHistory relation keys kept (rows_of c.self.inside.tables)) (sym c.prepare.ensures.steps) c.self.invariant.history) in
    let free : knows_relvar c.args.name (database_view relation rows) ≡ false = ap (knows_relvar c.args.name) seen ∙ sym c.has_relvar.ensures ∙ c.if-has_relvar.false in
    let entry : VirtualEntry = record { heading = c.args.heading; tree = c.in_ok-tree.tree; keys = c.args.keys } in
    let catalog : IsCatalog relation keys (with_virtual_rows c.insert.new.self.entries rows) =
    subst (λ es. IsCatalog relation keys (with_virtual_rows es rows)) (sym c.in_ok-insert.ensures.entries)
    (catalog_with_virtual relation keys rows c.prepare.new.tables.virtuals c.args.name entry refl free history.catalog c.reveal.ensures
    (subst (λ e. IsTypedVirtual (database_scope (database_view relation rows)) (virtual_relvar c.args.name c.args.heading e (map (λ key. key.items) c.args.keys.items)))
    (sym c.in_ok-tree.ensures)
    (subst (λ (db : Database). IsTypedVirtual (database_scope db) (virtual_relvar c.args.name c.args.heading (tree_view c.args.tree) (map (λ key. key.items) c.args.keys.items)))
    (sym seen) c.requires))
    (subst IsWritten (sym c.in_ok-tree.ensures) c.reveal-2.ensures)) in
    let led = virtual_added relation keys kept rows c.insert.new.self.entries (c.args.name, entry)
    (c.in_ok-insert.ensures.entries ∙ rows_with virtual_view (λ (v : VirtualRelvar). v.name) (λ row. refl) c.prepare.new.tables.virtuals c.args.name entry (no_virtual relation keys c.args.name rows free)) in
    let named : known_of c.prepare.new.tables ≡ known_rows rows = c.prepare.ensures.known ∙ c.self.invariant.named ∙ ap known_rows (sym same) in
    let own : AllByRecursion IsOwnStep steps = subst (AllByRecursion IsOwnStep) (sym c.prepare.ensures.steps) c.self.invariant.own in
    let more = added_as virtual_heading rows.virtuals c.insert.new.self.entries (c.args.name, entry) c.prepare.new.tables.declared.virtuals.entries c.put_last.new.map.entries (c.in_ok-known.known, c.in_ok-known_heading.known_heading) (c.in_ok-insert.ensures.entries ∙ rows_with virtual_view (λ (v : VirtualRelvar). v.name) (λ row. refl) c.prepare.new.tables.virtuals c.args.name entry (no_virtual relation keys c.args.name rows free)) c.put_last.ensures.entries (ap (λ (k : Known). k.virtuals) named) (λ i. (c.in_ok-known.ensures i, c.in_ok-known_heading.ensures i)) in
    record {
      history = history_next relation keys kept rows (with_virtual_rows c.insert.new.self.entries rows) steps c.note.new.self.steps.items VirtualAdded c.note.ensures led history catalog;
      room = room_next c.prepare.new.tables _ steps c.note.new.self.steps.items VirtualAdded 1 c.note.ensures refl c.in_ok-prepare.ensures.room
          (record { bases = omega arith; virtuals = c.insert.ensures.spare; constraints = omega arith; known_bases = omega arith; known_virtuals = c.put_last.ensures.room; known_constraints = omega arith });
      named = λ i. record { bases = (named i).bases; virtuals = more i; constraints = (named i).constraints };
      own = own_more steps c.note.new.self.steps.items VirtualAdded c.note.ensures own tt;
    }

pub returns-clause-added : goal.returns-clause-added
returns-clause-added g c =
    let relation = g.B.Body.relation in
    let keys = g.B.Body.keys in
    let kept = g.B.Body.kept in
    let rows = rows_of c.prepare.new.tables in
    let steps = c.prepare.new.log.steps.items in
    let same : rows ≡ rows_of c.self.inside.tables = c.prepare.ensures.rows in
    let seen : database_view relation rows ≡ c.args.self.now.database = ap (database_view relation) same ∙ ap (λ (v : CatalogView). v.database) c.self.view_is in
    let history : IsHistory relation keys kept rows steps =
    subst (λ r. IsHistory relation keys kept r steps) (sym same) (subst (IsHistory relation keys kept (rows_of c.self.inside.tables)) (sym c.prepare.ensures.steps) c.self.invariant.history) in
    let free : knows_relvar c.args.name (database_view relation rows) ≡ false = ap (knows_relvar c.args.name) seen ∙ sym c.has_relvar.ensures ∙ c.if-has_relvar.false in
    let entry : VirtualEntry = record { heading = c.args.heading; tree = c.in_ok-tree.tree; keys = c.args.keys } in
    let led = virtual_added relation keys kept rows c.insert.new.self.entries (c.args.name, entry)
    (c.in_ok-insert.ensures.entries ∙ rows_with virtual_view (λ (v : VirtualRelvar). v.name) (λ row. refl) c.prepare.new.tables.virtuals c.args.name entry (no_virtual relation keys c.args.name rows free)) in
    view_next relation keys kept rows (with_virtual_rows c.insert.new.self.entries rows) steps c.note.new.self.steps.items VirtualAdded c.note.ensures led c.args.self.now _
    ((λ i. history_view relation keys kept (same i) (c.prepare.ensures.steps i)) ∙ c.self.view_is)
    (ap (λ es. database_view relation (with_virtual_rows es rows)) c.in_ok-insert.ensures.entries
    ∙ view_with_virtual relation keys rows c.prepare.new.tables.virtuals c.args.name entry refl free
    ∙ ap (λ e. with_virtual (virtual_relvar c.args.name c.args.heading e (map (λ key. key.items) c.args.keys.items)) (database_view relation rows)) c.in_ok-tree.ensures
    ∙ ap (with_virtual (virtual_relvar c.args.name c.args.heading (tree_view c.args.tree) (map (λ key. key.items) c.args.keys.items))) seen)

pub put_last-requires-clause-new : goal.put_last-requires-clause-new
put_last-requires-clause-new g c =
    let relation = g.B.Body.relation in
    let keys = g.B.Body.keys in
    let kept = g.B.Body.kept in
    let rows = rows_of c.prepare.new.tables in
    let steps = c.prepare.new.log.steps.items in
    let same : rows ≡ rows_of c.self.inside.tables = c.prepare.ensures.rows in
    let seen : database_view relation rows ≡ c.args.self.now.database = ap (database_view relation) same ∙ ap (λ (v : CatalogView). v.database) c.self.view_is in
    let history : IsHistory relation keys kept rows steps =
    subst (λ r. IsHistory relation keys kept r steps) (sym same) (subst (IsHistory relation keys kept (rows_of c.self.inside.tables)) (sym c.prepare.ensures.steps) c.self.invariant.history) in
    let free : knows_relvar c.args.name (database_view relation rows) ≡ false = ap (knows_relvar c.args.name) seen ∙ sym c.has_relvar.ensures ∙ c.if-has_relvar.false in
    let named : known_of c.prepare.new.tables ≡ known_rows rows = c.prepare.ensures.known ∙ c.self.invariant.named ∙ ap known_rows (sym same) in
    ap (λ n. is_some (lookup (same_name n) c.prepare.new.tables.declared.virtuals.entries)) c.in_ok-known.ensures
    ∙ ap (λ (k : Known). is_some (lookup (same_name c.args.name) k.virtuals)) named ∙ found_as virtual_heading (λ row. refl) c.args.name rows.virtuals ∙ no_virtual relation keys c.args.name rows free
