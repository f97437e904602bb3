use Rattle.std.proofs.Common.{◌≡◌, ◌∙◌, ap, arith, false, refl, subst, sym}
use Rattle.std.specs.List.{AllByRecursion}
use Rattle.std.specs.Prelude.{is_some}
use Rattle.std.specs.Map.{lookup}
use Rattle.td_catalog.specs.code.CatalogViews.{IsCatalog, Known, known_of, known_rows, base_heading, base_view, database_view, rows_of}
use Rattle.td_catalog.specs.code.Histories.{IsHistory, IsOwnStep, history_view}
use Rattle.td_catalog.specs.code.KeptDatabases.{CatalogView}
use Rattle.td_catalog.specs.declared.history.Step.TheVariants.{BaseAdded}
use Rattle.td_catalog.proofs.LedSteps.{base_added}
use Rattle.td_catalog.proofs.Named.{added_as, found_as, own_more}
use Rattle.td_catalog.proofs.Steps.{history_next, room_next, view_next}
use Rattle.td_catalog.specs.model.Database.{BaseRelvar, Database, base_relvar, knows_relvar, with_base}
use Rattle.td_catalog.specs.model.TypedDatabases.{AreTyped}
use Rattle.td_catalog.specs.declared.entry.BaseEntry.{BaseEntry}
use Rattle.td_catalog.proofs.Changes.{catalog_with_base, no_base, view_with_base, with_base_rows}
use Rattle.td_types.specs.model.TypeLists.{AreKnown}
use Rattle.td_types.specs.model.Types.{pack, same_name}
use Rattle.td_catalog.proofs.Rows.{rows_with}
use Rattle.td_catalog.proofs.catalog.Catalog.add_base.Goals as goal

pub invariant_of-self-2 : goal.invariant_of-self-2
invariant_of-self-2 g c =
    let relation = g.B.Body.relation in
    let keys = g.B.Body.keys in
    let kept = g.B.Body.kept in
    let rows = rows_of c.prepare.new.tables in
    let steps = c.prepare.new.log.steps.items in
    let same : rows ≡ rows_of c.self.inside.tables = c.prepare.ensures.rows in
    let seen : database_view relation rows ≡ c.args.self.now.database = ap (database_view relation) same ∙ ap (λ (v : CatalogView). v.database) c.self.view_is in
    let history : IsHistory relation keys kept rows steps =
    subst (λ r. IsHistory relation keys kept r steps) (sym same) (subst (IsHistory relation keys kept (rows_of c.self.inside.tables)) (sym c.prepare.ensures.steps) c.self.invariant.history) in
    let free : knows_relvar c.args.name (database_view relation rows) ≡ false = ap (knows_relvar c.args.name) seen ∙ sym c.has_relvar.ensures ∙ c.if-has_relvar.false in
    let entry : BaseEntry _ = record { heading = c.args.heading; keys = c.args.keys; body = c.args.body } in
    let catalog : IsCatalog relation keys (with_base_rows c.insert.new.self.entries rows) =
    subst (λ es. IsCatalog relation keys (with_base_rows es rows)) (sym c.in_ok-insert.ensures.entries)
    (catalog_with_base relation keys rows c.prepare.new.tables.bases c.args.name entry refl free history.catalog
    (record {
      named = c.reveal.ensures;
      heading = subst (λ (db : Database). AreKnown db.types (pack c.args.heading)) (sym seen) c.requires.heading;
      of_body = c.requires.body;
      proper = c.len.ensures.valid;
      typed = subst (λ (db : Database). AreTyped db.types (relation c.args.body)) (sym seen) c.requires.typed;
    })) in
    let led = base_added relation keys kept rows c.insert.new.self.entries (c.args.name, entry)
    (c.in_ok-insert.ensures.entries ∙ rows_with (base_view relation) (λ (r : BaseRelvar). r.name) (λ row. refl) c.prepare.new.tables.bases c.args.name entry (no_base relation keys c.args.name rows free)) in
    let named : known_of c.prepare.new.tables ≡ known_rows rows = c.prepare.ensures.known ∙ c.self.invariant.named ∙ ap known_rows (sym same) in
    let own : AllByRecursion IsOwnStep steps = subst (AllByRecursion IsOwnStep) (sym c.prepare.ensures.steps) c.self.invariant.own in
    let more = added_as base_heading rows.bases c.insert.new.self.entries (c.args.name, entry) c.prepare.new.tables.declared.bases.entries c.put_last.new.map.entries (c.in_ok-known.known, c.in_ok-known_heading.known_heading) (c.in_ok-insert.ensures.entries ∙ rows_with (base_view relation) (λ (r : BaseRelvar). r.name) (λ row. refl) c.prepare.new.tables.bases c.args.name entry (no_base relation keys c.args.name rows free)) c.put_last.ensures.entries (ap (λ (k : Known). k.bases) named) (λ i. (c.in_ok-known.ensures i, c.in_ok-known_heading.ensures i)) in
    record {
      history = history_next relation keys kept rows (with_base_rows c.insert.new.self.entries rows) steps c.note.new.self.steps.items BaseAdded c.note.ensures led history catalog;
      room = room_next c.prepare.new.tables _ steps c.note.new.self.steps.items BaseAdded 1 c.note.ensures refl c.in_ok-prepare.ensures.room
          (record { bases = c.insert.ensures.spare; virtuals = omega arith; constraints = omega arith; known_bases = c.put_last.ensures.room; known_virtuals = omega arith; known_constraints = omega arith });
      named = λ i. record { bases = more i; virtuals = (named i).virtuals; constraints = (named i).constraints };
      own = own_more steps c.note.new.self.steps.items BaseAdded c.note.ensures own tt;
    }

pub returns-clause-added : goal.returns-clause-added
returns-clause-added g c =
    let relation = g.B.Body.relation in
    let keys = g.B.Body.keys in
    let kept = g.B.Body.kept in
    let rows = rows_of c.prepare.new.tables in
    let steps = c.prepare.new.log.steps.items in
    let same : rows ≡ rows_of c.self.inside.tables = c.prepare.ensures.rows in
    let seen : database_view relation rows ≡ c.args.self.now.database = ap (database_view relation) same ∙ ap (λ (v : CatalogView). v.database) c.self.view_is in
    let history : IsHistory relation keys kept rows steps =
    subst (λ r. IsHistory relation keys kept r steps) (sym same) (subst (IsHistory relation keys kept (rows_of c.self.inside.tables)) (sym c.prepare.ensures.steps) c.self.invariant.history) in
    let free : knows_relvar c.args.name (database_view relation rows) ≡ false = ap (knows_relvar c.args.name) seen ∙ sym c.has_relvar.ensures ∙ c.if-has_relvar.false in
    let entry : BaseEntry _ = record { heading = c.args.heading; keys = c.args.keys; body = c.args.body } in
    let led = base_added relation keys kept rows c.insert.new.self.entries (c.args.name, entry)
    (c.in_ok-insert.ensures.entries ∙ rows_with (base_view relation) (λ (r : BaseRelvar). r.name) (λ row. refl) c.prepare.new.tables.bases c.args.name entry (no_base relation keys c.args.name rows free)) in
    view_next relation keys kept rows (with_base_rows c.insert.new.self.entries rows) steps c.note.new.self.steps.items BaseAdded c.note.ensures led c.args.self.now _
    ((λ i. history_view relation keys kept (same i) (c.prepare.ensures.steps i)) ∙ c.self.view_is)
    (ap (λ es. database_view relation (with_base_rows es rows)) c.in_ok-insert.ensures.entries
    ∙ view_with_base relation keys rows c.prepare.new.tables.bases c.args.name entry refl free
    ∙ ap (λ ks. with_base (base_relvar c.args.name ks (relation c.args.body)) (database_view relation rows)) (sym c.requires.body.keys_are)
    ∙ ap (with_base (base_relvar c.args.name (keys c.args.body) (relation c.args.body))) seen)

pub put_last-requires-clause-new : goal.put_last-requires-clause-new
put_last-requires-clause-new g c =
    let relation = g.B.Body.relation in
    let keys = g.B.Body.keys in
    let kept = g.B.Body.kept in
    let rows = rows_of c.prepare.new.tables in
    let steps = c.prepare.new.log.steps.items in
    let same : rows ≡ rows_of c.self.inside.tables = c.prepare.ensures.rows in
    let seen : database_view relation rows ≡ c.args.self.now.database = ap (database_view relation) same ∙ ap (λ (v : CatalogView). v.database) c.self.view_is in
    let history : IsHistory relation keys kept rows steps =
    subst (λ r. IsHistory relation keys kept r steps) (sym same) (subst (IsHistory relation keys kept (rows_of c.self.inside.tables)) (sym c.prepare.ensures.steps) c.self.invariant.history) in
    let free : knows_relvar c.args.name (database_view relation rows) ≡ false = ap (knows_relvar c.args.name) seen ∙ sym c.has_relvar.ensures ∙ c.if-has_relvar.false in
    let named : known_of c.prepare.new.tables ≡ known_rows rows = c.prepare.ensures.known ∙ c.self.invariant.named ∙ ap known_rows (sym same) in
    ap (λ n. is_some (lookup (same_name n) c.prepare.new.tables.declared.bases.entries)) c.in_ok-known.ensures
    ∙ ap (λ (k : Known). is_some (lookup (same_name c.args.name) k.bases)) named ∙ found_as base_heading (λ row. refl) c.args.name rows.bases ∙ no_base relation keys c.args.name rows free
