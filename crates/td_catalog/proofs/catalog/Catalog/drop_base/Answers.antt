use Rattle.std.proofs.Common.{◌≡◌, ◌∙◌, true, ap, arith, map, refl, subst, sym, true≢false}
use Rattle.std.specs.Prelude.{is_some}
use Rattle.std.specs.List.{AllByRecursion}
use Rattle.std.specs.Map.{lookup, lookup_key, remove_entry}
use Rattle.td_catalog.specs.code.CatalogViews.{IsCatalog, Known, base_heading, base_view, database_view, known_of, known_rows, rows_of}
use Rattle.td_catalog.specs.model.Database.{Database, BaseRelvar, without_relvar}
use Rattle.td_catalog.specs.code.Histories.{IsHistory, IsOwnStep, history_view}
use Rattle.td_catalog.specs.code.KeptDatabases.{CatalogView}
use Rattle.td_catalog.specs.model.Mentioned.{is_relvar_in_use}
use Rattle.td_catalog.specs.declared.history.Step.TheVariants.{BaseDropped}
use Rattle.td_catalog.proofs.Changes.{with_base_rows}
use Rattle.td_catalog.proofs.EntriesLess.{catalog_without_base, view_without_base}
use Rattle.td_catalog.proofs.LedSteps.{base_dropped}
use Rattle.td_catalog.proofs.Named.{found_as, own_as, own_more, removed_as}
use Rattle.td_catalog.proofs.Rows.{known}
use Rattle.td_catalog.proofs.Steps.{history_next, room_next, view_next}
use Rattle.td_catalog.proofs.catalog.Catalog.drop_base.Goals as goal
use Rattle.td_types.specs.model.Headings.{has_name}
use Rattle.td_types.specs.model.Types.{same_name}

pub invariant_of-self-2 : goal.invariant_of-self-2
invariant_of-self-2 g c =
    let relation = g.B.Body.relation in
    let keys = g.B.Body.keys in
    let kept = g.B.Body.kept in
    let rows = rows_of c.prepare.new.tables in
    let steps = c.prepare.new.log.steps.items in
    let same : rows ≡ rows_of c.self.inside.tables = c.prepare.ensures.rows in
    let seen : database_view relation rows ≡ c.args.self.now.database = ap (database_view relation) same ∙ ap (λ (v : CatalogView). v.database) c.self.view_is in
    let named : known_of c.prepare.new.tables ≡ known_rows rows = c.prepare.ensures.known ∙ c.self.invariant.named ∙ ap known_rows (sym same) in
    let history : IsHistory relation keys kept rows steps =
    subst (λ r. IsHistory relation keys kept r steps) (sym same) (subst (IsHistory relation keys kept (rows_of c.self.inside.tables)) (sym c.prepare.ensures.steps) c.self.invariant.history) in
    let own : AllByRecursion IsOwnStep steps = subst (AllByRecursion IsOwnStep) (sym c.prepare.ensures.steps) c.self.invariant.own in
    let led = base_dropped relation keys kept rows (c.in-Some.known, c.in-Some.heading) c.args.name.now c.in-Some-shift_remove_full.place c.in-Some-shift_remove_full.name c.in-Some-shift_remove_full.entry c.shift_remove_full-2.new.self.entries c.in-Some-shift_remove_full.ensures.entries c.in-Some-shift_remove_full.ensures.index c.in-Some-shift_remove_full.ensures.key c.in-Some-shift_remove_full.ensures.value in
    let catalog : IsCatalog relation keys (with_base_rows c.shift_remove_full-2.new.self.entries rows) = catalog_without_base relation keys rows c.args.name.now history.catalog (ap (λ (db : Database). has_name c.args.name.now (map (λ (r : BaseRelvar). r.name) db.bases)) seen ∙ c.requires.known) c.shift_remove_full-2.new.self.entries c.in-Some-shift_remove_full.ensures.entries
    (ap (is_relvar_in_use c.args.name.now) seen ∙ c.requires.unused) in
    let more = c.in-Some.ensures.entries ∙ ap (λ (k : Known). remove_entry (same_name c.args.name.now) k.bases) named ∙ removed_as base_heading (λ row. refl) c.args.name.now rows.bases ∙ ap (map base_heading) (sym c.in-Some-shift_remove_full.ensures.entries) in
    let mine = own_as base_heading (λ row. refl) c.args.name.now rows.bases c.in-Some-shift_remove_full.name c.in-Some-shift_remove_full.entry c.in-Some.known c.in-Some.heading c.in-Some-shift_remove_full.ensures.key c.in-Some-shift_remove_full.ensures.value
    (c.in-Some.ensures.key ∙ ap (λ (k : Known). lookup_key (same_name c.args.name.now) k.bases) named) (c.in-Some.ensures.value ∙ ap (λ (k : Known). lookup (same_name c.args.name.now) k.bases) named) in
    record {
      history = history_next relation keys kept rows (with_base_rows c.shift_remove_full-2.new.self.entries rows) steps c.note.new.self.steps.items (BaseDropped c.in-Some-shift_remove_full.place c.in-Some-shift_remove_full.name c.in-Some-shift_remove_full.entry (c.in-Some.known, c.in-Some.heading)) c.note.ensures led history catalog;
      room = room_next c.prepare.new.tables _ steps c.note.new.self.steps.items (BaseDropped c.in-Some-shift_remove_full.place c.in-Some-shift_remove_full.name c.in-Some-shift_remove_full.entry (c.in-Some.known, c.in-Some.heading)) 0 c.note.ensures refl c.in_ok-prepare.ensures.room (record { bases = omega (arith, c.in-Some-shift_remove_full.ensures.room.0); virtuals = omega arith; constraints = omega arith; known_bases = omega (arith, c.in-Some.ensures.room.0); known_virtuals = omega arith; known_constraints = omega arith });
      named = λ i. record { bases = more i; virtuals = (named i).virtuals; constraints = (named i).constraints };
      own = own_more steps c.note.new.self.steps.items (BaseDropped c.in-Some-shift_remove_full.place c.in-Some-shift_remove_full.name c.in-Some-shift_remove_full.entry (c.in-Some.known, c.in-Some.heading)) c.note.ensures own mine;
    }

pub returns-clause-dropped : goal.returns-clause-dropped
returns-clause-dropped g c =
    let relation = g.B.Body.relation in
    let keys = g.B.Body.keys in
    let kept = g.B.Body.kept in
    let rows = rows_of c.prepare.new.tables in
    let steps = c.prepare.new.log.steps.items in
    let same : rows ≡ rows_of c.self.inside.tables = c.prepare.ensures.rows in
    let seen : database_view relation rows ≡ c.args.self.now.database = ap (database_view relation) same ∙ ap (λ (v : CatalogView). v.database) c.self.view_is in
    let named : known_of c.prepare.new.tables ≡ known_rows rows = c.prepare.ensures.known ∙ c.self.invariant.named ∙ ap known_rows (sym same) in
    let history : IsHistory relation keys kept rows steps =
    subst (λ r. IsHistory relation keys kept r steps) (sym same) (subst (IsHistory relation keys kept (rows_of c.self.inside.tables)) (sym c.prepare.ensures.steps) c.self.invariant.history) in
    let led = base_dropped relation keys kept rows (c.in-Some.known, c.in-Some.heading) c.args.name.now c.in-Some-shift_remove_full.place c.in-Some-shift_remove_full.name c.in-Some-shift_remove_full.entry c.shift_remove_full-2.new.self.entries c.in-Some-shift_remove_full.ensures.entries c.in-Some-shift_remove_full.ensures.index c.in-Some-shift_remove_full.ensures.key c.in-Some-shift_remove_full.ensures.value in
    view_next relation keys kept rows (with_base_rows c.shift_remove_full-2.new.self.entries rows) steps c.note.new.self.steps.items (BaseDropped c.in-Some-shift_remove_full.place c.in-Some-shift_remove_full.name c.in-Some-shift_remove_full.entry (c.in-Some.known, c.in-Some.heading)) c.note.ensures led c.args.self.now _
    ((λ i. history_view relation keys kept (same i) (c.prepare.ensures.steps i)) ∙ c.self.view_is)
    (view_without_base relation keys rows c.args.name.now history.catalog (ap (λ (db : Database). has_name c.args.name.now (map (λ (r : BaseRelvar). r.name) db.bases)) seen ∙ c.requires.known) c.shift_remove_full-2.new.self.entries c.in-Some-shift_remove_full.ensures.entries ∙ ap (without_relvar c.args.name.now) seen)

pub returns-in_default-clause-dropped : goal.returns-in_default-clause-dropped
returns-in_default-clause-dropped g c =
    let relation = g.B.Body.relation in
    let keys = g.B.Body.keys in
    let kept = g.B.Body.kept in
    let rows = rows_of c.prepare.new.tables in
    let steps = c.prepare.new.log.steps.items in
    let same : rows ≡ rows_of c.self.inside.tables = c.prepare.ensures.rows in
    let seen : database_view relation rows ≡ c.args.self.now.database = ap (database_view relation) same ∙ ap (λ (v : CatalogView). v.database) c.self.view_is in
    let named : known_of c.prepare.new.tables ≡ known_rows rows = c.prepare.ensures.known ∙ c.self.invariant.named ∙ ap known_rows (sym same) in
    let history : IsHistory relation keys kept rows steps =
    subst (λ r. IsHistory relation keys kept r steps) (sym same) (subst (IsHistory relation keys kept (rows_of c.self.inside.tables)) (sym c.prepare.ensures.steps) c.self.invariant.history) in
    let there : is_some (lookup (same_name c.args.name.now) rows.bases) ≡ true =
    known (base_view relation) (λ (r : BaseRelvar). r.name) (λ row. refl) c.args.name.now rows.bases ∙ ap (λ (db : Database). has_name c.args.name.now (map (λ (r : BaseRelvar). r.name) db.bases)) seen ∙ c.requires.known in
    absurd (true≢false (sym there ∙ sym (found_as base_heading (λ row. refl) c.args.name.now rows.bases) ∙ ap (λ (k : Known). is_some (lookup (same_name c.args.name.now) k.bases)) (sym named) ∙ ap is_some (sym c.in_default.ensures.value)))

pub invariant_of-self-in_default-shift_remove_full : goal.invariant_of-self-in_default-shift_remove_full
invariant_of-self-in_default-shift_remove_full g c =
    let relation = g.B.Body.relation in
    let keys = g.B.Body.keys in
    let kept = g.B.Body.kept in
    let rows = rows_of c.prepare.new.tables in
    let steps = c.prepare.new.log.steps.items in
    let same : rows ≡ rows_of c.self.inside.tables = c.prepare.ensures.rows in
    let seen : database_view relation rows ≡ c.args.self.now.database = ap (database_view relation) same ∙ ap (λ (v : CatalogView). v.database) c.self.view_is in
    let named : known_of c.prepare.new.tables ≡ known_rows rows = c.prepare.ensures.known ∙ c.self.invariant.named ∙ ap known_rows (sym same) in
    let history : IsHistory relation keys kept rows steps =
    subst (λ r. IsHistory relation keys kept r steps) (sym same) (subst (IsHistory relation keys kept (rows_of c.self.inside.tables)) (sym c.prepare.ensures.steps) c.self.invariant.history) in
    let there : is_some (lookup (same_name c.args.name.now) rows.bases) ≡ true =
    known (base_view relation) (λ (r : BaseRelvar). r.name) (λ row. refl) c.args.name.now rows.bases ∙ ap (λ (db : Database). has_name c.args.name.now (map (λ (r : BaseRelvar). r.name) db.bases)) seen ∙ c.requires.known in
    absurd (true≢false (sym there ∙ ap is_some (sym c.in_default-shift_remove_full.ensures.value)))

pub returns-in_default-shift_remove_full-clause-dropped : goal.returns-in_default-shift_remove_full-clause-dropped
returns-in_default-shift_remove_full-clause-dropped g c =
    let relation = g.B.Body.relation in
    let keys = g.B.Body.keys in
    let kept = g.B.Body.kept in
    let rows = rows_of c.prepare.new.tables in
    let steps = c.prepare.new.log.steps.items in
    let same : rows ≡ rows_of c.self.inside.tables = c.prepare.ensures.rows in
    let seen : database_view relation rows ≡ c.args.self.now.database = ap (database_view relation) same ∙ ap (λ (v : CatalogView). v.database) c.self.view_is in
    let named : known_of c.prepare.new.tables ≡ known_rows rows = c.prepare.ensures.known ∙ c.self.invariant.named ∙ ap known_rows (sym same) in
    let history : IsHistory relation keys kept rows steps =
    subst (λ r. IsHistory relation keys kept r steps) (sym same) (subst (IsHistory relation keys kept (rows_of c.self.inside.tables)) (sym c.prepare.ensures.steps) c.self.invariant.history) in
    let there : is_some (lookup (same_name c.args.name.now) rows.bases) ≡ true =
    known (base_view relation) (λ (r : BaseRelvar). r.name) (λ row. refl) c.args.name.now rows.bases ∙ ap (λ (db : Database). has_name c.args.name.now (map (λ (r : BaseRelvar). r.name) db.bases)) seen ∙ c.requires.known in
    absurd (true≢false (sym there ∙ ap is_some (sym c.in_default-shift_remove_full.ensures.value)))
