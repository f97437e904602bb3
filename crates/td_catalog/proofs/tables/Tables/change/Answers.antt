use Rattle.std.proofs.Common.{◌∙◌, ap, map, refl, sym, true≢false}
use Rattle.std.specs.Prelude.{is_some}
use Rattle.td_catalog.specs.code.CatalogViews.{base_heading, base_view, database_view, known_rows, rows_of}
use Rattle.td_catalog.specs.model.Database.{BaseRelvar}
use Rattle.td_catalog.specs.code.Histories.{held_base, held_view, with_held_bases}
use Rattle.td_catalog.proofs.ChangedBodies.{IsChangedEntry, catalog_changed, headings_at, on_err, on_ok, view_changed}
use Rattle.td_catalog.proofs.LedSteps.{changed_body, first_place, set_same}
use Rattle.td_catalog.proofs.Places.{place_is}
use Rattle.td_catalog.proofs.Rows.{unnamed}
use Rattle.td_catalog.proofs.Named.{with_known_bases}
use Rattle.td_catalog.proofs.tables.Tables.change.Goals as goal

pub change-requires-clause-out : goal.change-requires-clause-out
change-requires-clause-out g c =
    let relation = g.B.Body.relation in
    let keys = g.B.Body.keys in
    let rows = rows_of c.args.self.now in
    let place = place_is relation keys c.args.name.now rows.bases c.in-Some.place (sym c.get_index_of.ensures.index ∙ c.in-Some.is) in
    (headings_at relation keys c.args.out.now c.args.add.now rows c.args.name.now c.in-Some.place _ (database_view relation rows) place c.pair_mut-entry.ensures.value refl
    c.requires.headings).0

pub change-requires-clause-add : goal.change-requires-clause-add
change-requires-clause-add g c =
    let relation = g.B.Body.relation in
    let keys = g.B.Body.keys in
    let rows = rows_of c.args.self.now in
    let place = place_is relation keys c.args.name.now rows.bases c.in-Some.place (sym c.get_index_of.ensures.index ∙ c.in-Some.is) in
    (headings_at relation keys c.args.out.now c.args.add.now rows c.args.name.now c.in-Some.place _ (database_view relation rows) place c.pair_mut-entry.ensures.value refl
    c.requires.headings).1

pub returns-clause-catalog : goal.returns-clause-catalog
returns-clause-catalog g c =
    let relation = g.B.Body.relation in
    let keys = g.B.Body.keys in
    let rows = rows_of c.args.self.now in
    let place = place_is relation keys c.args.name.now rows.bases c.in-Some.place (sym c.get_index_of.ensures.index ∙ c.in-Some.is) in
    let changed : IsChangedEntry relation keys c.args.out.now c.args.add.now c.change.result _ c.change.new.self = record {
      heading = c.change.ensures.parts.0;
      names = c.change.ensures.parts.1;
      keys_stay = c.change.ensures.keys;
      changed = c.change.ensures.changed;
      same = on_err _ _ c.change.result (λ s. s.0) c.change.ensures.same;
      valid = c.change.ensures.valid;
    } in
    catalog_changed relation keys c.args.out.now c.args.add.now rows c.args.name.now c.in-Some.place _ place c.pair_mut-entry.ensures.value c.change.result c.change.new.self changed
    c.requires.catalog c.requires.headings c.requires.typed

pub returns-clause-led : goal.returns-clause-led
returns-clause-led g c =
    let relation = g.B.Body.relation in
    let keys = g.B.Body.keys in
    let kept = g.B.Body.kept in
    let rows = rows_of c.args.self.now in
    let place = first_place c.args.name.now _ c.in-Some.place (sym c.get_index_of.ensures.index ∙ c.in-Some.is) in
    on_ok _ _ c.change.result
    (λ k. changed_body relation keys kept rows c.args.name.now c.in-Some.place _ c.change.new.self place c.pair_mut-entry.ensures.value
    (record { heading = c.change.ensures.parts.0; names = c.change.ensures.parts.1; keys_stay = c.change.ensures.keys; kept_more = k }))
    c.change.ensures.kept

pub returns-clause-changed : goal.returns-clause-changed
returns-clause-changed g c =
    let relation = g.B.Body.relation in
    let keys = g.B.Body.keys in
    let rows = rows_of c.args.self.now in
    let place = place_is relation keys c.args.name.now rows.bases c.in-Some.place (sym c.get_index_of.ensures.index ∙ c.in-Some.is) in
    let changed : IsChangedEntry relation keys c.args.out.now c.args.add.now c.change.result _ c.change.new.self = record {
      heading = c.change.ensures.parts.0;
      names = c.change.ensures.parts.1;
      keys_stay = c.change.ensures.keys;
      changed = c.change.ensures.changed;
      same = on_err _ _ c.change.result (λ s. s.0) c.change.ensures.same;
      valid = c.change.ensures.valid;
    } in
    view_changed relation keys c.args.out.now c.args.add.now rows c.args.name.now c.in-Some.place _ place c.pair_mut-entry.ensures.value c.change.result c.change.new.self changed

pub returns-clause-same : goal.returns-clause-same
returns-clause-same g c =
    let relation = g.B.Body.relation in
    let keys = g.B.Body.keys in
    let kept = g.B.Body.kept in
    let rows = rows_of c.args.self.now in
    on_err _ _ c.change.result
    (λ s. ap (λ bs. with_held_bases bs (held_view relation keys kept rows))
    (set_same (held_base relation keys kept) rows.bases c.in-Some.place _ c.change.new.self c.pair_mut-entry.ensures.value
    (λ i. record {
      base = record { name = c.pair_mut-entry.result.0.now; keys = map (λ key. key.items) (c.change.ensures.parts.1 i).items; relation = s.0 i };
      heading = c.change.ensures.parts.0 i;
      body_keys = c.change.ensures.keys i;
      kept = s.1 i;
    })))
    c.change.ensures.same

pub returns-in_default-clause-led : goal.returns-in_default-clause-led
returns-in_default-clause-led g c =
    let none = unnamed (base_view g.B.Body.relation) (λ (r : BaseRelvar). r.name) (λ row. refl) c.args.name.now c.args.self.now.bases.entries
    (sym c.get_index_of.ensures.found ∙ ap is_some c.in_default.is) in
    absurd (true≢false (sym c.requires.known ∙ ap is_some none))

pub returns-in_default-clause-changed : goal.returns-in_default-clause-changed
returns-in_default-clause-changed g c =
    let none = unnamed (base_view g.B.Body.relation) (λ (r : BaseRelvar). r.name) (λ row. refl) c.args.name.now c.args.self.now.bases.entries
    (sym c.get_index_of.ensures.found ∙ ap is_some c.in_default.is) in
    absurd (true≢false (sym c.requires.known ∙ ap is_some none))

pub returns-clause-known : goal.returns-clause-known
returns-clause-known g c =
    let rows = rows_of c.args.self.now in (
      refl,
      ap (λ bs. with_known_bases bs (known_rows rows))
          (set_same base_heading rows.bases c.in-Some.place _ c.change.new.self c.pair_mut-entry.ensures.value (λ i. (c.pair_mut-entry.result.0.now, c.change.ensures.parts.0 i))),
    )
