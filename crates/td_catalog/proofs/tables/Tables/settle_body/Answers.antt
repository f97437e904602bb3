use Rattle.std.proofs.Common.{ap, map, refl}
use Rattle.td_catalog.specs.code.CatalogViews.{base_heading, base_view, known_rows, database_view, rows_of}
use Rattle.td_catalog.specs.model.Database.{with_bases}
use Rattle.td_catalog.proofs.Copies.{base_parts, entries_alike}
use Rattle.td_catalog.proofs.LedSteps.{set_same}
use Rattle.td_catalog.proofs.Named.{with_known_bases}
use Rattle.td_catalog.proofs.tables.Tables.settle_body.Goals as goal

pub returns-in-Some-clause-entries : goal.returns-in-Some-clause-entries
returns-in-Some-clause-entries g c =
    let relation = g.B.Body.relation in
    let keys = g.B.Body.keys in
    let rows = rows_of c.args.self.now in
    let was = c.pair_mut-entry.result.1.now in
    entries_alike relation keys _ rows.bases
    (set_same (base_parts relation keys) rows.bases c.in-Some.place _ (record { heading = was.heading; keys = was.keys; body = c.settle.new.self }) c.pair_mut-entry.ensures.value
    (λ i. record {
      base = record { name = c.pair_mut-entry.result.0.now; keys = map (λ key. key.items) was.keys.items; relation = c.settle.ensures.relation i };
      heading = was.heading;
      body_keys = c.settle.ensures.keys i;
    }))
    c.requires

pub returns-in-Some-clause-database : goal.returns-in-Some-clause-database
returns-in-Some-clause-database g c =
    let relation = g.B.Body.relation in
    let rows = rows_of c.args.self.now in
    let was = c.pair_mut-entry.result.1.now in
    ap (λ bs. with_bases bs (database_view relation rows))
    (set_same (base_view relation) rows.bases c.in-Some.place _ (record { heading = was.heading; keys = was.keys; body = c.settle.new.self }) c.pair_mut-entry.ensures.value
    (λ i. record { name = c.pair_mut-entry.result.0.now; keys = map (λ key. key.items) was.keys.items; relation = c.settle.ensures.relation i }))

pub returns-in-Some-clause-known : goal.returns-in-Some-clause-known
returns-in-Some-clause-known g c =
    let rows = rows_of c.args.self.now in
    let was = c.pair_mut-entry.result.1.now in (
      refl,
      ap (λ bs. with_known_bases bs (known_rows rows))
          (set_same base_heading rows.bases c.in-Some.place _ (record { heading = was.heading; keys = was.keys; body = c.settle.new.self }) c.pair_mut-entry.ensures.value refl),
    )
