use Rattle.std.proofs.Common.{◌∙◌, ap, refl, sym}
use Rattle.std.specs.Prelude.{is_some}
use Rattle.td_catalog.specs.code.CatalogViews.{base_heading, known_rows, rows_of}
use Rattle.td_catalog.specs.code.Histories.{held_view, with_held_bases}
use Rattle.td_catalog.proofs.LedSteps.{body_reverted, first_place, gone_back, none_reverted, set_same}
use Rattle.td_catalog.proofs.Named.{with_known_bases}
use Rattle.td_catalog.proofs.tables.Tables.revert_body.Goals as goal

pub returns-in-Some-clause-held : goal.returns-in-Some-clause-held
returns-in-Some-clause-held g c =
    let relation = g.B.Body.relation in
    let keys = g.B.Body.keys in
    let kept = g.B.Body.kept in
    let rows = rows_of c.args.self.now in
    let was = c.pair_mut-entry.result.1.now in
    let place = first_place c.args.name.now _ c.in-Some.place (sym c.get_index_of.ensures.index ∙ c.in-Some.is) in
    let back = gone_back c.revert.result (relation was.body) (relation c.revert.new.self) (kept was.body) (kept c.revert.new.self) c.revert.ensures.back c.revert.ensures.none c.revert.ensures.same in
    ap (λ bs. with_held_bases bs (held_view relation keys kept rows))
    (body_reverted relation keys kept c.args.name.now rows.bases c.in-Some.place _ (record { heading = was.heading; keys = was.keys; body = c.revert.new.self }) place c.pair_mut-entry.ensures.value
    (record { heading = refl; names = refl; keys_stay = c.revert.ensures.keys; relation_is = back.relation_is; kept_is = back.kept_is }))

pub returns-in_default-clause-held : goal.returns-in_default-clause-held
returns-in_default-clause-held g c =
    let relation = g.B.Body.relation in
    let keys = g.B.Body.keys in
    let kept = g.B.Body.kept in
    ap (λ bs. with_held_bases bs (held_view relation keys kept (rows_of c.args.self.now)))
    (sym (none_reverted relation keys kept c.args.name.now c.args.self.now.bases.entries (sym c.get_index_of.ensures.found ∙ ap is_some c.in_default.is)))

pub returns-in-Some-clause-known : goal.returns-in-Some-clause-known
returns-in-Some-clause-known g c =
    let rows = rows_of c.args.self.now in
    let was = c.pair_mut-entry.result.1.now in (
      refl,
      ap (λ bs. with_known_bases bs (known_rows rows))
          (set_same base_heading rows.bases c.in-Some.place _ (record { heading = was.heading; keys = was.keys; body = c.revert.new.self }) c.pair_mut-entry.ensures.value refl),
    )
