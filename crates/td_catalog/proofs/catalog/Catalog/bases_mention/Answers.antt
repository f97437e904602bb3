use Rattle.std.proofs.Common.{◌∙◌, ap, map, subst, sym}
use Rattle.td_catalog.specs.code.KeptDatabases.{CatalogView}
use Rattle.std.specs.Prelude.{⊤}
use Rattle.std.specs.List.{list_any}
use Rattle.td_catalog.specs.model.Database.{Database}
use Rattle.td_catalog.specs.model.Mentioned.{base_mentions_type}
use Rattle.td_catalog.proofs.Visits.{AreLeft, bases_mention_as, heading_mentions, left_all, left_next, left_none, left_passed, nothing_asked}
use Rattle.td_catalog.proofs.catalog.Catalog.bases_mention.Goals as goal

pub loop-entry-init : goal.loop-entry-init
loop-entry-init g c =
    let name = c.args.name.now in
    let entries = map (λ row. row.1) c.self.inside.tables.bases.entries in (
      tt,
      tt,
      left_all (λ _. ⊤) (heading_mentions name) (list_any (base_mentions_type name) c.args.self.now.database.bases) entries c.into_iter-entry-iterator.result (nothing_asked entries)
          (ap (λ (db : Database). list_any (base_mentions_type name) db.bases) (sym (ap (λ (v : CatalogView). v.database) c.self.view_is))
          ∙ bases_mention_as g.B.Body.relation g.B.Body.keys name c.self.inside.tables.bases.entries c.self.invariant.history.catalog.entries)
          (c.into_iter-entry-iterator.ensures.into_iter_gives ∙ c.values-entry-items.ensures.rest),
    )

pub loop-entry-preserved : goal.loop-entry-preserved
loop-entry-preserved g c =
    let name = c.args.name.now in
    let total = list_any (base_mentions_type name) c.args.self.now.database.bases in
    let left = subst (AreLeft (λ _. ⊤) (heading_mentions name) total) c.in-Some.ensures.steps c.loop-entry.invariant.2 in
    (tt, tt, left_next (λ _. ⊤) (heading_mentions name) total _ _ left (sym c.heading_names_user.ensures ∙ c.if-heading_names_user.false))

pub returns-then-heading_names_user : goal.returns-then-heading_names_user
returns-then-heading_names_user g c =
    let name = c.args.name.now in
    let total = list_any (base_mentions_type name) c.args.self.now.database.bases in
    let left = subst (AreLeft (λ _. ⊤) (heading_mentions name) total) c.in-Some.ensures.steps c.loop-entry.invariant.2 in
    left_passed (λ _. ⊤) (heading_mentions name) total _ _ left (sym c.heading_names_user.ensures ∙ c.if-heading_names_user.true)

pub returns : goal.returns
returns g c =
    let name = c.args.name.now in
    left_none (λ _. ⊤) (heading_mentions name) (list_any (base_mentions_type name) c.args.self.now.database.bases) c.loop-entry.entry-iterator c.loop-entry.invariant.2
    c.in-None.ensures.steps.0
