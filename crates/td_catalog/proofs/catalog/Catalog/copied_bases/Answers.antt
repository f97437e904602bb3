use Rattle.std.proofs.Common.{ap, map, refl, subst, sym, ◌∙◌}
use Rattle.td_catalog.specs.code.KeptDatabases.{CatalogView}
use Rattle.td_catalog.specs.code.CatalogViews.{base_view}
use Rattle.td_catalog.specs.model.Database.{BaseRelvar, Database}
use Rattle.td_catalog.proofs.Copies.{BaseParts, IsCopied, base_parts, bases_of, copied_all, copied_next, copied_none, entries_alike, names_of, parts_alike}
use Rattle.td_catalog.proofs.Lists.{distinct_front}
use Rattle.td_catalog.proofs.catalog.Catalog.copied_bases.Goals as goal
use Rattle.td_types.specs.model.Headings.{are_distinct}

pub loop-name-init : goal.loop-name-init
loop-name-init g c =
    let relation = g.B.Body.relation in
    let keys = g.B.Body.keys in
    let start = c.into_iter-name-iterator.ensures.into_iter_gives ∙ c.iter-name-items.ensures.rest in
    let bases = map (base_view relation) c.self.inside.tables.bases.entries in
    let db = c.args.self.now.database in (
      tt,
      tt,
      copied_none (base_parts relation keys) (λ (p : BaseParts). p.base.name) (λ row. refl) (map (base_parts relation keys) c.into_iter-name-iterator.result)
          c.in_ok-copy.copy.entries c.into_iter-name-iterator.result
          (ap are_distinct (names_of relation keys c.into_iter-name-iterator.result ∙ ap (λ rs. map (λ (r : BaseRelvar). r.name) (map (base_view relation) rs)) start)
          ∙ distinct_front (map (λ (r : BaseRelvar). r.name) bases) _ c.self.invariant.history.catalog.is_typed.distinct)
          refl c.in_ok-copy.ensures.empty,
    )

pub loop-name-preserved : goal.loop-name-preserved
loop-name-preserved g c =
    let parts = base_parts g.B.Body.relation g.B.Body.keys in
    let all = map parts c.into_iter-name-iterator.result in
    let copied =
    subst (IsCopied parts (λ (p : BaseParts). p.base.name) (λ row. refl) all c.loop-name.copy.entries) c.in-Some.ensures.steps c.loop-name.invariant.2 in (
      tt,
      tt,
      copied_next parts (λ (p : BaseParts). p.base.name) (λ row. refl) c.loop-name.copy all _ c.in-Some.name.now c.in-Some.entry.now
          c.in_ok-try_clone.field-0 c.in_ok-try_clone-2.field-0
          (parts_alike g.B.Body.relation g.B.Body.keys c.in-Some.name.now c.in_ok-try_clone.field-0 c.in-Some.entry.now c.in_ok-try_clone-2.field-0 c.in_ok-try_clone.ensures
          c.in_ok-try_clone-2.ensures.heading c.in_ok-try_clone-2.ensures.names c.in_ok-try_clone-2.ensures.relation c.in_ok-try_clone-2.ensures.keys)
          copied c.insert.new.self.entries c.in_ok-insert.ensures.entries,
    )

pub loop-name-preserved-in_ok-insert : goal.loop-name-preserved-in_ok-insert
loop-name-preserved-in_ok-insert g c =
    let parts = base_parts g.B.Body.relation g.B.Body.keys in
    let all = map parts c.into_iter-name-iterator.result in
    let copied =
    subst (IsCopied parts (λ (p : BaseParts). p.base.name) (λ row. refl) all c.loop-name.copy.entries) c.in-Some.ensures.steps c.loop-name.invariant.2 in (
      tt,
      tt,
      copied_next parts (λ (p : BaseParts). p.base.name) (λ row. refl) c.loop-name.copy all _ c.in-Some.name.now c.in-Some.entry.now
          c.in_ok-try_clone.field-0 c.in_ok-try_clone-2.field-0
          (parts_alike g.B.Body.relation g.B.Body.keys c.in-Some.name.now c.in_ok-try_clone.field-0 c.in-Some.entry.now c.in_ok-try_clone-2.field-0 c.in_ok-try_clone.ensures
          c.in_ok-try_clone-2.ensures.heading c.in_ok-try_clone-2.ensures.names c.in_ok-try_clone-2.ensures.relation c.in_ok-try_clone-2.ensures.keys)
          copied c.insert.new.self.entries c.in_ok-insert.ensures.entries,
    )

pub returns-clause-bases : goal.returns-clause-bases
returns-clause-bases g c =
    let relation = g.B.Body.relation in
    let keys = g.B.Body.keys in
    let start = c.into_iter-name-iterator.ensures.into_iter_gives ∙ c.iter-name-items.ensures.rest in
    let same =
    copied_all (base_parts relation keys) (λ (p : BaseParts). p.base.name) (λ row. refl) (map (base_parts relation keys) c.into_iter-name-iterator.result) c.loop-name.copy.entries
    c.loop-name.name-iterator c.loop-name.invariant.2 c.in-None.ensures.steps.0
    ∙ ap (map (base_parts relation keys)) start in
    bases_of relation keys c.loop-name.copy.entries ∙ ap (map (λ (p : BaseParts). p.base)) same ∙ sym (bases_of relation keys c.self.inside.tables.bases.entries)
    ∙ ap (λ (d : Database). d.bases) (ap (λ (v : CatalogView). v.database) c.self.view_is)

pub returns-clause-entries : goal.returns-clause-entries
returns-clause-entries g c =
    let relation = g.B.Body.relation in
    let keys = g.B.Body.keys in
    let start = c.into_iter-name-iterator.ensures.into_iter_gives ∙ c.iter-name-items.ensures.rest in
    let same =
    copied_all (base_parts relation keys) (λ (p : BaseParts). p.base.name) (λ row. refl) (map (base_parts relation keys) c.into_iter-name-iterator.result) c.loop-name.copy.entries
    c.loop-name.name-iterator c.loop-name.invariant.2 c.in-None.ensures.steps.0
    ∙ ap (map (base_parts relation keys)) start in
    entries_alike relation keys c.loop-name.copy.entries c.self.inside.tables.bases.entries same c.self.invariant.history.catalog.entries
