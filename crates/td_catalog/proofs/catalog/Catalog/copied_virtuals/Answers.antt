use Rattle.std.proofs.Common.{ap, map, refl, subst, ◌∙◌}
use Rattle.td_catalog.specs.code.KeptDatabases.{CatalogView}
use Rattle.td_catalog.specs.code.CatalogViews.{virtual_view}
use Rattle.td_catalog.specs.model.Database.{BaseRelvar, Database, VirtualRelvar}
use Rattle.td_catalog.specs.model.TypedDatabases.{IsTyped}
use Rattle.td_catalog.proofs.Copies.{IsCopied, copied_next, copied_none}
use Rattle.td_catalog.proofs.Lists.{distinct_behind}
use Rattle.td_catalog.proofs.catalog.Catalog.copied_virtuals.Goals as goal

pub loop-name-init : goal.loop-name-init
loop-name-init g c =
    let db = c.args.self.now.database in
    let is_typed = subst IsTyped (ap (λ (v : CatalogView). v.database) c.self.view_is) c.self.invariant.history.catalog.is_typed in (
      tt,
      tt,
      copied_none virtual_view (λ (v : VirtualRelvar). v.name) (λ row. refl) db.virtuals c.in_ok-copy.copy.entries c.into_iter-name-iterator.result
          (distinct_behind (map (λ (b : BaseRelvar). b.name) db.bases) (map (λ (v : VirtualRelvar). v.name) db.virtuals) is_typed.distinct)
          (ap (map virtual_view) (c.into_iter-name-iterator.ensures.into_iter_gives ∙ c.iter-name-items.ensures.rest) ∙ ap (λ (d : Database). d.virtuals) (ap (λ (v : CatalogView). v.database) c.self.view_is))
          c.in_ok-copy.ensures.empty,
    )

pub loop-name-preserved : goal.loop-name-preserved
loop-name-preserved g c =
    let copied =
    subst (IsCopied virtual_view (λ (v : VirtualRelvar). v.name) (λ row. refl) c.args.self.now.database.virtuals c.loop-name.copy.entries) c.in-Some.ensures.steps c.loop-name.invariant.2 in (
      tt,
      tt,
      copied_next virtual_view (λ (v : VirtualRelvar). v.name) (λ row. refl) c.loop-name.copy c.args.self.now.database.virtuals _ c.in-Some.name.now c.in-Some.entry.now
          c.in_ok-try_clone.field-0 c.in_ok-try_clone-2.field-0
          (c.in_ok-try_clone-2.ensures c.in_ok-try_clone.field-0 ∙ ap (λ n. virtual_view (n, c.in-Some.entry.now)) c.in_ok-try_clone.ensures) copied c.insert.new.self.entries
          c.in_ok-insert.ensures.entries,
    )

pub loop-name-preserved-in_ok-insert : goal.loop-name-preserved-in_ok-insert
loop-name-preserved-in_ok-insert g c =
    let copied =
    subst (IsCopied virtual_view (λ (v : VirtualRelvar). v.name) (λ row. refl) c.args.self.now.database.virtuals c.loop-name.copy.entries) c.in-Some.ensures.steps c.loop-name.invariant.2 in (
      tt,
      tt,
      copied_next virtual_view (λ (v : VirtualRelvar). v.name) (λ row. refl) c.loop-name.copy c.args.self.now.database.virtuals _ c.in-Some.name.now c.in-Some.entry.now
          c.in_ok-try_clone.field-0 c.in_ok-try_clone-2.field-0
          (c.in_ok-try_clone-2.ensures c.in_ok-try_clone.field-0 ∙ ap (λ n. virtual_view (n, c.in-Some.entry.now)) c.in_ok-try_clone.ensures) copied c.insert.new.self.entries
          c.in_ok-insert.ensures.entries,
    )
