use Rattle.std.proofs.Common.{ap, map, refl, subst, ◌∙◌}
use Rattle.td_catalog.specs.code.KeptDatabases.{CatalogView}
use Rattle.td_catalog.specs.code.CatalogViews.{constraint_view}
use Rattle.td_catalog.specs.model.Database.{Database, NamedConstraint}
use Rattle.td_catalog.specs.model.TypedDatabases.{IsTyped}
use Rattle.td_catalog.proofs.Copies.{IsCopied, copied_next, copied_none}
use Rattle.td_catalog.proofs.catalog.Catalog.copied_constraints.Goals as goal

pub loop-name-init : goal.loop-name-init
loop-name-init g c =
    let db = c.args.self.now.database in
    let is_typed = subst IsTyped (ap (λ (v : CatalogView). v.database) c.self.view_is) c.self.invariant.history.catalog.is_typed in (
      tt,
      tt,
      copied_none constraint_view (λ (k : NamedConstraint). k.name) (λ row. refl) db.constraints c.in_ok-copy.copy.entries c.into_iter-name-iterator.result
          (is_typed.constraints_distinct)
          (ap (map constraint_view) (c.into_iter-name-iterator.ensures.into_iter_gives ∙ c.iter-name-items.ensures.rest) ∙ ap (λ (d : Database). d.constraints) (ap (λ (v : CatalogView). v.database) c.self.view_is))
          c.in_ok-copy.ensures.empty,
    )

pub loop-name-preserved : goal.loop-name-preserved
loop-name-preserved g c =
    let copied =
    subst (IsCopied constraint_view (λ (k : NamedConstraint). k.name) (λ row. refl) c.args.self.now.database.constraints c.loop-name.copy.entries) c.in-Some.ensures.steps c.loop-name.invariant.2 in (
      tt,
      tt,
      copied_next constraint_view (λ (k : NamedConstraint). k.name) (λ row. refl) c.loop-name.copy c.args.self.now.database.constraints _ c.in-Some.name.now c.in-Some.entry.now
          c.in_ok-try_clone.field-0 c.in_ok-try_clone-2.field-0
          (c.in_ok-try_clone-2.ensures c.in_ok-try_clone.field-0 ∙ ap (λ n. constraint_view (n, c.in-Some.entry.now)) c.in_ok-try_clone.ensures) copied c.insert.new.self.entries
          c.in_ok-insert.ensures.entries,
    )

pub loop-name-preserved-in_ok-insert : goal.loop-name-preserved-in_ok-insert
loop-name-preserved-in_ok-insert g c =
    let copied =
    subst (IsCopied constraint_view (λ (k : NamedConstraint). k.name) (λ row. refl) c.args.self.now.database.constraints c.loop-name.copy.entries) c.in-Some.ensures.steps c.loop-name.invariant.2 in (
      tt,
      tt,
      copied_next constraint_view (λ (k : NamedConstraint). k.name) (λ row. refl) c.loop-name.copy c.args.self.now.database.constraints _ c.in-Some.name.now c.in-Some.entry.now
          c.in_ok-try_clone.field-0 c.in_ok-try_clone-2.field-0
          (c.in_ok-try_clone-2.ensures c.in_ok-try_clone.field-0 ∙ ap (λ n. constraint_view (n, c.in-Some.entry.now)) c.in_ok-try_clone.ensures) copied c.insert.new.self.entries
          c.in_ok-insert.ensures.entries,
    )
