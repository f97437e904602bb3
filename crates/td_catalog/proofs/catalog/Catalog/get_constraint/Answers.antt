use Rattle.std.proofs.Common.{◌∙◌, Some, ap, refl, option_map}
use Rattle.td_catalog.specs.code.KeptDatabases.{CatalogView}
use Rattle.td_catalog.specs.model.Database.{NamedConstraint, constraint_named}
use Rattle.td_catalog.specs.code.CatalogViews.{constraint_view}
use Rattle.td_catalog.specs.declared.entry.ConstraintEntry.{ConstraintEntry}
use Rattle.td_catalog.proofs.Rows.{found}
use Rattle.td_catalog.proofs.catalog.Catalog.get_constraint.Goals as goal

pub returns-in_err-entry : goal.returns-in_err-entry
returns-in_err-entry g c =
    ap (option_map _) c.from_residual.ensures
    ∙ ap (option_map (λ (k : NamedConstraint). k.tree))
    (ap (option_map (λ (e : ConstraintEntry). constraint_view (c.args.name.now, e))) c.in_err-entry.ensures.value
    ∙ found constraint_view (λ (k : NamedConstraint). k.name) (λ row. refl) c.args.name.now c.self.inside.tables.constraints.entries
    ∙ ap (constraint_named c.args.name.now) (ap (λ (v : CatalogView). v.database) c.self.view_is))

pub returns : goal.returns
returns g c =
    ap Some c.tree.ensures
    ∙ ap (option_map (λ (k : NamedConstraint). k.tree))
    (ap (option_map (λ (e : ConstraintEntry). constraint_view (c.args.name.now, e))) c.in_ok-entry.ensures.value
    ∙ found constraint_view (λ (k : NamedConstraint). k.name) (λ row. refl) c.args.name.now c.self.inside.tables.constraints.entries
    ∙ ap (constraint_named c.args.name.now) (ap (λ (v : CatalogView). v.database) c.self.view_is))
