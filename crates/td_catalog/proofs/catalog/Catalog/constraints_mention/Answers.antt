use Rattle.std.proofs.Common.{◌∙◌, ap, map, subst, sym}
use Rattle.td_catalog.specs.code.KeptDatabases.{CatalogView}
use Rattle.std.specs.List.{AllByRecursion, list_any}
use Rattle.td_catalog.specs.model.Database.{Database, NamedConstraint}
use Rattle.td_catalog.specs.model.TypedDatabases.{IsTyped}
use Rattle.td_catalog.specs.code.Sought.{tree_mentions}
use Rattle.td_catalog.proofs.Visits.{AreLeft, ConstraintTyped, constraint_passes, constraint_rows_typed, constraints_as, left_all, left_next, left_none, left_passed}
use Rattle.td_catalog.proofs.catalog.Catalog.constraints_mention.Goals as goal

pub loop-entry-init : goal.loop-entry-init
loop-entry-init g c =
    let scope = c.args.scope.now in
    let test = tree_mentions c.args.space scope c.args.name.now in
    let total = list_any (λ (x : NamedConstraint). test x.tree) c.args.self.now.database.constraints in
    let rows = c.self.inside.tables.constraints.entries in
    let db = c.args.self.now.database in
    let seen = ap (λ (d : Database). d.constraints) (ap (λ (v : CatalogView). v.database) c.self.view_is) in (
      tt,
      tt,
      left_all (ConstraintTyped scope) (constraint_passes test) total (map (λ row. row.1) rows) c.into_iter-entry-iterator.result
          (subst (λ s. AllByRecursion (ConstraintTyped s) (map (λ row. row.1) rows)) (sym c.requires) (constraint_rows_typed db rows (subst IsTyped (ap (λ (v : CatalogView). v.database) c.self.view_is) c.self.invariant.history.catalog.is_typed) seen))
          (ap (list_any (λ (x : NamedConstraint). test x.tree)) (sym seen) ∙ constraints_as test rows)
          (c.into_iter-entry-iterator.ensures.into_iter_gives ∙ c.values-entry-items.ensures.rest),
    )

pub loop-entry-preserved : goal.loop-entry-preserved
loop-entry-preserved g c =
    let scope = c.args.scope.now in
    let test = tree_mentions c.args.space scope c.args.name.now in
    let total = list_any (λ (x : NamedConstraint). test x.tree) c.args.self.now.database.constraints in
    let left = subst (AreLeft (ConstraintTyped scope) (constraint_passes test) total) c.in-Some.ensures.steps c.loop-entry.invariant.2 in
    let typed = left.each.0 in
    let answered =
    c.in_ok-definition_mentions.ensures typed.0 typed.1 in
    (tt, tt, left_next (ConstraintTyped scope) (constraint_passes test) total _ _ left (sym answered ∙ c.if-branch.false))

pub returns-then-branch : goal.returns-then-branch
returns-then-branch g c =
    let scope = c.args.scope.now in
    let test = tree_mentions c.args.space scope c.args.name.now in
    let total = list_any (λ (x : NamedConstraint). test x.tree) c.args.self.now.database.constraints in
    let left = subst (AreLeft (ConstraintTyped scope) (constraint_passes test) total) c.in-Some.ensures.steps c.loop-entry.invariant.2 in
    let typed = left.each.0 in
    let answered =
    c.in_ok-definition_mentions.ensures typed.0 typed.1 in
    left_passed (ConstraintTyped scope) (constraint_passes test) total _ _ left (sym answered ∙ c.if-branch.true)

pub returns : goal.returns
returns g c =
    let scope = c.args.scope.now in
    let test = tree_mentions c.args.space scope c.args.name.now in
    let total = list_any (λ (x : NamedConstraint). test x.tree) c.args.self.now.database.constraints in
    left_none (ConstraintTyped scope) (constraint_passes test) total c.loop-entry.entry-iterator c.loop-entry.invariant.2 c.in-None.ensures.steps.0
