use Rattle.std.proofs.Common.{subst, sym}
use Rattle.td_catalog.specs.model.Database.{named_constraint, with_constraint}
use Rattle.td_engine.specs.code.Carried.{Changes}
use Rattle.td_engine.specs.model.Machine.{checked_effect}
use Rattle.td_tree.specs.code.TreeViews.{tree_view}
use Rattle.td_engine.proofs.statement.change.Goals as goal

pub returns-in-DefineConstraint-clause-change : goal.returns-in-DefineConstraint-clause-change
returns-in-DefineConstraint-clause-change g c =
    let made = with_constraint (named_constraint c.in-DefineConstraint.name (tree_view c.in-DefineConstraint.condition)) c.args.catalog.now.database in
    rw c.in-DefineConstraint.is (λ _. subst (λ done. Changes c.define_constraint.new.catalog.database done (checked_effect made))
    (sym c.forgotten-in-DefineConstraint.ensures.done) c.define_constraint.ensures.change)
