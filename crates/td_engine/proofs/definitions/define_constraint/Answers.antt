use Rattle.td_catalog.specs.model.Database.{named_constraint, with_constraint}
use Rattle.td_engine.proofs.code_lemmas.NewChecks.{constraint_changed}
use Rattle.td_tree.specs.code.TreeViews.{tree_view}
use Rattle.td_types.proofs.OutcomeLaws.{valued_is}
use Rattle.td_engine.proofs.definitions.define_constraint.Goals as goal

pub returns-in-Ok-clause-change : goal.returns-in-Ok-clause-change
returns-in-Ok-clause-change g c =
    let db = c.args.catalog.now.database in
    let k = named_constraint c.args.name (tree_view c.args.condition) in
    let next = c.add_constraint.new.catalog.database in
    constraint_changed db c.requires.legal next k (valued_is (with_constraint k db) next c.in-Ok.ensures.answer) c.check_last_constraint.result c.in-Ok.ensures.held
    c.check_last_constraint.ensures
