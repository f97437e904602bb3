use Rattle.std.proofs.Common.{refl}
use Rattle.td_catalog.specs.model.Database.{named_constraint, with_constraint}
use Rattle.td_engine.proofs.law_lemmas.Admitted.{constraint_admitted}
use Rattle.td_engine.proofs.code_lemmas.Done.{defined, goes, held_there}
use Rattle.td_engine.proofs.law_lemmas.Settled.{bases_hold}
use Rattle.td_tree.specs.code.TreeViews.{tree_view}
use Rattle.td_engine.proofs.definitions.add_constraint.Goals as goal

pub add_constraint-requires : goal.add_constraint-requires
add_constraint-requires g c = (constraint_admitted c.args.catalog.now.database c.args.name (tree_view c.args.condition) c.requires.admitted).constraint

pub returns-clause-answer : goal.returns-clause-answer
returns-clause-answer g c =
    let db = c.args.catalog.now.database in
    let is = constraint_admitted db c.args.name (tree_view c.args.condition) c.requires.admitted in
    defined c.add_constraint.result c.args.catalog.now c.add_constraint.new.self (with_constraint (named_constraint c.args.name (tree_view c.args.condition)) db) _ _ is.free
    c.add_constraint.ensures.answer c.add_constraint.ensures.added refl

pub returns-clause-held : goal.returns-clause-held
returns-clause-held g c =
    let db = c.args.catalog.now.database in
    held_there c.add_constraint.result c.args.catalog.now c.add_constraint.new.self (with_constraint (named_constraint c.args.name (tree_view c.args.condition)) db)
    c.add_constraint.ensures.added (bases_hold db c.requires.legal)

pub returns-clause-on : goal.returns-clause-on
returns-clause-on g c =
    let db = c.args.catalog.now.database in
    goes c.add_constraint.result c.args.catalog.now c.add_constraint.new.self (with_constraint (named_constraint c.args.name (tree_view c.args.condition)) db)
    c.add_constraint.ensures.added c.add_constraint.ensures.unchanged
