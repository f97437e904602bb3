use Rattle.std.proofs.Common.{option_map}
use Rattle.td_engine.proofs.code_lemmas.NewChecks.{type_changed}
use Rattle.td_tree.specs.code.TreeViews.{heading_tree_view, tree_view}
use Rattle.td_engine.proofs.definitions.define_type.Goals as goal

pub returns-in-Ok-clause-change : goal.returns-in-Ok-clause-change
returns-in-Ok-clause-change g c =
    let d = c.args.definition in
    type_changed c.args.catalog.now.database c.requires.legal c.add_type.new.catalog.database d.name (heading_tree_view d.components.items)
    (option_map tree_view d.constraint) c.in-Ok.ensures.answer c.in-Ok.ensures.held
