use Rattle.std.proofs.Common.{map}
use Rattle.td_engine.proofs.code_lemmas.NewChecks.{virtual_changed}
use Rattle.td_tree.specs.code.TreeViews.{tree_view}
use Rattle.td_engine.proofs.definitions.define_virtual.Goals as goal

pub returns-in-Ok-clause-change : goal.returns-in-Ok-clause-change
returns-in-Ok-clause-change g c =
    let d = c.args.definition in
    virtual_changed c.args.catalog.now.database c.requires.legal c.add_virtual.new.catalog.database d.name (tree_view d.expression)
    (map (λ key. key.items) d.keys.items) c.requires.admitted c.check_last_virtual.result c.in-Ok.ensures.held c.check_last_virtual.ensures c.in-Ok.ensures.answer
