use Rattle.std.proofs.Common.{[], ◌∙◌, ap, map, subst, sym}
use Rattle.td_catalog.specs.code.CatalogViews.{virtual_view}
use Rattle.td_engine.proofs.code_lemmas.VirtualTests.{keys_test, some_key, tested}
use Rattle.td_eval.specs.model.DatabaseWorlds.{world_of}
use Rattle.td_eval.specs.model.Worlds.{name_value}
use Rattle.td_tree.specs.model.Outcomes.{Answers}
use Rattle.td_engine.proofs.checks.test_virtual.Goals as goal

pub returns : goal.returns
returns g c =
    let w = world_of c.args.catalog.now.database in
    let v = virtual_view (c.args.name.now, c.args.entry.now) in
    subst (Answers (λ b. b) c.keys_hold_of.result)
    (ap (λ items. keys_test w c.args.name.now (map (λ key. key.items) items)) c.deref.ensures.value
    ∙ sym (tested w v (some_key (λ key. key.items) c.args.entry.now.keys.items _ c.args.entry.now.keys.ok.0 c.if-is_empty.ensures)))
    (c.keys_hold_of.ensures (name_value w [] c.args.name.now) c.relvar_value.ensures)
