use Rattle.std.proofs.Common.{ap, reverse}
use Rattle.td_catalog.specs.code.KeptDatabases.{CatalogView}
use Rattle.td_engine.proofs.code_lemmas.Opens.{engine_new}
use Rattle.td_engine.proofs.engine.Engine.new.Goals as goal

pub invariant_of-result : goal.invariant_of-result
invariant_of-result g c =
    engine_new c.new-present.result (reverse c.new.result.items) (ap reverse c.new.ensures.items) (ap (λ (v : CatalogView). v.kept) c.new-present.ensures) c.catalog.ensures.legal
