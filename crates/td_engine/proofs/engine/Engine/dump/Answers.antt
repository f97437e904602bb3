use Rattle.std.proofs.Common.{◌∙◌, ap, subst, sym}
use Rattle.td_catalog.specs.code.KeptDatabases.{CatalogView}
use Rattle.td_engine.proofs.law_lemmas.DumpLaws.{text_rebuilds}
use Rattle.td_engine.specs.model.Machine.{State}
use Rattle.td_engine.specs.model.Legality.{IsLegal}
use Rattle.td_engine.proofs.engine.Engine.dump.Goals as goal

pub returns-clause-rebuilds : goal.returns-clause-rebuilds
returns-clause-rebuilds g c =
    let same = ap (λ (v : CatalogView). v.database) c.catalog.ensures.same in
    text_rebuilds _ c.catalog.result.now.database c.args.self.now.database c.dump_text.result (same ∙ ap (λ (s : State). s.database) c.self.view_is)
    (subst IsLegal (sym same) c.catalog.ensures.legal) c.dump_text.ensures
