use Rattle.std.proofs.Common.{ap, refl}
use Rattle.td_catalog.specs.code.KeptDatabases.{CatalogView}
use Rattle.td_engine.proofs.law_lemmas.Answered.{text_does}
use Rattle.td_engine.proofs.code_lemmas.StageLaws.{stays}
use Rattle.td_tree.specs.code.TreeViews.{statement_view}
use Rattle.td_engine.proofs.legal_catalog.LegalCatalog.carry_out.Goals as goal

pub returns-in-None-clause-done : goal.returns-in-None-clause-done
returns-in-None-clause-done g c = c.change.ensures.done

pub returns-in-Some-clause-done : goal.returns-in-Some-clause-done
returns-in-Some-clause-done g c =
    text_does _ c.self.inside.catalog.database c.args.self.now.database (statement_view c.args.statement) c.in-Some.text c.write.result
    (ap (λ (v : CatalogView). v.database) c.self.view_is) c.requires c.in-Some.ensures.some c.write.ensures

pub returns-in-Some-clause-on : goal.returns-in-Some-clause-on
returns-in-Some-clause-on g c = stays _ _ refl
