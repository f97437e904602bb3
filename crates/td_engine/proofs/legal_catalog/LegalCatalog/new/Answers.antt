use Rattle.std.proofs.Common.{subst, sym}
use Rattle.td_catalog.specs.code.KeptDatabases.{CatalogView}
use Rattle.td_engine.proofs.law_lemmas.LegalChanges.{legal_empty}
use Rattle.td_engine.proofs.code_lemmas.ConstraintPlanLaws.{none_kept}
use Rattle.td_engine.specs.code.ConstraintPlans.{AreKeptPlans}
use Rattle.td_engine.specs.model.Legality.{IsLegal}
use Rattle.td_engine.proofs.legal_catalog.LegalCatalog.new.Goals as goal

pub invariant_of-result : goal.invariant_of-result
invariant_of-result g c =
    (subst (λ (v : CatalogView). IsLegal v.database) (sym c.new.ensures) legal_empty, subst (AreKeptPlans _) (sym c.new-2.ensures.items) (none_kept _))
