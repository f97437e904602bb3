use Rattle.std.proofs.Common.{subst, sym}
use Rattle.td_catalog.specs.code.KeptDatabases.{CatalogView}
use Rattle.td_engine.specs.code.ConstraintPlans.{AreKeptPlans}
use Rattle.td_engine.specs.model.Legality.{IsLegal}
use Rattle.td_engine.proofs.legal_catalog.LegalCatalog.settle.Goals as goal

pub invariant_of-self : goal.invariant_of-self
invariant_of-self g c = (
  subst (λ (v : CatalogView). IsLegal v.database) (sym c.settle.ensures) c.self.invariant.0,
  subst (λ (v : CatalogView). AreKeptPlans v.database c.self.inside.plans.items) (sym c.settle.ensures) c.self.invariant.1,
)
