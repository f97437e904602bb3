use Rattle.std.proofs.Common.{subst, sym}
use Rattle.td_catalog.specs.code.CatalogViews.{base_view}
use Rattle.td_engine.proofs.code_lemmas.DeletedTuples.{same_world}
use Rattle.td_engine.specs.code.Targets.{IsEnvOf}
use Rattle.td_engine.proofs.target.Target.env.Goals as goal

pub returns-in-None : goal.returns-in-None
returns-in-None g c =
    let t = c.args.self.now in
    let db = t.catalog.now.database in
    rw (c.in-None.is)
    (subst (λ w. IsEnvOf db w c.env_with-in-None.result)
    (sym (same_world db t.name.now (base_view g.B.Body.relation (t.name.now, t.entry.now)) c.requires.named)) c.env_with-in-None.ensures)
