use Rattle.std.proofs.Common.{◌∙◌, ◌+◌, ap, subst, sym, take}
use Rattle.td_catalog.specs.code.KeptDatabases.{CatalogView, stages}
use Rattle.td_engine.proofs.code_lemmas.StageLaws.{back_stage}
use Rattle.td_engine.specs.model.Legality.{IsLegal}
use Rattle.td_engine.proofs.legal_catalog.LegalCatalog.revert.Goals as goal

pub invariant_of-self : goal.invariant_of-self
invariant_of-self g c =
    let back = c.revert.ensures ∙ ap (λ (v : CatalogView). take (c.args.place + 1) (stages v)) c.self.view_is in
    (subst IsLegal (sym (back_stage c.args.self.now c.revert.new.self c.args.place c.requires.place back)) c.requires.legal, c.forget.ensures _)
