use Rattle.std.proofs.Common.{◌∙◌, ap, sym}
use Rattle.td_catalog.specs.code.Sought.{tree_mentions}
use Rattle.td_catalog.proofs.Searches.{unwritten}
use Rattle.td_catalog.proofs.mentioned.definition_mentions.Goals as goal

pub returns-in-Relvar : goal.returns-in-Relvar
returns-in-Relvar c t typed =
    let scope = c.args.scope.now in
    let name = c.args.name.now in
    let e = c.args.definition.now in
    sym (unwritten scope name e (sym c.has_name.ensures ∙ c.if-not-has_name.true))
    ∙ ap (λ space. tree_mentions space scope name e) (sym c.in-Relvar.is)
