use Rattle.std.proofs.Common.{◌≡◌, ◌∙◌, ap, false, map, subst, sym, true}
use Rattle.td_catalog.specs.model.Database.{Database, base_relvar, with_base}
use Rattle.td_engine.proofs.code_lemmas.NewChecks.{base_changed}
use Rattle.td_engine.proofs.law_lemmas.Settled.{bases_hold, broken_base}
use Rattle.td_engine.specs.model.Checks.{keys_hold}
use Rattle.td_engine.specs.model.Machine.{Accepted, checked_effect, ok_text}
use Rattle.td_engine.proofs.bases.add_checked.Goals as goal

pub returns-in-Ok-false-clause-change : goal.returns-in-Ok-false-clause-change
returns-in-Ok-false-clause-change g c =
    let db = c.args.catalog.now.database in
    let keys = map (λ key. key.items) c.args.keys.items in
    let broken : keys_hold keys c.args.relation.body ≡ false =
    ap (λ items. keys_hold (map (λ key. key.items) items) c.args.relation.body) (sym c.deref.ensures.value) ∙ sym c.in-Ok-false.ensures ∙ c.in-Ok-false.field-0-test in
    broken_base db (base_relvar c.args.name keys c.args.relation) (bases_hold db c.requires.legal) broken

pub returns-in-Ok-clause-change : goal.returns-in-Ok-clause-change
returns-in-Ok-clause-change g c =
    let db = c.args.catalog.now.database in
    let keys = map (λ key. key.items) c.args.keys.items in
    let b = base_relvar c.args.name keys c.args.relation in
    let hold : keys_hold keys c.args.relation.body ≡ true =
    ap (λ items. keys_hold (map (λ key. key.items) items) c.args.relation.body) (sym c.deref.ensures.value) ∙ sym c.in-Ok-true.ensures ∙ c.in-Ok-true.field-0-test in
    subst (λ (made : Database). checked_effect (with_base b db) ≡ Accepted made ok_text) (sym c.in-Ok.ensures.added) (base_changed db c.requires.legal b c.in-Ok.ensures.new hold)
