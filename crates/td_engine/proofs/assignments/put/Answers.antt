use Rattle.std.proofs.Common.{◌≡◌, ◌∙◌, ap, subst, sym}
use Rattle.std.specs.Prelude.{IfSome}
use Rattle.td_body.specs.model.Bodies.{after_change}
use Rattle.td_catalog.specs.model.Database.{base_relvar, with_body}
use Rattle.td_catalog.specs.code.KeptDatabases.{CatalogView, advanced_view}
use Rattle.td_engine.proofs.code_lemmas.Done.{always_ok}
use Rattle.td_engine.proofs.code_lemmas.GivenChanges.{given_of}
use Rattle.td_engine.proofs.code_lemmas.PutAssigned.{checked_there}
use Rattle.td_engine.proofs.code_lemmas.StageLaws.{goes_on}
use Rattle.td_engine.specs.code.Carried.{Passes}
use Rattle.td_engine.specs.code.Changes.{changed_by, given_as}
use Rattle.td_engine.specs.model.Checks.{base_check}
use Rattle.td_engine.proofs.assignments.put.Goals as goal

pub change-requires-clause-headings : goal.change-requires-clause-headings
change-requires-clause-headings g c =
    subst (λ o. IfSome o (λ r. (c.args.change.now.out.heading ≡ r.relation.heading) × (c.args.change.now.add.heading ≡ r.relation.heading))) (sym c.requires.is.named) c.requires.is.headings

pub returns-clause-check : goal.returns-clause-check
returns-clause-check g c =
    let v = c.args.catalog.now in
    let w = c.change.new.self in
    let n = c.args.name.now in
    let d = c.args.change.now in
    let r = c.requires.is.target in
    let q = changed_by d r.relation in
    let made : w ≡ advanced_view (with_body n q v.database) v =
    subst (λ o. IfSome o (λ b. w ≡ advanced_view (with_body n (after_change d.out d.add b.relation) v.database) v)) c.requires.is.named c.in_ok-change.ensures.changed in
    let told = checked_there c.check_keys.result v.database w.database n q (ap (λ (x : CatalogView). x.database) made) c.check_keys.ensures in
    subst (λ o. IfSome o (λ b. Passes c.check_keys.result (base_check (base_relvar b.name b.keys (changed_by d b.relation))))) (sym c.requires.is.named)
    (subst (λ o. IfSome o (λ b. Passes c.check_keys.result (base_check (base_relvar b.name b.keys q)))) c.requires.is.named told)

pub returns-clause-put : goal.returns-clause-put
returns-clause-put g c =
    let v = c.args.catalog.now in
    let w = c.change.new.self in
    let n = c.args.name.now in
    let d = c.args.change.now in
    let r = c.requires.is.target in
    let made : w ≡ advanced_view (with_body n (changed_by d r.relation) v.database) v =
    subst (λ o. IfSome o (λ b. w ≡ advanced_view (with_body n (after_change d.out d.add b.relation) v.database) v)) c.requires.is.named c.in_ok-change.ensures.changed in
    always_ok c.check_keys.result (w.database ≡ with_body n (given_as v.database n d) v.database)
    (ap (λ (x : CatalogView). x.database) made ∙ ap (λ q. with_body n q v.database) (sym (given_of v.database n d r c.requires.is.named)))

pub returns-clause-on : goal.returns-clause-on
returns-clause-on g c =
    let v = c.args.catalog.now in
    let w = c.change.new.self in
    let n = c.args.name.now in
    let d = c.args.change.now in
    let r = c.requires.is.target in
    let made : w ≡ advanced_view (with_body n (changed_by d r.relation) v.database) v =
    subst (λ o. IfSome o (λ b. w ≡ advanced_view (with_body n (after_change d.out d.add b.relation) v.database) v)) c.requires.is.named c.in_ok-change.ensures.changed in
    goes_on v w (with_body n (changed_by d r.relation) v.database) made
