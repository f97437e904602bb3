use Rattle.std.proofs.Common.{◌≡◌, ◌∙◌, ap, subst, sym}
use Rattle.std.specs.Prelude.{IfSome, OnOk}
use Rattle.td_catalog.specs.model.Database.{Database, base_named, base_relvar, with_body}
use Rattle.td_engine.proofs.code_lemmas.GivenChanges.{given_of}
use Rattle.td_engine.proofs.code_lemmas.OneTarget.{alone_checked, alone_given}
use Rattle.td_engine.specs.model.Assignments.{with_all_assigned}
use Rattle.td_engine.specs.code.Carried.{Passes}
use Rattle.td_engine.specs.code.Changes.{AreTypedChanges, IsTypedChange, changed_by, given_as, given_in}
use Rattle.td_engine.specs.model.Checks.{base_check, first_refusal}
use Rattle.td_engine.proofs.assignments.change_bases.Goals as goal

pub put-requires : goal.put-requires
put-requires g c =
    let e = c.in-Some.ensures in
    subst (λ (d : Database). IsTypedChange d (c.in-Some.name.now, c.in-Some.change.now)) c.requires.1.0.0 (subst (AreTypedChanges g.db) e c.requires.1.1).0

pub put_all_assigned-requires : goal.put_all_assigned-requires
put_all_assigned-requires g c = λ κs within. (within, c.requires.1)

pub returns-in-Some-clause-check : goal.returns-in-Some-clause-check
returns-in-Some-clause-check g c =
    let n = c.in-Some.name.now in
    let d = c.in-Some.change.now in
    let only = subst (AreTypedChanges g.db) c.in-Some.ensures c.requires.1.1 in
    let r = only.0.is.target in
    let told = subst (λ (x : Database). IfSome (base_named n x) (λ b. Passes c.put.result (base_check (base_relvar b.name b.keys (changed_by d b.relation))))) (sym c.requires.1.0.0) c.put.ensures.check in
    let there : Passes c.put.result (base_check (base_relvar r.name r.keys (changed_by d r.relation))) =
    subst (λ o. IfSome o (λ b. Passes c.put.result (base_check (base_relvar b.name b.keys (changed_by d b.relation))))) only.0.is.named told in
    subst (λ es. Passes c.put.result (first_refusal base_check (with_all_assigned (given_in g.db es) g.db).bases)) (sym c.in-Some.ensures)
    (subst (Passes c.put.result)
    (sym (alone_checked n (given_as g.db n d) g.db r c.requires.1.0.1 c.requires.1.0.2 only.0.is.named
    ∙ ap (λ q. base_check (base_relvar r.name r.keys q)) (given_of g.db n d r only.0.is.named))) there)

pub returns-in-Some-clause-next : goal.returns-in-Some-clause-next
returns-in-Some-clause-next g c =
    let n = c.in-Some.name.now in
    let d = c.in-Some.change.now in
    let told = subst (λ (x : Database). OnOk c.put.result (c.put.new.catalog.database ≡ with_body n (given_as x n d) x)) (sym c.requires.1.0.0) c.put.ensures.put in
    subst (λ es. OnOk c.put.result (c.put.new.catalog.database ≡ with_all_assigned (given_in g.db es) g.db)) (sym c.in-Some.ensures)
    (subst (λ (x : Database). OnOk c.put.result (c.put.new.catalog.database ≡ x)) (sym (alone_given n (given_as g.db n d) g.db c.requires.1.0.1)) told)
