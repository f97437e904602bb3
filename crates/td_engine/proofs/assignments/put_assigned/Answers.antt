use Rattle.std.proofs.Common.{◌≡◌, ◌∙◌, Some, ap, option_map, subst, sym}
use Rattle.std.specs.List.{slice_get}
use Rattle.std.specs.Map.{lookup}
use Rattle.std.specs.Prelude.{IfSome}
use Rattle.std.specs.Result.{OnOk}
use Rattle.td_catalog.specs.code.CatalogViews.{base_view}
use Rattle.td_catalog.specs.model.Database.{Database, base_named, base_relvar, with_body}
use Rattle.td_engine.proofs.law_lemmas.AssignedBases.{found, put, put_check, skipped, skipped_passes, still_found}
use Rattle.td_engine.proofs.code_lemmas.GivenChanges.{found_in, given_found, given_of, still_change}
use Rattle.td_engine.proofs.code_lemmas.PutAssigned.{base_assigned_at}
use Rattle.td_engine.specs.model.Assignments.{given_to}
use Rattle.td_engine.specs.code.Carried.{Passes}
use Rattle.td_engine.specs.code.Changes.{IsTypedChange, changed_by, given_as, given_in}
use Rattle.td_engine.specs.model.Checks.{base_check}
use Rattle.td_types.specs.model.Types.{same_name}
use Rattle.td_engine.proofs.assignments.put_assigned.Goals as goal

pub returns-in_default-get-clause-check : goal.returns-in_default-get-clause-check
returns-in_default-get-clause-check g c =
    let es = c.args.given.now.entries in
    let given = given_in g.db es in
    let n = c.in-Some.name.now in
    let r = base_view g.B.Body.relation (n, c.in-Some.field-0-1.now) in
    let at : slice_get g.db.bases c.args.place ≡ Some r =
    sym (base_assigned_at given g.db.bases c.args.place) ∙ ap (λ (d : Database). slice_get d.bases c.args.place) (sym c.requires.1.1.1.0) ∙ sym c.in-Some.ensures in
    let none = given_found g.db es n ∙ ap (option_map (given_as g.db n)) (ap (λ m. lookup (same_name m) es) (sym c.in_ok-name.ensures) ∙ sym c.in_default-get.ensures.value) in
    rw at (skipped_passes g.db given c.requires.1.0.0 c.args.place r at c.requires.1.0.1 none)

pub returns-in_default-get-clause-next : goal.returns-in_default-get-clause-next
returns-in_default-get-clause-next g c =
    let es = c.args.given.now.entries in
    let given = given_in g.db es in
    let n = c.in-Some.name.now in
    let r = base_view g.B.Body.relation (n, c.in-Some.field-0-1.now) in
    let at : slice_get g.db.bases c.args.place ≡ Some r =
    sym (base_assigned_at given g.db.bases c.args.place) ∙ ap (λ (d : Database). slice_get d.bases c.args.place) (sym c.requires.1.1.1.0) ∙ sym c.in-Some.ensures in
    let none = given_found g.db es n ∙ ap (option_map (given_as g.db n)) (ap (λ m. lookup (same_name m) es) (sym c.in_ok-name.ensures) ∙ sym c.in_default-get.ensures.value) in
    c.requires.1.1.1.0 ∙ skipped g.db given c.requires.1.0.0 c.args.place r at none

pub put-requires : goal.put-requires
put-requires g c =
    let es = c.args.given.now.entries in
    let given = given_in g.db es in
    let n = c.in-Some.name.now in
    let r = base_view g.B.Body.relation (n, c.in-Some.field-0-1.now) in
    let at : slice_get g.db.bases c.args.place ≡ Some r =
    sym (base_assigned_at given g.db.bases c.args.place) ∙ ap (λ (d : Database). slice_get d.bases c.args.place) (sym c.requires.1.1.1.0) ∙ sym c.in-Some.ensures in
    let d = c.in-Some-get.change.now in
    let looked : lookup (same_name n) es ≡ Some d = ap (λ m. lookup (same_name m) es) (sym c.in_ok-name.ensures) ∙ sym c.in-Some-get.ensures.value in
    let here = found g.db given c.requires.1.0.0 c.args.place r at in
    let some : given_to n given ≡ Some (changed_by d r.relation) = given_found g.db es n ∙ ap (option_map (given_as g.db n)) looked ∙ ap Some (given_of g.db n d r here) in
    let there : base_named n c.args.catalog.now.database ≡ Some r = ap (base_named n) c.requires.1.1.1.0 ∙ still_found g.db given c.requires.1.0.0 c.args.place r at in
    subst (λ m. IsTypedChange c.args.catalog.now.database (m, d)) (sym c.in_ok-name.ensures)
    (still_change g.db c.args.catalog.now.database n d r (ap (λ (x : Database). x.types) c.requires.1.1.1.0) here there (found_in (IsTypedChange g.db) es n d c.requires.1.1.0 looked))

pub returns-clause-check : goal.returns-clause-check
returns-clause-check g c =
    let es = c.args.given.now.entries in
    let given = given_in g.db es in
    let n = c.in-Some.name.now in
    let r = base_view g.B.Body.relation (n, c.in-Some.field-0-1.now) in
    let at : slice_get g.db.bases c.args.place ≡ Some r =
    sym (base_assigned_at given g.db.bases c.args.place) ∙ ap (λ (d : Database). slice_get d.bases c.args.place) (sym c.requires.1.1.1.0) ∙ sym c.in-Some.ensures in
    let d = c.in-Some-get.change.now in
    let looked : lookup (same_name n) es ≡ Some d = ap (λ m. lookup (same_name m) es) (sym c.in_ok-name.ensures) ∙ sym c.in-Some-get.ensures.value in
    let here = found g.db given c.requires.1.0.0 c.args.place r at in
    let some : given_to n given ≡ Some (changed_by d r.relation) = given_found g.db es n ∙ ap (option_map (given_as g.db n)) looked ∙ ap Some (given_of g.db n d r here) in
    let there : base_named n c.args.catalog.now.database ≡ Some r = ap (base_named n) c.requires.1.1.1.0 ∙ still_found g.db given c.requires.1.0.0 c.args.place r at in
    let told = subst (λ m. IfSome (base_named m c.args.catalog.now.database) (λ b. Passes c.put.result (base_check (base_relvar b.name b.keys (changed_by d b.relation))))) c.in_ok-name.ensures c.put.ensures.check in
    rw (at, put_check g.db given c.requires.1.0.0 c.args.place r at (changed_by d r.relation) some)
    (subst (λ o. IfSome o (λ b. Passes c.put.result (base_check (base_relvar b.name b.keys (changed_by d b.relation))))) there told)

pub returns-clause-next : goal.returns-clause-next
returns-clause-next g c =
    let es = c.args.given.now.entries in
    let given = given_in g.db es in
    let n = c.in-Some.name.now in
    let r = base_view g.B.Body.relation (n, c.in-Some.field-0-1.now) in
    let at : slice_get g.db.bases c.args.place ≡ Some r =
    sym (base_assigned_at given g.db.bases c.args.place) ∙ ap (λ (d : Database). slice_get d.bases c.args.place) (sym c.requires.1.1.1.0) ∙ sym c.in-Some.ensures in
    let d = c.in-Some-get.change.now in
    let looked : lookup (same_name n) es ≡ Some d = ap (λ m. lookup (same_name m) es) (sym c.in_ok-name.ensures) ∙ sym c.in-Some-get.ensures.value in
    let here = found g.db given c.requires.1.0.0 c.args.place r at in
    let some : given_to n given ≡ Some (changed_by d r.relation) = given_found g.db es n ∙ ap (option_map (given_as g.db n)) looked ∙ ap Some (given_of g.db n d r here) in
    let there : base_named n c.args.catalog.now.database ≡ Some r = ap (base_named n) c.requires.1.1.1.0 ∙ still_found g.db given c.requires.1.0.0 c.args.place r at in
    let told = subst (λ m. OnOk c.put.result (c.put.new.catalog.database ≡ with_body m (given_as c.args.catalog.now.database m d) c.args.catalog.now.database)) c.in_ok-name.ensures c.put.ensures.put in
    subst (λ (new : Database). OnOk c.put.result (c.put.new.catalog.database ≡ new))
    (ap (λ q. with_body n q c.args.catalog.now.database) (given_of c.args.catalog.now.database n d r there) ∙ ap (with_body n (changed_by d r.relation)) c.requires.1.1.1.0
    ∙ put g.db given c.requires.1.0.0 c.args.place r at (changed_by d r.relation) some)
    told
