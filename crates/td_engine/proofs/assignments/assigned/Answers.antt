use Rattle.std.proofs.Common.{◌≡◌, ◌∙◌, None, Some, ap, option_map, refl, subst, sym}
use Rattle.std.specs.Map.{lookup}
use Rattle.td_catalog.specs.code.CatalogViews.{base_view}
use Rattle.td_catalog.specs.model.Database.{base_named}
use Rattle.td_engine.proofs.code_lemmas.FirstAssigned.{change_of_base, first_given, next_given, none_given, this_given, unknown_target}
use Rattle.td_engine.proofs.law_lemmas.AssignedBases.{assigned_to, some_is}
use Rattle.td_engine.proofs.code_lemmas.GivenChanges.{found_in, given_found, given_of}
use Rattle.td_engine.proofs.code_lemmas.PlannableAssignments.{assignment_plannable, base_assigned}
use Rattle.td_engine.specs.model.Assignments.{target_of}
use Rattle.td_engine.specs.code.Changes.{IsChangeOf, IsOfHeading, changed_by, given_as, given_in}
use Rattle.td_engine.specs.code.AssignedRelations.{IsAssigned}
use Rattle.td_tree.specs.model.Outcomes.{named_cause}
use Rattle.td_tree.specs.code.TreeViews.{assignment_view}
use Rattle.td_types.specs.model.Types.{same_name}
use Rattle.td_engine.proofs.assignments.assigned.Goals as goal

pub returns-in_default-clause-answer : goal.returns-in_default-clause-answer
returns-in_default-clause-answer g c =
    let db = c.args.catalog.now.database in
    let a = assignment_view c.args.assignment.now in
    let none : base_named (target_of a) db ≡ None = ap (λ n. base_named n db) (sym c.target_of-name.ensures) ∙ sym c.in_default.ensures.found in
    ap named_cause (unknown_target db (given_in db c.args.given.now.entries) a c.requires.all_assigned none)

pub change-requires-clause-target : goal.change-requires-clause-target
change-requires-clause-target g c =
    let n = c.target_of-name.result.now in
    let r = base_view g.B.Body.relation (n, c.in-Some.entry.now) in
    record {
      entry = c.in-Some.ensures.entry;
      named = sym c.in-Some.ensures.found;
      assigned = base_assigned c.args.catalog.now.database c.requires.legal n r (sym c.in-Some.ensures.found);
    }

pub change-requires-clause-plannable : goal.change-requires-clause-plannable
change-requires-clause-plannable g c =
    let db = c.args.catalog.now.database in
    let a = assignment_view c.args.assignment.now in
    let r = base_view g.B.Body.relation (c.target_of-name.result.now, c.in-Some.entry.now) in
    let is : base_named (target_of a) db ≡ Some r = ap (λ n. base_named n db) (sym c.target_of-name.ensures) ∙ sym c.in-Some.ensures.found in
    assignment_plannable db c.requires.legal r.relation a (base_assigned db c.requires.legal (target_of a) r is) c.requires.admitted

pub returns-in-None-clause-answer : goal.returns-in-None-clause-answer
returns-in-None-clause-answer g c =
    let db = c.args.catalog.now.database in
    let es = c.args.given.now.entries in
    let a = assignment_view c.args.assignment.now in
    let r = base_view g.B.Body.relation (c.target_of-name.result.now, c.in-Some.entry.now) in
    let is : base_named (target_of a) db ≡ Some r = ap (λ n. base_named n db) (sym c.target_of-name.ensures) ∙ sym c.in-Some.ensures.found in
    let looked : lookup (same_name (target_of a)) es ≡ None = ap (λ n. lookup (same_name n) es) (sym c.target_of-name.ensures) ∙ sym c.in-None.ensures.value in
    none_given db (given_as db (target_of a)) (given_in db es) a c.change.result (given_found db es (target_of a) ∙ ap (option_map (given_as db (target_of a))) looked)
    (first_given db a r c.change.result is c.change.ensures.answer)

pub returns-in-None-clause-change : goal.returns-in-None-clause-change
returns-in-None-clause-change g c =
    let db = c.args.catalog.now.database in
    let a = assignment_view c.args.assignment.now in
    let r = base_view g.B.Body.relation (c.target_of-name.result.now, c.in-Some.entry.now) in
    let is : base_named (target_of a) db ≡ Some r = ap (λ n. base_named n db) (sym c.target_of-name.ensures) ∙ sym c.in-Some.ensures.found in
    change_of_base db (target_of a) r r.relation.heading c.change.result is refl c.change.ensures.headings

pub next_change-requires-clause-target : goal.next_change-requires-clause-target
next_change-requires-clause-target g c =
    let n = c.target_of-name.result.now in
    let r = base_view g.B.Body.relation (n, c.in-Some.entry.now) in
    record {
      entry = c.in-Some.ensures.entry;
      named = sym c.in-Some.ensures.found;
      assigned = base_assigned c.args.catalog.now.database c.requires.legal n r (sym c.in-Some.ensures.found);
    }

pub next_change-requires-clause-change : goal.next_change-requires-clause-change
next_change-requires-clause-change g c =
    let db = c.args.catalog.now.database in
    let es = c.args.given.now.entries in
    let n = target_of (assignment_view c.args.assignment.now) in
    let d = c.in-Some-get.change.now in
    let r = base_view g.B.Body.relation (c.target_of-name.result.now, c.in-Some.entry.now) in
    let is : base_named n db ≡ Some r = ap (λ m. base_named m db) (sym c.target_of-name.ensures) ∙ sym c.in-Some.ensures.found in
    let looked : lookup (same_name n) es ≡ Some d = ap (λ m. lookup (same_name m) es) (sym c.target_of-name.ensures) ∙ sym c.in-Some-get.ensures.value in
    let change = found_in (IsChangeOf db) es n d c.requires.changes looked in
    subst (λ b. IsOfHeading b.relation.heading d) (some_is change.target r (sym change.named ∙ is)) change.headings

pub next_change-requires-clause-assigned : goal.next_change-requires-clause-assigned
next_change-requires-clause-assigned g c =
    let db = c.args.catalog.now.database in
    let es = c.args.given.now.entries in
    let n = target_of (assignment_view c.args.assignment.now) in
    let d = c.in-Some-get.change.now in
    let r = base_view g.B.Body.relation (c.target_of-name.result.now, c.in-Some.entry.now) in
    let is : base_named n db ≡ Some r = ap (λ m. base_named m db) (sym c.target_of-name.ensures) ∙ sym c.in-Some.ensures.found in
    let looked : lookup (same_name n) es ≡ Some d = ap (λ m. lookup (same_name m) es) (sym c.target_of-name.ensures) ∙ sym c.in-Some-get.ensures.value in
    let assigned = assigned_to db (given_in db es) n (given_as db n d) c.requires.all_assigned (given_found db es n ∙ ap (option_map (given_as db n)) looked) in
    subst (λ m. IsAssigned db (m, changed_by d r.relation)) (sym c.target_of-name.ensures) (subst (λ q. IsAssigned db (n, q)) (given_of db n d r is) assigned)

pub returns-in-Some-get-clause-answer : goal.returns-in-Some-get-clause-answer
returns-in-Some-get-clause-answer g c =
    let db = c.args.catalog.now.database in
    let es = c.args.given.now.entries in
    let a = assignment_view c.args.assignment.now in
    let n = target_of a in
    let d = c.in-Some-get.change.now in
    let r = base_view g.B.Body.relation (c.target_of-name.result.now, c.in-Some.entry.now) in
    let is : base_named n db ≡ Some r = ap (λ m. base_named m db) (sym c.target_of-name.ensures) ∙ sym c.in-Some.ensures.found in
    let looked : lookup (same_name n) es ≡ Some d = ap (λ m. lookup (same_name m) es) (sym c.target_of-name.ensures) ∙ sym c.in-Some-get.ensures.value in
    this_given db (given_as db n) (given_in db es) a c.next_change.result (given_as db n d) (given_found db es n ∙ ap (option_map (given_as db n)) looked)
    (next_given db a r d c.next_change.result is c.next_change.ensures.answer)

pub returns-in-Some-get-clause-change : goal.returns-in-Some-get-clause-change
returns-in-Some-get-clause-change g c =
    let db = c.args.catalog.now.database in
    let a = assignment_view c.args.assignment.now in
    let r = base_view g.B.Body.relation (c.target_of-name.result.now, c.in-Some.entry.now) in
    let is : base_named (target_of a) db ≡ Some r = ap (λ n. base_named n db) (sym c.target_of-name.ensures) ∙ sym c.in-Some.ensures.found in
    change_of_base db (target_of a) r r.relation.heading c.next_change.result is refl c.next_change.ensures.headings
