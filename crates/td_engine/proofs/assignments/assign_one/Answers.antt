use Rattle.std.proofs.Common.{◌≡◌, ◌∙◌, ap, subst, sym}
use Rattle.std.proofs.lemmas.Result.{err_from_is_err_and}
use Rattle.std.specs.Prelude.{⊤}
use Rattle.indexmap.specs.IndexMap.{insert_entry}
use Rattle.td_engine.proofs.code_lemmas.FirstAssigned.{given_next, given_refused}
use Rattle.td_engine.proofs.code_lemmas.GivenChanges.{all_with, given_with}
use Rattle.td_engine.specs.model.Assignments.{target_of}
use Rattle.td_engine.specs.code.Changes.{AreChanges, IsChangeOf, given_as, given_in}
use Rattle.td_tree.specs.model.Outcomes.{Valued}
use Rattle.td_tree.specs.code.TreeViews.{assignment_view}
use Rattle.td_types.specs.model.Types.{same_name}
use Rattle.td_engine.proofs.assignments.assign_one.Goals as goal

pub returns-in_err-change-clause-answer : goal.returns-in_err-change-clause-answer
returns-in_err-change-clause-answer g c =
    let db = c.args.catalog.now.database in
    let a = assignment_view c.args.assignment.now in
    let e = err_from_is_err_and c.from_residual.result c.from_residual.ensures.1 in
    rw (e.1, e.2) (given_refused db (λ (u : ⊤). given_in db c.args.given.now.entries) (given_in db c.args.given.now.entries) a c.in_err-change.field-0.0 (given_as db (target_of a)) c.in_err-change.ensures.answer)

pub returns-clause-answer : goal.returns-clause-answer
returns-clause-answer g c =
    let db = c.args.catalog.now.database in
    let es = c.args.given.now.entries in
    let a = assignment_view c.args.assignment.now in
    let d = c.in_ok-change.change in
    let there : c.insert.new.self.entries ≡ insert_entry same_name es (target_of a) d =
    c.in_ok-insert.ensures.entries ∙ ap (λ n. insert_entry same_name es n d) (c.in_ok-try_clone.ensures ∙ c.target_of.ensures) in
    given_next db (given_in db es) a (given_as db (target_of a) d) c.in_ok-change.ensures.answer
    ∙ ap Valued (sym (ap (given_in db) there ∙ given_with db es (target_of a) d))

pub returns-clause-changes : goal.returns-clause-changes
returns-clause-changes g c =
    let db = c.args.catalog.now.database in
    let es = c.args.given.now.entries in
    let a = assignment_view c.args.assignment.now in
    let d = c.in_ok-change.change in
    let there : c.insert.new.self.entries ≡ insert_entry same_name es (target_of a) d =
    c.in_ok-insert.ensures.entries ∙ ap (λ n. insert_entry same_name es n d) (c.in_ok-try_clone.ensures ∙ c.target_of.ensures) in
    subst (AreChanges db) (sym there) (all_with (IsChangeOf db) es (target_of a) d c.requires.changes c.in_ok-change.ensures.change)
