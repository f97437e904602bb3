use Rattle.std.proofs.Common.{◌≡◌, ◌∙◌, Err, [], ap, option_map, subst, sym}
use Rattle.std.proofs.lemmas.Result.{err_from_is_err_and}
use Rattle.td_body.specs.model.Bodies.{after_change}
use Rattle.td_engine.proofs.code_lemmas.DeletedTuples.{delete_is}
use Rattle.td_engine.proofs.law_lemmas.Admitted.{refused_on}
use Rattle.td_engine.specs.code.Changes.{changed_by, assigned_over}
use Rattle.td_engine.specs.code.Targets.{chosen_of, so_far}
use Rattle.td_engine.specs.declared.change.Change.{Change}
use Rattle.td_tree.specs.model.Outcomes.{Answers, Valued, with_value}
use Rattle.td_tree.specs.code.TreeViews.{tree_view}
use Rattle.td_tree.specs.model.Trees.{delete}
use Rattle.td_value.specs.model.Values.{Relation, relation_view}
use Rattle.td_engine.proofs.target.Target.delete.Goals as goal

pub returns-in_err-out-clause-answer : goal.returns-in_err-out-clause-answer
returns-in_err-out-clause-answer g c =
    let t = c.args.self.now in
    let r = so_far g.B.Body.relation t in
    let condition = option_map (λ e. tree_view e.now) c.args.condition in
    let view = λ (d : Change). changed_by d r in
    let e = err_from_is_err_and c.from_residual.result c.from_residual.ensures.1 in
    subst (λ q. Answers view q (assigned_over t.catalog.now.database r (delete t.name.now condition))) (sym (e.1 ∙ ap Err e.2))
    (subst (Answers view (Err c.in_err-out.field-0.0)) (sym (delete_is t.catalog.now.database t.name.now r condition c.requires.target.assigned.relation))
    (refused_on (λ (q : Relation). q) view c.in_err-out.field-0.0 (chosen_of g.B.Body.relation t condition)
    (λ out. Valued (after_change out (relation_view out.heading []) r)) c.in_err-out.ensures.answer))

pub returns-clause-answer : goal.returns-clause-answer
returns-clause-answer g c =
    let t = c.args.self.now in
    let r = so_far g.B.Body.relation t in
    let condition = option_map (λ e. tree_view e.now) c.args.condition in
    let d = c.in_ok-taking.field-0 in
    let out = c.in_ok-out.out in
    let there : changed_by d r ≡ after_change out (relation_view out.heading []) r =
    ap (λ o. after_change o d.add r) c.in_ok-taking.ensures.out ∙ ap (λ a. after_change out a r) c.in_ok-taking.ensures.add in
    delete_is t.catalog.now.database t.name.now r condition c.requires.target.assigned.relation
    ∙ ap (λ o. with_value o (λ out. Valued (after_change out (relation_view out.heading []) r))) c.in_ok-out.ensures.answer ∙ ap Valued (sym there)
