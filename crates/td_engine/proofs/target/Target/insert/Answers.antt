use Rattle.std.proofs.lemmas.Result.{err_from_is_err_and}
use Rattle.td_engine.proofs.law_lemmas.Admitted.{refused_on}
use Rattle.td_engine.proofs.code_lemmas.TargetChanges.{inserted}
use Rattle.td_engine.proofs.law_lemmas.Sources.{inserted_is}
use Rattle.td_algebra.specs.model.Operators.{union}
use Rattle.td_engine.specs.model.Assignments.{relation_for}
use Rattle.td_engine.specs.code.Changes.{changed_by}
use Rattle.td_engine.specs.code.Targets.{so_far, world_for}
use Rattle.td_engine.specs.declared.change.Change.{Change}
use Rattle.td_tree.specs.model.Outcomes.{Valued}
use Rattle.td_tree.specs.code.TreeViews.{tree_view}
use Rattle.td_value.specs.model.Values.{Relation}
use Rattle.td_engine.proofs.target.Target.insert.Goals as goal

pub returns-in_err-add-clause-answer : goal.returns-in_err-add-clause-answer
returns-in_err-add-clause-answer g c =
    let t = c.args.self.now in
    let r = so_far g.B.Body.relation t in
    let source = relation_for r (world_for g.B.Body.relation t) (tree_view c.args.source.now) in
    let e = err_from_is_err_and c.from_residual.result c.from_residual.ensures.1 in
    rw (e.1, e.2, inserted_is t.catalog.now.database t.name.now r (tree_view c.args.source.now))
    (refused_on (λ (q : Relation). q) (λ (d : Change). changed_by d r) c.in_err-add.field-0.0 source (λ s. Valued (union r s)) c.in_err-add.ensures.answer)

pub returns-clause-answer : goal.returns-clause-answer
returns-clause-answer g c =
    let t = c.args.self.now in
    inserted t.catalog.now.database t.name.now (so_far g.B.Body.relation t) (tree_view c.args.source.now) c.in_ok-add.add c.in_ok-adding.field-0 c.in_ok-add.ensures.answer
    c.in_ok-adding.ensures.out c.in_ok-adding.ensures.add
