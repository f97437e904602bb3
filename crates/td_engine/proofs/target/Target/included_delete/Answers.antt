use Rattle.std.proofs.Common.{◌≡◌, ◌∙◌, ap, false, sym, true}
use Rattle.std.proofs.lemmas.Result.{err_from_is_err_and}
use Rattle.td_algebra.specs.model.Operators.{is_subset}
use Rattle.td_engine.proofs.code_lemmas.TestedChanges.{not_within, taken_out}
use Rattle.td_engine.proofs.law_lemmas.Admitted.{refused_on}
use Rattle.td_engine.proofs.law_lemmas.Sources.{taken_out_is}
use Rattle.td_engine.specs.model.Assignments.{relation_for}
use Rattle.td_engine.specs.code.Changes.{changed_by}
use Rattle.td_engine.specs.code.Targets.{so_far, world_for}
use Rattle.td_engine.specs.declared.change.Change.{Change}
use Rattle.td_eval.specs.model.OperatorValues.{included_difference}
use Rattle.td_tree.specs.model.Outcomes.{named_cause}
use Rattle.td_tree.specs.code.TreeViews.{tree_view}
use Rattle.td_value.specs.model.Values.{Relation}
use Rattle.td_engine.proofs.target.Target.included_delete.Goals as goal

pub returns-in_err-out-clause-answer : goal.returns-in_err-out-clause-answer
returns-in_err-out-clause-answer g c =
    let t = c.args.self.now in
    let r = so_far g.B.Body.relation t in
    let x = tree_view c.args.source.now in
    let e = err_from_is_err_and c.from_residual.result c.from_residual.ensures.1 in
    rw (e.1, e.2, taken_out_is t.catalog.now.database t.name.now r x)
    (refused_on (λ (q : Relation). q) (λ (d : Change). changed_by d r) c.in_err-out.field-0.0 (relation_for r (world_for g.B.Body.relation t) x) (included_difference r) c.in_err-out.ensures.answer)

pub returns-in_ok-taking-clause-answer : goal.returns-in_ok-taking-clause-answer
returns-in_ok-taking-clause-answer g c =
    let t = c.args.self.now in
    let r = so_far g.B.Body.relation t in
    let x = tree_view c.args.source.now in
    let out = c.in_ok-out.out in
    let within : is_subset out r ≡ true = sym c.are_members.ensures ∙ c.if-are_members.true in
    taken_out_is t.catalog.now.database t.name.now r x
    ∙ taken_out r out (relation_for r (world_for g.B.Body.relation t) x) c.in_ok-out.ensures.answer c.in_ok-taking.field-0 c.requires.target.assigned.relation within
    c.in_ok-taking.ensures.out c.in_ok-taking.ensures.add

pub returns-else-are_members-clause-answer : goal.returns-else-are_members-clause-answer
returns-else-are_members-clause-answer g c =
    let t = c.args.self.now in
    let r = so_far g.B.Body.relation t in
    let x = tree_view c.args.source.now in
    let out = c.in_ok-out.out in
    let without : is_subset out r ≡ false = sym c.are_members.ensures ∙ c.if-are_members.false in
    ap named_cause (taken_out_is t.catalog.now.database t.name.now r x
    ∙ not_within r out (relation_for r (world_for g.B.Body.relation t) x) c.in_ok-out.ensures.answer without)
