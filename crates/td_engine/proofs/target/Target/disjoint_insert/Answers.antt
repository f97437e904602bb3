use Rattle.std.proofs.Common.{◌≡◌, ◌∙◌, ap, false, sym, true}
use Rattle.std.proofs.lemmas.Result.{err_from_is_err_and}
use Rattle.td_algebra.specs.model.Operators.{is_disjoint}
use Rattle.td_engine.proofs.code_lemmas.TestedChanges.{not_apart, other_way, put_apart}
use Rattle.td_engine.proofs.law_lemmas.Admitted.{refused_on}
use Rattle.td_engine.proofs.law_lemmas.Sources.{put_apart_is}
use Rattle.td_engine.specs.model.Assignments.{relation_for}
use Rattle.td_engine.specs.code.Changes.{changed_by}
use Rattle.td_engine.specs.code.Targets.{so_far, world_for}
use Rattle.td_engine.specs.declared.change.Change.{Change}
use Rattle.td_eval.specs.model.OperatorValues.{disjoint_union}
use Rattle.td_tree.specs.model.Outcomes.{named_cause}
use Rattle.td_tree.specs.code.TreeViews.{tree_view}
use Rattle.td_value.specs.model.Values.{Relation}
use Rattle.td_engine.proofs.target.Target.disjoint_insert.Goals as goal

pub returns-in_err-add-clause-answer : goal.returns-in_err-add-clause-answer
returns-in_err-add-clause-answer g c =
    let t = c.args.self.now in
    let r = so_far g.B.Body.relation t in
    let x = tree_view c.args.source.now in
    let e = err_from_is_err_and c.from_residual.result c.from_residual.ensures.1 in
    rw (e.1, e.2, put_apart_is t.catalog.now.database t.name.now r x)
    (refused_on (λ (q : Relation). q) (λ (d : Change). changed_by d r) c.in_err-add.field-0.0 (relation_for r (world_for g.B.Body.relation t) x) (disjoint_union r) c.in_err-add.ensures.answer)

pub returns-in_ok-adding-clause-answer : goal.returns-in_ok-adding-clause-answer
returns-in_ok-adding-clause-answer g c =
    let t = c.args.self.now in
    let r = so_far g.B.Body.relation t in
    let x = tree_view c.args.source.now in
    let add = c.in_ok-add.add in
    let apart : is_disjoint r add ≡ true = other_way r add ∙ sym c.are_members.ensures ∙ c.if-are_members.true in
    put_apart_is t.catalog.now.database t.name.now r x
    ∙ put_apart r add (relation_for r (world_for g.B.Body.relation t) x) c.in_ok-add.ensures.answer c.in_ok-adding.field-0 apart c.in_ok-adding.ensures.out c.in_ok-adding.ensures.add

pub returns-else-are_members-clause-answer : goal.returns-else-are_members-clause-answer
returns-else-are_members-clause-answer g c =
    let t = c.args.self.now in
    let r = so_far g.B.Body.relation t in
    let x = tree_view c.args.source.now in
    let add = c.in_ok-add.add in
    let overlap : is_disjoint r add ≡ false = other_way r add ∙ sym c.are_members.ensures ∙ c.if-are_members.false in
    ap named_cause (put_apart_is t.catalog.now.database t.name.now r x
    ∙ not_apart r add (relation_for r (world_for g.B.Body.relation t) x) c.in_ok-add.ensures.answer overlap)
