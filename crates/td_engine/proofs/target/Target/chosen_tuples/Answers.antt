use Rattle.std.proofs.Common.{[], option_map, subst, sym}
use Rattle.td_engine.proofs.code_lemmas.Environments.{valued_there}
use Rattle.td_engine.proofs.code_lemmas.TargetChanges.{target_headed}
use Rattle.td_engine.specs.code.Plannable.{IsPlannableConditionIf}
use Rattle.td_engine.specs.code.Targets.{chosen_of, so_far, world_for}
use Rattle.td_eval.specs.model.TreeValues.{value_of}
use Rattle.td_tree.specs.model.Outcomes.{Answers}
use Rattle.td_tree.specs.code.TreeViews.{tree_view}
use Rattle.td_tree.specs.model.Trees.{name, restriction}
use Rattle.td_value.specs.model.Values.{Relation}
use Rattle.td_engine.proofs.target.Target.chosen_tuples.Goals as goal

pub returns-clause-answer : goal.returns-clause-answer
returns-clause-answer g c =
    let t = c.args.self.now in
    let db = t.catalog.now.database in
    let r = so_far g.B.Body.relation t in
    let w = world_for g.B.Body.relation t in
    let e = restriction (name t.name.now) (tree_view c.in-Some.condition.now) in
    let is = subst (λ o. IsPlannableConditionIf db t.name.now r (option_map (λ e. tree_view e.now) o)) c.in-Some.is c.requires.condition in
    let told = valued_there db w c.env.result c.env.ensures is.gives e is.typed c.tuples_where-value.result c.tuples_where-value.ensures in
    subst (λ o. Answers (λ (q : Relation). q) c.relation_of.result (chosen_of g.B.Body.relation t (option_map (λ e. tree_view e.now) o))) (sym c.in-Some.is)
    (c.relation_of.ensures.answer r (value_of w [] e) (target_headed g.B.Body.relation g.B.Body.keys t c.requires.target) told)
