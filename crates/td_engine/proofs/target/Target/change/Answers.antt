use Rattle.std.proofs.Common.{◌∙◌, option_map, subst, sym, ap}
use Rattle.td_check.proofs.StatementAnswers.{given_is}
use Rattle.td_engine.specs.model.Assignments.{target_of}
use Rattle.td_engine.specs.code.Targets.{GivesAs}
use Rattle.td_tree.specs.code.TreeViews.{assignment_view, named_view, tree_view}
use Rattle.td_tree.specs.model.Trees as trees
use Rattle.td_engine.proofs.target.Target.change.Goals as goal

pub returns-in-Update-clause-answer : goal.returns-in-Update-clause-answer
returns-in-Update-clause-answer g c =
    let t = c.args.self.now in
    let asked = given_is tree_view c.as_ref-in-Update.result c.in-Update.condition c.as_ref-in-Update.ensures.value in
    rw (c.in-Update.is)
    (subst (λ n. GivesAs g.B.Body.relation t c.update.result
    (trees.update c.in-Update.field-0 n (option_map tree_view c.in-Update.condition) (named_view c.in-Update.settings.items)))
    (sym c.requires.named ∙ ap (λ a. target_of (assignment_view a)) c.in-Update.is)
    (subst (λ xs. GivesAs g.B.Body.relation t c.update.result (trees.update c.in-Update.field-0 t.name.now (option_map tree_view c.in-Update.condition) (named_view xs)))
    c.deref.ensures.value
    (subst (λ o. GivesAs g.B.Body.relation t c.update.result (trees.update c.in-Update.field-0 t.name.now o (named_view c.deref.result.now))) asked
    (c.update.ensures.answer c.in-Update.field-0))))
