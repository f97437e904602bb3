use Rattle.std.proofs.Common.{◌∙◌, Err, ap, subst, sym}
use Rattle.td_catalog.specs.code.Sought.{tree_mentions}
use Rattle.td_catalog.proofs.Searches.{not_refused, relvars_answered, types_answered}
use Rattle.td_catalog.proofs.mentioned.tree_mentions.Goals as goal
use Rattle.td_check.specs.code.CheckViews.{names_view}
use Rattle.td_check.specs.model.Mentions.{mentions_of}
use Rattle.td_tree.specs.model.Outcomes.{Answers}
use Rattle.td_tree.specs.code.TreeViews.{tree_view}
use Rattle.td_types.specs.model.Headings.{has_name}

pub returns-in-Type : goal.returns-in-Type
returns-in-Type c t typed =
    let e = tree_view c.args.tree.now in
    c.is_among.ensures ∙ ap (has_name c.args.name.now) c.deref.ensures.value
    ∙ types_answered c.args.scope.now c.args.name.now e t (names_view c.in-Ok.seen) typed
    (subst (λ r. Answers names_view r (mentions_of c.args.scope.now e)) c.in-Ok.is c.mentions.ensures.answer)
    ∙ ap (λ space. tree_mentions space c.args.scope.now c.args.name.now e) (sym c.in-Type.is)

pub returns-in-Ok : goal.returns-in-Ok
returns-in-Ok c t typed =
    let e = tree_view c.args.tree.now in
    c.is_among-in-Relvar.ensures ∙ ap (has_name c.args.name.now) c.deref-in-Relvar.ensures.value
    ∙ relvars_answered c.args.scope.now c.args.name.now e t (names_view c.in-Ok.seen) typed
    (subst (λ r. Answers names_view r (mentions_of c.args.scope.now e)) c.in-Ok.is c.mentions.ensures.answer)
    ∙ ap (λ space. tree_mentions space c.args.scope.now c.args.name.now e) (sym c.in-Relvar.is)

pub returns-in-Err-Refused : goal.returns-in-Err-Refused
returns-in-Err-Refused c t typed =
    let e = tree_view c.args.tree.now in
    let refused =
    subst (λ f. Answers names_view (Err f) (mentions_of c.args.scope.now e)) c.in-Err-Refused.field-0-is
    (subst (λ r. Answers names_view r (mentions_of c.args.scope.now e)) c.in-Err-Refused.is c.mentions.ensures.answer) in
    absurd (not_refused c.args.scope.now e t c.in-Err-Refused.field-0-0 typed refused)
