use Rattle.std.proofs.Common.{◌∙◌, ℕ, List, map, subst, sym}
use Rattle.std.proofs.lemmas.Result.{err_from_is_err_and}
use Rattle.td_check.specs.code.ItemViews.{items_view}
use Rattle.td_check.specs.model.OperatorTypes.{extension_type, item_type}
use Rattle.td_check.proofs.BothAnswers.{both_given, both_refused}
use Rattle.td_check.proofs.rules.lists.summary_type.Goals as goal
use Rattle.td_tree.specs.model.Outcomes.{Answers, gathered}
use Rattle.std.specs.Global.{Vec}
use Rattle.td_types.specs.model.Types.{Heading}
use Rattle.td_types.specs.declared.ty.Ty.{Ty}
use Rattle.td_types.specs.code.Views.{pairs_view, type_view}

pub returns-in_err-heading : goal.returns-in_err-heading
returns-in_err-heading c = λ o h.
    let p = err_from_is_err_and c.from_residual.result c.from_residual.ensures.1 in
    rw (p.1, p.2)
    (both_refused (λ (h : Heading). h) (λ a. pairs_view a.items) type_view extension_type
    c.args.groups c.item_types.result o (gathered (map item_type (items_view c.args.items.items))) _
    (sym c.both.ensures ∙ c.in_err-heading.was) h c.item_types.ensures)

pub returns : goal.returns
returns c = λ o h.
    subst (Answers type_view c.extension_type.result)
    (sym (both_given (λ (h : Heading). h) (λ (a : Vec (List ℕ × Ty)). pairs_view a.items) extension_type
    c.args.groups c.item_types.result o (gathered (map item_type (items_view c.args.items.items))) (c.in_ok-heading.heading, c.in_ok-heading.attributes)
    (sym c.both.ensures ∙ c.in_ok-heading.was) h c.item_types.ensures))
    c.extension_type.ensures
