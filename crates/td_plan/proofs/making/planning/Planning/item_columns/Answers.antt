use Rattle.std.proofs.Common.{◌≡◌, Err, List, subst, sym}
use Rattle.std.specs.Global.{Vec}
use Rattle.td_eval.specs.model.AggregateValues.{summary_attributes}
use Rattle.td_plan.proofs.PlannedAnswers.{no_value}
use Rattle.td_plan.proofs.PlannedLists.{items_are}
use Rattle.td_plan.specs.code.PlannedParts.{ArePlansOfTyped, in_summaries}
use Rattle.td_plan.specs.code.StepViews.{steps_view}
use Rattle.td_tree.specs.model.Outcomes.{Answers, Valued}
use Rattle.td_tree.specs.code.TreeViews.{summaries_view}
use Rattle.td_types.specs.model.Types.{Attribute}
use Rattle.td_types.specs.code.Views.{pairs_view}
use Rattle.td_plan.proofs.making.planning.Planning.item_columns.Goals as goal

pub returns-in-Ok : goal.returns-in-Ok
returns-in-Ok g c =
    let es = summaries_view c.args.items.now in
    let there = c.in_ok-planner.planner.scope in
    let attributes = pairs_view c.in-Ok.attributes.items in
    let values = steps_view c.in_ok-values-in-Ok.values.items in
    let planned = subst (ArePlansOfTyped there values) (sym (items_are c.args.items.now)) c.in_ok-values-in-Ok.ensures in
    subst (λ s. (summary_attributes s es ≡ Valued attributes) × ArePlansOfTyped s values (in_summaries es)) c.in_ok-planner.ensures.scope (c.in-Ok.ensures, planned)

pub returns-in-Err-Refused : goal.returns-in-Err-Refused
returns-in-Err-Refused g c =
    let es = summaries_view c.args.items.now in
    let types = summary_attributes c.in_ok-planner.planner.scope es in
    let view = λ (xs : Vec _). pairs_view xs.items in
    let refused =
    subst (λ f. Answers view (Err f) types) c.in-Err-Refused.field-0-is (subst (λ r. Answers view r types) c.in-Err-Refused.is c.item_attributes.ensures) in
    subst (λ s. (xs : List Attribute) → summary_attributes s es ≡ Valued xs → ⊥) c.in_ok-planner.ensures.scope (no_value types _ refused)
