-- The parts of a step, as the code stores them, are the lists of its vectors.
use Rattle.std.proofs.Common.{◌≡◌, refl, ap, ◌∙◌, ℕ, List}
use Rattle.std.specs.Global.{Box, Vec}
use Rattle.td_group.specs.declared.aggregates.Agg.{Agg}
use Rattle.td_plan.specs.declared.plan.step.Selector.{Selector}
use Rattle.td_plan.specs.declared.plan.step.Selector.TheVariants as selectors
use Rattle.td_plan.specs.declared.plan.step.Step.{Step, Row_of-Step, end_of-Step, more_of-Step, items-the_row-Step, items_hidden-the_row-Step-0}
use Rattle.td_plan.specs.declared.plan.step.Step.TheVariants as p
use Rattle.td_plan.specs.code.Plans.{PlanTrees, bound, more, select, extend, summarize_per, summarize_by}
use Rattle.td_plan.specs.code.StepViews.{selector_view, step_view, steps_row, steps_view}
use Rattle.td_tree.specs.declared.expression.Attributes.{Attributes}
use Rattle.td_tree.specs.code.TreeViews.{attributes_view}
use Rattle.td_types.specs.declared.ty.Ty.{Ty}
use Rattle.td_types.specs.code.Views.{pairs_view}

step_rows : (n : _) (row : Row_of-Step n) → steps_row row ≡ steps_view (items-the_row-Step n row)
step_rows n end_of-Step = refl
step_rows n (more_of-Step first rest) = ap (λ (r : PlanTrees). more (step_view first) r) (step_rows _ rest)

abbrev element_row : Step → (n : _) × Row_of-Step n
element_row (p.Select' selector _ row) = (_, row)
element_row _ = (_, end_of-Step)

pub steps_are : (v : Vec Step) → steps_row (element_row (p.Select selectors.Relation v)).1 ≡ steps_view v.items
steps_are v =
    let row = element_row (p.Select selectors.Relation v) in
    step_rows row.0 row.1 ∙ ap steps_view (items_hidden-the_row-Step-0 v)

pub select_is : (selector : Selector) (v : Vec Step) → step_view (p.Select selector v) ≡ select (selector_view selector) (steps_view v.items)
select_is selector v = ap (select (selector_view selector)) (steps_are v)

pub extend_is : (o : Box Step) (xs : Vec (List ℕ × Ty)) (slot : ℕ) (v : Vec Step)
    → step_view (p.Extend o xs slot v) ≡ extend (step_view o.value) (pairs_view xs.items) slot (steps_view v.items)
extend_is o xs slot v = ap (extend (step_view o.value) (pairs_view xs.items) slot) (steps_are v)

pub summarize_per_is : (o per : Box Step) (xs : Vec (List ℕ × Ty)) (aggs : Vec Agg) (slot : ℕ) (v : Vec Step)
    → step_view (p.SummarizePer o per xs aggs slot v)
    ≡ summarize_per (step_view o.value) (step_view per.value) (pairs_view xs.items) aggs.items slot (steps_view v.items)
summarize_per_is o per xs aggs slot v = ap (summarize_per (step_view o.value) (step_view per.value) (pairs_view xs.items) aggs.items slot) (steps_are v)

pub summarize_by_is : (o : Box Step) (by : Attributes) (xs : Vec (List ℕ × Ty)) (aggs : Vec Agg) (slot : ℕ) (v : Vec Step)
    → step_view (p.SummarizeBy o by xs aggs slot v)
    ≡ summarize_by (step_view o.value) (attributes_view by) (pairs_view xs.items) aggs.items slot (steps_view v.items)
summarize_by_is o by xs aggs slot v = ap (summarize_by (step_view o.value) (attributes_view by) (pairs_view xs.items) aggs.items slot) (steps_are v)

pub bound_is : (slot reach : ℕ) (v : Vec Step) (b : Box Step) → step_view (p.Bound slot reach v b) ≡ bound slot (steps_view v.items) (step_view b.value)
bound_is slot reach v b = ap (λ ps. bound slot ps (step_view b.value)) (steps_are v)
