use Rattle.std.proofs.Common.{◌≡◌, ◌∷◌, ◌+◌, ◌*◌, List, map, reverse, take}
use Rattle.std.specs.List.{zip}
use Rattle.std.specs.Prelude.{max}
use Rattle.td_algebra.specs.code.Columns.{columns_view}
use Rattle.td_eval.proofs.code_lemmas.Measures.{constraint_height, item_height, weight, weights}
use Rattle.td_eval.proofs.code_lemmas.WalkedColumns.{column_found}
use Rattle.td_eval.proofs.code_lemmas.WalkedItems.{bound_from}
use Rattle.td_eval.proofs.code_lemmas.WalkedLists.{entry_found, value_found}
use Rattle.td_eval.proofs.code_lemmas.WalkedTotals.{group_found, total_found}
use Rattle.td_eval.specs.model.OperatorValues.{truth_value, value_of_type}
use Rattle.td_eval.specs.code.LentWorlds.{seen_by}
use Rattle.td_eval.specs.code.Totals.{total_view}
use Rattle.td_eval.specs.model.TreeValues.{value_of, value_where_bound}
use Rattle.td_tree.specs.code.Gatherings.{IsGathered}
use Rattle.td_tree.specs.model.Heights.{height, highest, highest_named, highest_summary}
use Rattle.td_tree.specs.model.Outcomes.{with_value}
use Rattle.td_tree.specs.code.TreeViews.{named_view, summaries_view, tree_view, trees_view}
use Rattle.td_types.specs.code.Views.{type_view}
use Rattle.td_value.specs.model.Values.{Tuple}
use Rattle.td_eval.proofs.value.+value.Given as goal

-- ---- loops

abbrev pub invariant-values_of-loop-expr : goal.invariant-values_of-loop-expr
invariant-values_of-loop-expr g l =
    IsGathered l.causes (map (λ v. v) l.values.items) (map (value_found (seen_by l.lent) (reverse l.tuples)) (take l.expr-index l.exprs))

abbrev pub invariant-entries-loop-part : goal.invariant-entries-loop-part
invariant-entries-loop-part g l =
    IsGathered l.causes (map (λ e. e) l.entries.items) (map (entry_found (seen_by l.lent) (reverse l.tuples)) (take l.part-index l.parts))

abbrev pub invariant-truths-loop-row : goal.invariant-truths-loop-row
invariant-truths-loop-row g l =
    IsGathered l.causes (map (λ b. b) l.truths.items)
    (map (λ t. truth_value (value_of (seen_by l.lent) (t ∷ reverse l.tuples) (tree_view l.condition))) (take l.row-index l.rows))
    × (l.inner.items ≡ l.tuples)

abbrev pub invariant-column-loop-row : goal.invariant-column-loop-row
invariant-column-loop-row g l =
    IsGathered l.causes (map (λ v. v) l.values.items)
    (map (λ t. with_value (value_of (seen_by l.lent) (t ∷ reverse l.tuples) (tree_view l.expr)) (value_of_type (type_view l.ty))) (take l.row-index l.rows))
    × (l.inner.items ≡ l.tuples)

abbrev pub invariant-columns-loop-place : goal.invariant-columns-loop-place
invariant-columns-loop-place g l =
    IsGathered l.causes (columns_view l.columns.items)
    (map (column_found (seen_by l.lent) (reverse l.tuples) l.operand.body) (take l.place (zip l.attributes l.parts)))

abbrev pub invariant-values_in_rows-loop-row : goal.invariant-values_in_rows-loop-row
invariant-values_in_rows-loop-row g l =
    IsGathered l.causes (map (λ v. v) l.values.items)
    (map (λ t. value_of (seen_by l.lent) (t ∷ reverse l.tuples) (tree_view l.expr)) (take l.row-index l.rows))
    × (l.inner.items ≡ l.tuples)

abbrev pub invariant-summaries::item_in_groups-loop-group : goal.invariant-summaries::item_in_groups-loop-group
invariant-summaries::item_in_groups-loop-group g l =
    IsGathered l.causes (map (λ vs. vs.items) l.values.items)
    (map (group_found (seen_by l.lent) (reverse l.tuples) l.item) (take l.group-index l.groups))

abbrev pub invariant-summaries::totals-loop-item : goal.invariant-summaries::totals-loop-item
invariant-summaries::totals-loop-item g l =
    IsGathered l.causes (map total_view l.totals.items)
    (map (total_found (seen_by l.lent) (reverse l.tuples) l.groups) (take l.item-index l.items))

abbrev pub invariant-bound::bound-loop-item : goal.invariant-bound::bound-loop-item
invariant-bound::bound-loop-item g l =
    let inside = λ (u : List Tuple). value_of (seen_by l.lent) u (tree_view l.expr) in
    value_where_bound (seen_by l.lent) (reverse l.tuples) (named_view l.items) inside ≡ bound_from (seen_by l.lent) inside l.items l.item-index (reverse l.inner.items)

-- ---- how deep each goes

abbrev pub decreases-relvar_value : goal.decreases-relvar_value
decreases-relvar_value g l = weight l.lent.now

abbrev pub decreases-name_value : goal.decreases-name_value
decreases-name_value g l = weight l.lent.now + 1

abbrev pub decreases-value_of : goal.decreases-value_of
decreases-value_of g l = weight l.lent.now + 8 * height (tree_view l.expr.now)

abbrev pub decreases-values_of : goal.decreases-values_of
decreases-values_of g l = weight l.lent.now + (8 * highest (trees_view l.exprs.now) + 1)

abbrev pub decreases-elements::listed_elements : goal.decreases-elements::listed_elements
decreases-elements::listed_elements g l = weight l.lent.now + (8 * highest (trees_view l.elements.now) + 2)

abbrev pub decreases-elements::headed_elements : goal.decreases-elements::headed_elements
decreases-elements::headed_elements g l = weight l.lent.now + (8 * highest (trees_view l.elements.now) + 2)

abbrev pub decreases-entries : goal.decreases-entries
decreases-entries g l = weight l.lent.now + (8 * highest_named (named_view l.parts.now) + 1)

abbrev pub decreases-selector_outcome : goal.decreases-selector_outcome
decreases-selector_outcome g l = weight l.lent.now + 1

abbrev pub decreases-meets_constraint : goal.decreases-meets_constraint
decreases-meets_constraint g l = weights constraint_height (take l.place l.lent.now.types.now) + (8 * constraint_height l.entry.now + 1)

abbrev pub decreases-value_in_row : goal.decreases-value_in_row
decreases-value_in_row g l = weight l.lent.now + (8 * height (tree_view l.expr.now) + 1)

abbrev pub decreases-truths : goal.decreases-truths
decreases-truths g l = weight l.lent.now + (8 * height (tree_view l.condition.now) + 2)

abbrev pub decreases-restriction : goal.decreases-restriction
decreases-restriction g l = weight l.lent.now + (8 * height (tree_view l.condition.now) + 3)

abbrev pub decreases-column : goal.decreases-column
decreases-column g l = weight l.lent.now + (8 * height (tree_view l.expr.now) + 2)

abbrev pub decreases-columns : goal.decreases-columns
decreases-columns g l = weight l.lent.now + (8 * highest_named (named_view l.parts.now) + 3)

abbrev pub decreases-extension : goal.decreases-extension
decreases-extension g l = weight l.lent.now + (8 * highest_named (named_view l.parts.now) + 4)

abbrev pub decreases-setting : goal.decreases-setting
decreases-setting g l = weight l.lent.now + (8 * highest_named (named_view l.settings.now) + 4)

abbrev pub decreases-choice : goal.decreases-choice
decreases-choice g l =
    weight l.lent.now
    + (8 * max (max (height (tree_view l.condition.now)) (height (tree_view l.consequent.now))) (height (tree_view l.alternative.now)) + 1)

abbrev pub decreases-bound::bound : goal.decreases-bound::bound
decreases-bound::bound g l = weight l.lent.now + (8 * max (highest_named (named_view l.items.now)) (height (tree_view l.expr.now)) + 1)

abbrev pub decreases-values_in_rows : goal.decreases-values_in_rows
decreases-values_in_rows g l = weight l.lent.now + (8 * height (tree_view l.expr.now) + 2)

abbrev pub decreases-aggregation : goal.decreases-aggregation
decreases-aggregation g l = weight l.lent.now + (8 * height (tree_view l.expr.now) + 3)

abbrev pub decreases-summaries::item_in_group : goal.decreases-summaries::item_in_group
decreases-summaries::item_in_group g l = weight l.lent.now + (8 * item_height l.item.now + 3)

abbrev pub decreases-summaries::item_in_groups : goal.decreases-summaries::item_in_groups
decreases-summaries::item_in_groups g l = weight l.lent.now + (8 * item_height l.item.now + 4)

abbrev pub decreases-summaries::totals : goal.decreases-summaries::totals
decreases-summaries::totals g l = weight l.lent.now + (8 * highest_summary (summaries_view l.items.now) + 5)

abbrev pub decreases-summaries::summary : goal.decreases-summaries::summary
decreases-summaries::summary g l = weight l.lent.now + (8 * highest_summary (summaries_view l.items.now) + 6)
