use Rattle.std.specs.Prelude.{IfSome, max, true}
use Rattle.std.proofs.Common.{◌≡◌, ◌∙◌, ◌+◌, [], ◌∷◌, ℕ, Err, List, ap, arith, map, option_map, refl, reverse, subst, sym, take}
use Rattle.std.proofs.lemmas.List.{reverse-append}
use Rattle.std.proofs.lemmas.Result.{err_from_is_err_and}
use Rattle.std.proofs.Math.Nat.{le-max_left, le-max_right}
use Rattle.std.specs.Global.{Vec}
use Rattle.std.specs.List.{zip}
use Rattle.std.specs.Rc.{rc_str_bytes}
use Rattle.td_algebra.specs.code.Columns.{columns_view}
use Rattle.td_algebra.specs.declared.extension.Column.{Column}
use Rattle.td_check.proofs.Gives.{answered_then}
use Rattle.td_check.specs.model.OperatorTypes.{are_types_of}
use Rattle.td_check.specs.model.Scopes.{entered_with}
use Rattle.td_check.specs.model.StaticTypes.{named_types}
use Rattle.td_eval.proofs.code_lemmas.HeadedElements.{heading_given, heading_refused}
use Rattle.td_eval.proofs.code_lemmas.Measures.{constraint_height, height_if, height_item, height_listed, height_named, weight, weight_before, tree_before}
use Rattle.td_eval.proofs.code_lemmas.Selectors.{is_selector, never_missing, types_seen}
use Rattle.td_eval.proofs.code_lemmas.VirtualValues.{held_seen}
use Rattle.td_eval.proofs.code_lemmas.WalkedAttributes.{as_many_found, columns_for}
use Rattle.td_eval.proofs.code_lemmas.WalkedColumns.{beside_at, beside_past, beside_within, column_found, columns_are}
use Rattle.td_eval.proofs.code_lemmas.WalkedExtension.{answers_related, types_refused}
use Rattle.td_eval.proofs.code_lemmas.WalkedItems.{bound_from, item_next, past_items}
use Rattle.td_eval.proofs.code_lemmas.WalkedLists.{arguments_are, as_many_parts, entries_are, entry_found, of_as_many, value_found, walked, walked_values}
use Rattle.td_eval.proofs.code_lemmas.WalkedSettings.{types_unset}
use Rattle.td_eval.proofs.code_lemmas.WalkedSelections.{constructed_of, mismatched}
use Rattle.td_eval.proofs.code_lemmas.OpValues.{related as both_related}
use Rattle.td_eval.proofs.code_lemmas.WalkedTotals.{group_found, terms_given, total_found, totals_are, totals_given, totals_refused}
use Rattle.td_check.proofs.BothAnswers.{both_given, both_refused}
use Rattle.td_eval.specs.model.AggregateValues.{aggregated_value, asked_of, summarized_value, summary_attributes, summary_value}
use Rattle.td_eval.specs.model.DatabaseWorlds.{constraint_value, world_of_types}
use Rattle.td_eval.specs.code.FixedValues.{AreFixed}
use Rattle.td_eval.specs.code.NewColumns.{column_view, named_columns}
use Rattle.td_eval.specs.model.OperatorValues.{column_values, component_value, extended_by_settings, extended_value, on_relation, postfix_value, restricted_value, truth_value, tuple_from, value_of_type}
use Rattle.td_eval.specs.code.LentWorlds.{seen_by, virtuals_of}
use Rattle.td_eval.specs.code.Totals.{term_in, total_of, total_view}
use Rattle.td_eval.specs.model.TreeValues.{argument_values, entry_values, items_in_tuples, value_of, value_where_bound, values_in_tuples}
use Rattle.td_group.specs.declared.aggregates.Agg.{Agg}
use Rattle.td_eval.specs.model.Worlds.{known_outcome, selector_outcome, with_tuples}
use Rattle.td_tree.proofs.code_lemmas.Gatherings.{collected_next}
use Rattle.td_tree.specs.model.Heights.{height, highest, highest_named, highest_summary, type_height}
use Rattle.td_tree.specs.model.Outcomes.{Answers, Valued, gathered, named_cause, with_value}
use Rattle.td_tree.specs.code.TreeViews.{attributes_view, heading_tree_view, named_view, summaries_view, tree_view, trees_view}
use Rattle.td_tree.specs.model.Trees as trees
use Rattle.td_tree.proofs.code_lemmas.Rows.{binding_is, extend_is, extend_setting_is, headed_relation_is, relation_is, select_is, summarize_by_is, summarize_per_is, tuple_is}
use Rattle.td_types.specs.declared.ty.Ty.{Ty}
use Rattle.td_types.specs.model.TypeLists.{heading_meant}
use Rattle.td_types.specs.model.Types.{Heading}
use Rattle.td_types.specs.code.Views.{pairs_view, type_view}
use Rattle.td_types.proofs.OutcomeLaws.{valued_is}
use Rattle.td_types.proofs.Resolutions.{answers_still}
use Rattle.td_value.specs.model.Values.{Tuple, Val, boolean, tuple_value, type_of}
use Rattle.td_eval.proofs.value.+value.Goals as goal

-- ---- lists

pub values_of-loop-expr-preserved : goal.values_of-loop-expr-preserved
values_of-loop-expr-preserved g t c =
    collected_next (λ v. v) (value_found (seen_by c.args.lent.now) (reverse c.args.tuples.now)) c.args.exprs.now c.loop-expr.expr-index c.loop-expr-test.true c.expr-item.is
    c.loop-expr.invariant c.value_of.ensures c.in_ok-collect.ensures

pub values_of-returns : goal.values_of-returns
values_of-returns g t c =
    walked_values (value_found (seen_by c.args.lent.now) (reverse c.args.tuples.now)) c.args.exprs.now c.loop-expr.expr-index c.loop-expr-test.false c.loop-expr.causes c.loop-expr.values c.finish.result c.finish.ensures
    c.loop-expr.invariant _ (arguments_are (seen_by c.args.lent.now) (reverse c.args.tuples.now) c.args.exprs.now)

pub entries-loop-part-preserved : goal.entries-loop-part-preserved
entries-loop-part-preserved g t c =
    collected_next (λ e. e) (entry_found (seen_by c.args.lent.now) (reverse c.args.tuples.now)) c.args.parts.now c.loop-part.part-index c.loop-part-test.true c.part-item.is
    c.loop-part.invariant (c.named_value-entry.ensures (value_of (seen_by c.args.lent.now) (reverse c.args.tuples.now) (tree_view c.part-item.result.value)) c.value_of.ensures) c.in_ok-collect.ensures

pub entries-returns : goal.entries-returns
entries-returns g t c =
    walked_values (entry_found (seen_by c.args.lent.now) (reverse c.args.tuples.now)) c.args.parts.now c.loop-part.part-index c.loop-part-test.false c.loop-part.causes c.loop-part.entries c.finish.result c.finish.ensures
    c.loop-part.invariant _ (entries_are (seen_by c.args.lent.now) (reverse c.args.tuples.now) c.args.parts.now)

pub truths-loop-row-preserved : goal.truths-loop-row-preserved
truths-loop-row-preserved g t c =
    let found = λ (u : Tuple). value_of (seen_by c.args.lent.now) (u ∷ reverse c.args.tuples.now) (tree_view c.args.condition.now) in
    let answers = subst (λ (s : List Tuple). Answers (λ (v : Val). v) c.value_in_row.result (value_of (seen_by c.args.lent.now) (c.row-item.result ∷ reverse s) (tree_view c.args.condition.now))) c.loop-row.invariant.1 c.value_in_row.ensures.value in (
      collected_next (λ b. b) (λ u. truth_value (found u)) c.rows-rows.result.now c.loop-row.row-index c.loop-row-test.true c.row-item.is
          c.loop-row.invariant.0 (c.truth_of-truth.ensures (found c.row-item.result) answers) c.in_ok-collect.ensures,
      c.value_in_row.ensures.tuples ∙ c.loop-row.invariant.1,
    )

pub truths-returns : goal.truths-returns
truths-returns g t c =
    walked_values (λ t. truth_value (value_of (seen_by c.args.lent.now) (t ∷ reverse c.args.tuples.now) (tree_view c.args.condition.now))) c.rows-rows.result.now c.loop-row.row-index c.loop-row-test.false c.loop-row.causes c.loop-row.truths c.finish.result c.finish.ensures
    c.loop-row.invariant.0 _ (ap (λ ts. gathered (map (λ t. truth_value (value_of (seen_by c.args.lent.now) (t ∷ reverse c.args.tuples.now) (tree_view c.args.condition.now))) ts)) c.rows-rows.ensures.rows)

pub column-loop-row-preserved : goal.column-loop-row-preserved
column-loop-row-preserved g t c =
    let found = λ (u : Tuple). value_of (seen_by c.args.lent.now) (u ∷ reverse c.args.tuples.now) (tree_view c.args.expr.now) in
    let answers = subst (λ (s : List Tuple). Answers (λ (v : Val). v) c.value_in_row.result (value_of (seen_by c.args.lent.now) (c.row-item.result ∷ reverse s) (tree_view c.args.expr.now))) c.loop-row.invariant.1 c.value_in_row.ensures.value in (
      collected_next (λ v. v) (λ u. with_value (found u) (value_of_type (type_view c.args.ty.now))) c.rows-rows.result.now c.loop-row.row-index c.loop-row-test.true c.row-item.is
          c.loop-row.invariant.0 (c.value_of_its_type-value.ensures (found c.row-item.result) answers) c.in_ok-collect.ensures,
      c.value_in_row.ensures.tuples ∙ c.loop-row.invariant.1,
    )

pub column-returns : goal.column-returns
column-returns g t c =
    walked_values (λ t. with_value (value_of (seen_by c.args.lent.now) (t ∷ reverse c.args.tuples.now) (tree_view c.args.expr.now)) (value_of_type (type_view c.args.ty.now))) c.rows-rows.result.now c.loop-row.row-index c.loop-row-test.false c.loop-row.causes c.loop-row.values c.finish.result c.finish.ensures
    c.loop-row.invariant.0 _ (ap (λ ts. gathered (map (λ t. with_value (value_of (seen_by c.args.lent.now) (t ∷ reverse c.args.tuples.now) (tree_view c.args.expr.now)) (value_of_type (type_view c.args.ty.now))) ts)) c.rows-rows.ensures.rows)

-- ---- tuples that are gone through

pub truths-loop-row-init : goal.truths-loop-row-init
truths-loop-row-init g t c =
    (rw (c.new-causes.ensures, c.in_ok-truths.ensures.items) refl, c.in_ok-inner.ensures)

pub column-loop-row-init : goal.column-loop-row-init
column-loop-row-init g t c =
    (rw (c.new-causes.ensures, c.in_ok-values.ensures.items) refl, c.in_ok-inner.ensures)

-- ---- how deep

pub values_of-value_of-requires : goal.values_of-value_of-requires
values_of-value_of-requires g t c =
    λ κs o. (
      (let h = height_listed c.args.exprs.now c.loop-expr.expr-index c.expr-item.result c.loop-expr-test.true c.expr-item.is in omega (arith, c.decreases, h)),
      (o, c.requires),
    )

pub entries-value_of-requires : goal.entries-value_of-requires
entries-value_of-requires g t c =
    λ κs o. (
      (let h = height_named c.args.parts.now c.loop-part.part-index c.part-item.result c.loop-part-test.true c.part-item.is in omega (arith, c.decreases, h)),
      (o, c.requires),
    )

pub columns-column-values-requires : goal.columns-column-values-requires
columns-column-values-requires g t c =
    λ κs o. (
      (let h = height_named c.args.parts.now c.loop-place.place c.index-parts-place.result c.loop-place-test.true c.index-parts-place.is in omega (arith, c.decreases, h)),
      (o, c.requires.lent),
    )

pub value_of-values_of-requires : goal.value_of-values_of-requires
value_of-values_of-requires g t c =
    λ κs o. (
      (let h = ap height (ap tree_view c.in-Select.is ∙ select_is c.in-Select.ty c.in-Select.arguments ∙ ap (λ xs. trees.select c.in-Select.ty (trees_view xs)) (sym c.deref-in-Select.ensures.value)) in omega (arith, c.decreases, h)),
      (o, c.requires),
    )

pub value_of-listed_elements-requires : goal.value_of-listed_elements-requires
value_of-listed_elements-requires g t c =
    λ κs o. (
      (let h = ap height (ap tree_view c.in-Relation.is ∙ relation_is c.in-Relation.elements ∙ ap (λ xs. trees.relation (trees_view xs)) (sym c.deref-in-Relation.ensures.value)) in omega (arith, c.decreases, h)),
      (o, c.requires),
    )

pub value_of-entries-requires : goal.value_of-entries-requires
value_of-entries-requires g t c =
    λ κs o. (
      (let h = ap height (ap tree_view c.in-Tuple.is ∙ tuple_is c.in-Tuple.parts ∙ ap (λ xs. trees.tuple (named_view xs)) (sym c.deref-in-Tuple.ensures.value)) in omega (arith, c.decreases, h)),
      (o, c.requires),
    )

pub value_of-headed_elements-requires : goal.value_of-headed_elements-requires
value_of-headed_elements-requires g t c =
    λ κs o. (
      (let h = ap height (ap tree_view c.in-HeadedRelation.is ∙ headed_relation_is c.in-HeadedRelation.heading c.in-HeadedRelation.elements ∙ ap (λ xs. trees.headed_relation (heading_tree_view c.in-HeadedRelation.heading.items) (trees_view xs)) (sym c.deref-in-HeadedRelation-2.ensures.value)) in let low = le-max_right (type_height (trees.relation_type (heading_tree_view c.in-HeadedRelation.heading.items))) (highest (trees_view c.deref-in-HeadedRelation-2.result.now)) in omega (arith, c.decreases, h, low)),
      (o, c.requires),
    )

pub value_of-extension-requires : goal.value_of-extension-requires
value_of-extension-requires g t c =
    λ κs o. (
      (let h = ap height (ap tree_view c.in-Extend.is ∙ extend_is c.in-Extend.operand c.in-Extend.parts ∙ (λ i. trees.extend (tree_view (sym c.deref-in-Extend.ensures i)) (named_view (sym c.deref-in-Extend-2.ensures.value i)))) in let low = le-max_right (height (tree_view c.deref-in-Extend.result.now)) (highest_named (named_view c.deref-in-Extend-2.result.now)) in omega (arith, c.decreases, h, low)),
      (o, c.requires),
    )

pub value_of-setting-requires : goal.value_of-setting-requires
value_of-setting-requires g t c =
    λ κs o. (
      (let h = ap height (ap tree_view c.in-ExtendSetting.is ∙ extend_setting_is c.in-ExtendSetting.operand c.in-ExtendSetting.settings ∙ (λ i. trees.extend_setting (tree_view (sym c.deref-in-ExtendSetting.ensures i)) (named_view (sym c.deref-in-ExtendSetting-2.ensures.value i)))) in let low = le-max_right (height (tree_view c.deref-in-ExtendSetting.result.now)) (highest_named (named_view c.deref-in-ExtendSetting-2.result.now)) in omega (arith, c.decreases, h, low)),
      (o, c.requires),
    )

-- ---- relvars

pub relvar_value-value_of-requires : goal.relvar_value-value_of-requires
relvar_value-value_of-requires g t c =
    let lent = c.args.lent.now in
    let is = c.in-Some-virtual_relvar.ensures.found in
    λ κs o. (
      (let h = tree_before (virtuals_of lent) c.in-Some-virtual_relvar.place lent.virtuals (tree_view c.in-Some-virtual_relvar.tree.now) is.entry is.known in let w = ap weight c.in_virtual.ensures.exact in omega (arith, c.decreases, h, w)),
      (o, c.in_virtual.ensures.lent),
    )

pub relvar_value-returns-in-Some : goal.relvar_value-returns-in-Some
relvar_value-returns-in-Some g t c =
    ap known_outcome (held_seen c.args.lent.now c.args.name.now c.in-Some.rel (sym c.in_ok-rel.ensures ∙ c.in-Some.is))
    ∙ ap (λ v. Valued v) (sym c.in_ok-relation.ensures)

pub relvar_value-returns-in-Some-virtual_relvar : goal.relvar_value-returns-in-Some-virtual_relvar
relvar_value-returns-in-Some-virtual_relvar g t c =
    let is = c.in-Some-virtual_relvar.ensures.found in
    let tree = tree_view c.in-Some-virtual_relvar.tree.now in
    subst (λ o. Answers (λ (v : Val). v) c.value_of.result (known_outcome o)) (sym (is.value (sym c.in_ok-rel.ensures ∙ c.in_default.is)))
    (subst (λ s. Answers (λ (v : Val). v) c.value_of.result (value_of (seen_by s) [] tree)) c.in_virtual.ensures.exact c.value_of.ensures)

pub relvar_value-returns-in-None : goal.relvar_value-returns-in-None
relvar_value-returns-in-None g t c =
    ap (λ o. named_cause (known_outcome o)) (c.in-None.ensures.none (sym c.in_ok-rel.ensures ∙ c.in_default.is))

pub value_of-name_value-requires : goal.value_of-name_value-requires
value_of-name_value-requires g t c =
    λ κs o. (
      (let h = ap height (ap tree_view c.in-Name.is) in omega (arith, c.decreases, h)),
      (o, c.requires),
    )

pub meets_constraint-value_of-requires : goal.meets_constraint-value_of-requires
meets_constraint-value_of-requires g t c =
    λ κs o. (
      (let h = ap height_if c.in-Some.ensures in let w = ap weight c.in_constraint.ensures.exact in omega (arith, c.decreases, h, w)),
      (o, c.in_constraint.ensures.lent),
    )

-- ---- selectors

pub selector_outcome-returns-in_default-get : goal.selector_outcome-returns-in_default-get
selector_outcome-returns-in_default-get g t c =
    absurd (never_missing c.args.lent.now c.args.name.now c.requires c.in-Some.place c.in-Some.ensures.found.0 (sym c.get.ensures ∙ ap (option_map (λ e. e.now)) c.in_default-get.is))

pub selector_outcome-returns-then-not-have_types : goal.selector_outcome-returns-then-not-have_types
selector_outcome-returns-then-not-have_types g t c =
    let is = is_selector c.args.lent.now c.args.name.now c.requires c.in-Some.place c.in-Some-get.entry.now c.in-Some.ensures.found.0 c.in-Some.ensures.found.1 (sym c.get.ensures ∙ ap (option_map (λ e. e.now)) c.in-Some-get.is) in
    mismatched c.args.lent.now c.args.name.now c.in-Some.place c.in-Some-get.entry.now is c.args.values.items
    ((λ i. are_types_of (map type_of (sym c.deref.ensures.value i)) (sym c.components.ensures i)) ∙ sym c.have_types.ensures ∙ c.if-not-have_types.true)

pub selector_outcome-meets_constraint-holds-requires : goal.selector_outcome-meets_constraint-holds-requires
selector_outcome-meets_constraint-holds-requires g t c =
    let is = is_selector c.args.lent.now c.args.name.now c.requires c.in-Some.place c.in-Some-get.entry.now c.in-Some.ensures.found.0 c.in-Some.ensures.found.1 (sym c.get.ensures ∙ ap (option_map (λ e. e.now)) c.in-Some-get.is) in
    λ κs o. (
      (let h = weight_before constraint_height c.args.lent.now.types.now c.in-Some.place c.args.lent.now.selectors c.in-Some-get.entry.now is.entry is.known in omega (arith, c.decreases, h)),
      (o, (c.requires, (is.known, is.entry))),
    )

pub selector_outcome-returns : goal.selector_outcome-returns
selector_outcome-returns g t c =
    let is = is_selector c.args.lent.now c.args.name.now c.requires c.in-Some.place c.in-Some-get.entry.now c.in-Some.ensures.found.0 c.in-Some.ensures.found.1 (sym c.get.ensures ∙ ap (option_map (λ e. e.now)) c.in-Some-get.is) in
    constructed_of c.args.lent.now c.args.name.now c.in-Some.place c.in-Some-get.entry.now is c.args.values.items
    ((λ i. are_types_of (map type_of (sym c.deref.ensures.value i)) (sym c.components.ensures i)) ∙ sym c.have_types.ensures ∙ c.if-not-have_types.false)
    c.user_value.result
    (c.user_value.ensures _
    (subst (λ vs. Answers (λ b. b) c.meets_constraint-holds.result (constraint_value (world_of_types c.args.lent.now.types.now (take c.in-Some.place c.args.lent.now.types.now)) c.in-Some-get.entry.now vs))
    c.deref-2.ensures.value c.meets_constraint-holds.ensures))

-- ---- components

pub value_of-returns-in_ok-value_of-in-Component : goal.value_of-returns-in_ok-value_of-in-Component
value_of-returns-in_ok-value_of-in-Component g t c =
    let world = seen_by c.args.lent.now in
    let rest = rc_str_bytes c.in-Component.name in
    let is = ap tree_view c.in-Component.is ∙ (λ i. trees.component rest (tree_view (sym c.deref-in-Component.ensures i))) in
    rw is
    (answered_then (λ v. v) c.in_ok-value_of-in-Component.field-0 (value_of world (reverse c.args.tuples.now) (tree_view c.deref-in-Component.result.now)) (component_value world.scope.types rest) (λ v. v)
    c.component_value-in-Component.result c.in_ok-value_of-in-Component.ensures
    (subst (λ ds. Answers (λ (v : Val). v) c.component_value-in-Component.result (component_value ds rest c.in_ok-value_of-in-Component.field-0)) (sym (types_seen c.args.lent.now c.requires))
    c.component_value-in-Component.ensures))

-- ---- lists in a tree

pub value_of-returns-in_err-values_of-in-Select : goal.value_of-returns-in_err-values_of-in-Select
value_of-returns-in_err-values_of-in-Select g t c =
    let p = err_from_is_err_and c.from_residual-in_err-values_of-in-Select.result c.from_residual-in_err-values_of-in-Select.ensures.1 in
    let is = ap tree_view c.in-Select.is ∙ select_is c.in-Select.ty c.in-Select.arguments ∙ ap (λ xs. trees.select c.in-Select.ty (trees_view xs)) (sym c.deref-in-Select.ensures.value) in
    rw (p.1, p.2, is)
    (answers_still (λ (vs : Vec Val). vs.items) (λ (v : Val). v) _ (argument_values (seen_by c.args.lent.now) (reverse c.args.tuples.now) (trees_view c.deref-in-Select.result.now)) (selector_outcome (seen_by c.args.lent.now) c.in-Select.ty) c.in_err-values_of-in-Select.ensures)

pub value_of-returns-in_ok-values_of-in-Select : goal.value_of-returns-in_ok-values_of-in-Select
value_of-returns-in_ok-values_of-in-Select g t c =
    let is = ap tree_view c.in-Select.is ∙ select_is c.in-Select.ty c.in-Select.arguments ∙ ap (λ xs. trees.select c.in-Select.ty (trees_view xs)) (sym c.deref-in-Select.ensures.value) in
    rw is
    (answered_then (λ vs. vs.items) c.in_ok-values_of-in-Select.field-0 (argument_values (seen_by c.args.lent.now) (reverse c.args.tuples.now) (trees_view c.deref-in-Select.result.now)) (selector_outcome (seen_by c.args.lent.now) c.in-Select.ty) (λ v. v) c.selector_outcome.result c.in_ok-values_of-in-Select.ensures c.selector_outcome.ensures)

pub value_of-returns-in-Relation : goal.value_of-returns-in-Relation
value_of-returns-in-Relation g t c =
    let is = ap tree_view c.in-Relation.is ∙ relation_is c.in-Relation.elements ∙ ap (λ xs. trees.relation (trees_view xs)) (sym c.deref-in-Relation.ensures.value) in
    rw is c.listed_elements.ensures

pub value_of-returns-in_err-entries-in-Tuple : goal.value_of-returns-in_err-entries-in-Tuple
value_of-returns-in_err-entries-in-Tuple g t c =
    let p = err_from_is_err_and c.from_residual-in_err-entries-in-Tuple.result c.from_residual-in_err-entries-in-Tuple.ensures.1 in
    let is = ap tree_view c.in-Tuple.is ∙ tuple_is c.in-Tuple.parts ∙ ap (λ xs. trees.tuple (named_view xs)) (sym c.deref-in-Tuple.ensures.value) in
    rw (p.1, p.2, is)
    (answers_still (λ (vs : Vec (List ℕ × Val)). vs.items) (λ (v : Val). v) _ (entry_values (seen_by c.args.lent.now) (reverse c.args.tuples.now) (named_view c.deref-in-Tuple.result.now)) tuple_from c.in_err-entries-in-Tuple.ensures)

pub value_of-returns-in_ok-entries-in-Tuple : goal.value_of-returns-in_ok-entries-in-Tuple
value_of-returns-in_ok-entries-in-Tuple g t c =
    let is = ap tree_view c.in-Tuple.is ∙ tuple_is c.in-Tuple.parts ∙ ap (λ xs. trees.tuple (named_view xs)) (sym c.deref-in-Tuple.ensures.value) in
    rw is
    (answered_then (λ vs. vs.items) c.in_ok-entries-in-Tuple.field-0 (entry_values (seen_by c.args.lent.now) (reverse c.args.tuples.now) (named_view c.deref-in-Tuple.result.now)) tuple_from (λ v. v) c.tuple_from.result c.in_ok-entries-in-Tuple.ensures c.tuple_from.ensures)

pub value_of-returns-in-HeadedRelation : goal.value_of-returns-in-HeadedRelation
value_of-returns-in-HeadedRelation g t c =
    let is = ap tree_view c.in-HeadedRelation.is ∙ headed_relation_is c.in-HeadedRelation.heading c.in-HeadedRelation.elements
    ∙ (λ i. trees.headed_relation (heading_tree_view (sym c.deref-in-HeadedRelation.ensures.value i)) (trees_view (sym c.deref-in-HeadedRelation-2.ensures.value i))) in
    rw is c.headed_elements.ensures

pub elements::headed_elements-returns-in_err-heading-in-Some : goal.elements::headed_elements-returns-in_err-heading-in-Some
elements::headed_elements-returns-in_err-heading-in-Some g t c =
    let p = err_from_is_err_and c.from_residual-in_err-heading-in-Some.result c.from_residual-in_err-heading-in-Some.ensures.1 in
    rw (p.1, p.2)
    (heading_refused (seen_by c.args.lent.now) (reverse c.args.tuples.now) (trees_view c.args.elements.now) c.in-Some.flat.items
    (subst (λ o. IfSome o (λ (ts : Vec Tuple). AreFixed (trees_view c.args.elements.now) (map tuple_value ts.items))) c.in-Some.is c.in_ok-flat.ensures) _ _
    (λ i. heading_meant (sym (types_seen c.args.lent.now c.requires) i) (heading_tree_view c.args.heading.now)) _ c.in_err-heading-in-Some.ensures)

pub elements::headed_elements-returns-in_ok-heading-in-Some : goal.elements::headed_elements-returns-in_ok-heading-in-Some
elements::headed_elements-returns-in_ok-heading-in-Some g t c =
    heading_given (seen_by c.args.lent.now) (reverse c.args.tuples.now) (trees_view c.args.elements.now) c.in-Some.flat.items
    (subst (λ o. IfSome o (λ (ts : Vec Tuple). AreFixed (trees_view c.args.elements.now) (map tuple_value ts.items))) c.in-Some.is c.in_ok-flat.ensures) _ _
    (λ i. heading_meant (sym (types_seen c.args.lent.now c.requires) i) (heading_tree_view c.args.heading.now)) c.in_ok-heading-in-Some.field-0 c.headed_tuples.result
    c.in_ok-heading-in-Some.ensures c.headed_tuples.ensures

pub elements::headed_elements-returns-in-None : goal.elements::headed_elements-returns-in-None
elements::headed_elements-returns-in-None g t c =
    c.value_of_headed.ensures (heading_meant (seen_by c.args.lent.now).scope.types (heading_tree_view c.args.heading.now))
    (argument_values (seen_by c.args.lent.now) (reverse c.args.tuples.now) (trees_view c.args.elements.now))
    (subst (Answers (λ h. h) c.resolve_heading-heading.result)
    (λ i. heading_meant (sym (types_seen c.args.lent.now c.requires) i) (heading_tree_view c.args.heading.now)) c.resolve_heading-heading.ensures)
    c.values_of.ensures

-- ---- over tuples

pub value_of-returns-in_ok-value_of-in-Restriction : goal.value_of-returns-in_ok-value_of-in-Restriction
value_of-returns-in_ok-value_of-in-Restriction g t c =
    let is = ap tree_view c.in-Restriction.is ∙ (λ i. trees.restriction (tree_view (sym c.deref-in-Restriction.ensures i)) (tree_view (sym c.deref-in-Restriction-2.ensures i))) in
    rw is
    (answered_then (λ v. v) c.in_ok-value_of-in-Restriction.field-0 (value_of (seen_by c.args.lent.now) (reverse c.args.tuples.now) (tree_view c.deref-in-Restriction.result.now))
    (λ v. on_relation v (restricted_value (λ u. value_of (seen_by c.args.lent.now) (u ∷ reverse c.args.tuples.now) (tree_view c.deref-in-Restriction-2.result.now)))) (λ v. v) c.restriction-in-Restriction.result
    c.in_ok-value_of-in-Restriction.ensures c.restriction-in-Restriction.ensures)

pub value_of-returns-in_ok-value_of-in-Extend : goal.value_of-returns-in_ok-value_of-in-Extend
value_of-returns-in_ok-value_of-in-Extend g t c =
    let is = ap tree_view c.in-Extend.is ∙ extend_is c.in-Extend.operand c.in-Extend.parts ∙ (λ i. trees.extend (tree_view (sym c.deref-in-Extend.ensures i)) (named_view (sym c.deref-in-Extend-2.ensures.value i))) in
    rw is
    (answered_then (λ v. v) c.in_ok-value_of-in-Extend.field-0 (value_of (seen_by c.args.lent.now) (reverse c.args.tuples.now) (tree_view c.deref-in-Extend.result.now))
    (λ v. on_relation v (λ r. extended_value (named_types (entered_with r.heading (with_tuples (seen_by c.args.lent.now).scope (reverse c.args.tuples.now))) (named_view c.deref-in-Extend-2.result.now))
    (values_in_tuples (seen_by c.args.lent.now) (reverse c.args.tuples.now) (named_view c.deref-in-Extend-2.result.now)) r)) (λ v. v) c.extension-in-Extend.result
    c.in_ok-value_of-in-Extend.ensures c.extension-in-Extend.ensures)

pub value_of-returns-in_ok-value_of-in-ExtendSetting : goal.value_of-returns-in_ok-value_of-in-ExtendSetting
value_of-returns-in_ok-value_of-in-ExtendSetting g t c =
    let is = ap tree_view c.in-ExtendSetting.is ∙ extend_setting_is c.in-ExtendSetting.operand c.in-ExtendSetting.settings ∙ (λ i. trees.extend_setting (tree_view (sym c.deref-in-ExtendSetting.ensures i)) (named_view (sym c.deref-in-ExtendSetting-2.ensures.value i))) in
    rw is
    (answered_then (λ v. v) c.in_ok-value_of-in-ExtendSetting.field-0 (value_of (seen_by c.args.lent.now) (reverse c.args.tuples.now) (tree_view c.deref-in-ExtendSetting.result.now))
    (λ v. on_relation v (λ r. extended_by_settings (named_types (entered_with r.heading (with_tuples (seen_by c.args.lent.now).scope (reverse c.args.tuples.now))) (named_view c.deref-in-ExtendSetting-2.result.now))
    (values_in_tuples (seen_by c.args.lent.now) (reverse c.args.tuples.now) (named_view c.deref-in-ExtendSetting-2.result.now)) r)) (λ v. v) c.setting-in-ExtendSetting.result
    c.in_ok-value_of-in-ExtendSetting.ensures c.setting-in-ExtendSetting.ensures)

pub restriction-restriction_value-requires : goal.restriction-restriction_value-requires
restriction-restriction_value-requires g t c =
    of_as_many c.truths.result (λ t. truth_value (value_of (seen_by c.args.lent.now) (t ∷ (reverse c.args.tuples.now)) (tree_view c.args.condition.now))) c.in_ok-rel.rel.now.body c.truths.ensures

-- ---- new attributes

pub columns-loop-place-preserved : goal.columns-loop-place-preserved
columns-loop-place-preserved g t c =
    let l = c.loop-place in
    collected_next column_view (column_found (seen_by c.args.lent.now) (reverse c.args.tuples.now) c.args.operand.now.body) (zip c.args.attributes.now c.args.parts.now) l.place
    (beside_within c.args.attributes.now c.args.parts.now l.place c.requires.lengths c.loop-place-test.true)
    (beside_at c.args.attributes.now c.args.parts.now l.place c.index-attributes-place.result c.index-parts-place.result c.requires.lengths c.loop-place-test.true c.index-attributes-place.is c.index-parts-place.is)
    l.invariant (c.named_column.ensures (column_values (type_view c.index-attributes-place.result.1) (λ t. value_of (seen_by c.args.lent.now) (t ∷ (reverse c.args.tuples.now)) (tree_view c.index-parts-place.result.value)) c.args.operand.now.body) c.column-values.ensures)
    c.in_ok-collect.ensures

pub columns-returns : goal.columns-returns
columns-returns g t c =
    walked (λ (cs : Vec (List ℕ × Column)). columns_view cs.items) (column_found (seen_by c.args.lent.now) (reverse c.args.tuples.now) c.args.operand.now.body) (zip c.args.attributes.now c.args.parts.now) c.loop-place.place (beside_past c.args.attributes.now c.args.parts.now c.loop-place.place c.requires.lengths c.loop-place-test.false)
    c.loop-place.causes c.loop-place.columns c.finish.result c.finish.ensures c.loop-place.invariant _
    (ap gathered (columns_are (seen_by c.args.lent.now) (reverse c.args.tuples.now) c.args.operand.now.body c.args.attributes.now c.args.parts.now))

pub extension-returns-in_err-attributes : goal.extension-returns-in_err-attributes
extension-returns-in_err-attributes g t c =
    let p = err_from_is_err_and c.from_residual-in_err-attributes.result c.from_residual-in_err-attributes.ensures.1 in
    answers_related (λ (v : Val). v) c.args.operand.now c.in_ok-rel.rel.now (λ r. extended_value (named_types (entered_with r.heading (with_tuples (seen_by c.args.lent.now).scope (reverse c.args.tuples.now))) (named_view c.args.parts.now)) (values_in_tuples (seen_by c.args.lent.now) (reverse c.args.tuples.now) (named_view c.args.parts.now)) r) c.from_residual-in_err-attributes.result c.in_ok-rel.ensures
    (rw (p.1, p.2)
    (types_refused (named_types (entered_with c.in_ok-rel.rel.now.heading (with_tuples (seen_by c.args.lent.now).scope (reverse c.args.tuples.now))) (named_view c.args.parts.now)) (values_in_tuples (seen_by c.args.lent.now) (reverse c.args.tuples.now) (named_view c.args.parts.now)) c.in_ok-rel.rel.now (λ (ts : Vec (List ℕ × Ty)). pairs_view ts.items) _ c.in_err-attributes.ensures))

pub extension-columns-columns-requires : goal.extension-columns-columns-requires
extension-columns-columns-requires g t c =
    λ κs o. (
      omega (arith, c.decreases),
      (
        o,
        (
          c.requires,
          as_many_found (entered_with c.in_ok-rel.rel.now.heading (with_tuples (seen_by c.args.lent.now).scope (reverse c.args.tuples.now))) c.args.parts.now
              c.in_ok-attributes.attributes.items c.deref.result.now c.deref.ensures.value c.in_ok-attributes.ensures,
        ),
      ),
    )

pub extension-extension_by-requires : goal.extension-extension_by-requires
extension-extension_by-requires g t c =
    let scope = entered_with c.in_ok-rel.rel.now.heading (with_tuples (seen_by c.args.lent.now).scope (reverse c.args.tuples.now)) in
    columns_for (values_in_tuples (seen_by c.args.lent.now) (reverse c.args.tuples.now) (named_view c.args.parts.now)) c.in_ok-rel.rel.now.body c.deref.result.now c.deref-2.result.now c.columns-columns.result
    (c.deref-2.ensures.value ∙ sym c.deref.ensures.value)
    (as_many_found scope c.args.parts.now c.in_ok-attributes.attributes.items c.deref.result.now c.deref.ensures.value c.in_ok-attributes.ensures
    ∙ sym (as_many_parts (seen_by c.args.lent.now) (reverse c.args.tuples.now) c.args.parts.now))
    c.columns-columns.ensures

pub extension-returns : goal.extension-returns
extension-returns g t c =
    let scope = entered_with c.in_ok-rel.rel.now.heading (with_tuples (seen_by c.args.lent.now).scope (reverse c.args.tuples.now)) in
    answers_related (λ (v : Val). v) c.args.operand.now c.in_ok-rel.rel.now (λ r. extended_value (named_types (entered_with r.heading (with_tuples (seen_by c.args.lent.now).scope (reverse c.args.tuples.now))) (named_view c.args.parts.now)) (values_in_tuples (seen_by c.args.lent.now) (reverse c.args.tuples.now) (named_view c.args.parts.now)) r) c.extension_by.result c.in_ok-rel.ensures
    (subst (λ o. Answers (λ (v : Val). v) c.extension_by.result (extended_value o (values_in_tuples (seen_by c.args.lent.now) (reverse c.args.tuples.now) (named_view c.args.parts.now)) c.in_ok-rel.rel.now))
    (ap Valued (ap pairs_view c.deref-2.ensures.value) ∙ sym c.in_ok-attributes.ensures)
    (c.extension_by.ensures (values_in_tuples (seen_by c.args.lent.now) (reverse c.args.tuples.now) (named_view c.args.parts.now))
    (as_many_found scope c.args.parts.now c.in_ok-attributes.attributes.items c.deref-2.result.now c.deref-2.ensures.value c.in_ok-attributes.ensures
    ∙ sym (as_many_parts (seen_by c.args.lent.now) (reverse c.args.tuples.now) c.args.parts.now))
    (subst (λ xs. Answers (λ (cs : Vec (List ℕ × Column)). columns_view cs.items) c.columns-columns.result (gathered (named_columns (pairs_view xs) (values_in_tuples (seen_by c.args.lent.now) (reverse c.args.tuples.now) (named_view c.args.parts.now)) c.in_ok-rel.rel.now.body)))
    (c.deref.ensures.value ∙ sym c.deref-2.ensures.value) c.columns-columns.ensures)))

-- ---- attributes that are set

pub setting-returns-in_err-attributes : goal.setting-returns-in_err-attributes
setting-returns-in_err-attributes g t c =
    let p = err_from_is_err_and c.from_residual-in_err-attributes.result c.from_residual-in_err-attributes.ensures.1 in
    answers_related (λ (v : Val). v) c.args.operand.now c.in_ok-rel.rel.now (λ r. extended_by_settings (named_types (entered_with r.heading (with_tuples (seen_by c.args.lent.now).scope (reverse c.args.tuples.now))) (named_view c.args.settings.now)) (values_in_tuples (seen_by c.args.lent.now) (reverse c.args.tuples.now) (named_view c.args.settings.now)) r) c.from_residual-in_err-attributes.result c.in_ok-rel.ensures
    (rw (p.1, p.2)
    (types_unset (named_types (entered_with c.in_ok-rel.rel.now.heading (with_tuples (seen_by c.args.lent.now).scope (reverse c.args.tuples.now))) (named_view c.args.settings.now)) (values_in_tuples (seen_by c.args.lent.now) (reverse c.args.tuples.now) (named_view c.args.settings.now)) c.in_ok-rel.rel.now (λ (ts : Vec (List ℕ × Ty)). pairs_view ts.items) _ c.in_err-attributes.ensures))

pub setting-columns-columns-requires : goal.setting-columns-columns-requires
setting-columns-columns-requires g t c =
    λ κs o. (
      omega (arith, c.decreases),
      (
        o,
        (
          c.requires,
          as_many_found (entered_with c.in_ok-rel.rel.now.heading (with_tuples (seen_by c.args.lent.now).scope (reverse c.args.tuples.now))) c.args.settings.now
              c.in_ok-attributes.attributes.items c.deref.result.now c.deref.ensures.value c.in_ok-attributes.ensures,
        ),
      ),
    )

pub setting-setting_by-requires : goal.setting-setting_by-requires
setting-setting_by-requires g t c =
    let scope = entered_with c.in_ok-rel.rel.now.heading (with_tuples (seen_by c.args.lent.now).scope (reverse c.args.tuples.now)) in
    columns_for (values_in_tuples (seen_by c.args.lent.now) (reverse c.args.tuples.now) (named_view c.args.settings.now)) c.in_ok-rel.rel.now.body c.deref.result.now c.deref-2.result.now c.columns-columns.result
    (c.deref-2.ensures.value ∙ sym c.deref.ensures.value)
    (as_many_found scope c.args.settings.now c.in_ok-attributes.attributes.items c.deref.result.now c.deref.ensures.value c.in_ok-attributes.ensures
    ∙ sym (as_many_parts (seen_by c.args.lent.now) (reverse c.args.tuples.now) c.args.settings.now))
    c.columns-columns.ensures

pub setting-returns : goal.setting-returns
setting-returns g t c =
    let scope = entered_with c.in_ok-rel.rel.now.heading (with_tuples (seen_by c.args.lent.now).scope (reverse c.args.tuples.now)) in
    answers_related (λ (v : Val). v) c.args.operand.now c.in_ok-rel.rel.now (λ r. extended_by_settings (named_types (entered_with r.heading (with_tuples (seen_by c.args.lent.now).scope (reverse c.args.tuples.now))) (named_view c.args.settings.now)) (values_in_tuples (seen_by c.args.lent.now) (reverse c.args.tuples.now) (named_view c.args.settings.now)) r) c.setting_by.result c.in_ok-rel.ensures
    (subst (λ o. Answers (λ (v : Val). v) c.setting_by.result (extended_by_settings o (values_in_tuples (seen_by c.args.lent.now) (reverse c.args.tuples.now) (named_view c.args.settings.now)) c.in_ok-rel.rel.now))
    (ap Valued (ap pairs_view c.deref-2.ensures.value) ∙ sym c.in_ok-attributes.ensures)
    (c.setting_by.ensures (values_in_tuples (seen_by c.args.lent.now) (reverse c.args.tuples.now) (named_view c.args.settings.now))
    (as_many_found scope c.args.settings.now c.in_ok-attributes.attributes.items c.deref-2.result.now c.deref-2.ensures.value c.in_ok-attributes.ensures
    ∙ sym (as_many_parts (seen_by c.args.lent.now) (reverse c.args.tuples.now) c.args.settings.now))
    (subst (λ xs. Answers (λ (cs : Vec (List ℕ × Column)). columns_view cs.items) c.columns-columns.result (gathered (named_columns (pairs_view xs) (values_in_tuples (seen_by c.args.lent.now) (reverse c.args.tuples.now) (named_view c.args.settings.now)) c.in_ok-rel.rel.now.body)))
    (c.deref.ensures.value ∙ sym c.deref-2.ensures.value) c.columns-columns.ensures)))

-- ---- aggregates

pub values_in_rows-loop-row-init : goal.values_in_rows-loop-row-init
values_in_rows-loop-row-init g t c =
    (rw (c.new-causes.ensures, c.in_ok-values.ensures.items) refl, c.in_ok-inner.ensures)

pub values_in_rows-loop-row-preserved : goal.values_in_rows-loop-row-preserved
values_in_rows-loop-row-preserved g t c =
    let found = λ (u : Tuple). value_of (seen_by c.args.lent.now) (u ∷ reverse c.args.tuples.now) (tree_view c.args.expr.now) in
    let answers = subst (λ (s : List Tuple). Answers (λ (v : Val). v) c.value_in_row-value.result (value_of (seen_by c.args.lent.now) (c.row-item.result ∷ reverse s) (tree_view c.args.expr.now))) c.loop-row.invariant.1 c.value_in_row-value.ensures.value in (
      collected_next (λ v. v) found c.rows-rows.result.now c.loop-row.row-index c.loop-row-test.true c.row-item.is
          c.loop-row.invariant.0 answers c.in_ok-collect.ensures,
      c.value_in_row-value.ensures.tuples ∙ c.loop-row.invariant.1,
    )

pub values_in_rows-returns : goal.values_in_rows-returns
values_in_rows-returns g t c =
    walked_values (λ t. value_of (seen_by c.args.lent.now) (t ∷ reverse c.args.tuples.now) (tree_view c.args.expr.now)) c.rows-rows.result.now c.loop-row.row-index c.loop-row-test.false c.loop-row.causes c.loop-row.values c.finish.result c.finish.ensures
    c.loop-row.invariant.0 _ (ap (λ ts. gathered (map (λ t. value_of (seen_by c.args.lent.now) (t ∷ reverse c.args.tuples.now) (tree_view c.args.expr.now)) ts)) c.rows-rows.ensures.rows)

-- ---- SUMMARIZE

pub summaries::item_in_groups-loop-group-preserved : goal.summaries::item_in_groups-loop-group-preserved
summaries::item_in_groups-loop-group-preserved g t c =
    collected_next (λ (vs : Vec Val). vs.items) (group_found (seen_by c.args.lent.now) (reverse c.args.tuples.now) c.args.item.now) c.args.groups.now c.loop-group.group-index c.loop-group-test.true c.loop-group-item.is
    c.loop-group.invariant c.item_in_group-found.ensures c.in_ok-collect.ensures

pub summaries::item_in_groups-returns : goal.summaries::item_in_groups-returns
summaries::item_in_groups-returns g t c =
    walked (λ (vss : Vec (Vec Val)). map (λ vs. vs.items) vss.items) (group_found (seen_by c.args.lent.now) (reverse c.args.tuples.now) c.args.item.now) c.args.groups.now
    c.loop-group.group-index c.loop-group-test.false c.loop-group.causes c.loop-group.values c.finish.result c.finish.ensures c.loop-group.invariant _ refl

pub summaries::totals-loop-item-preserved : goal.summaries::totals-loop-item-preserved
summaries::totals-loop-item-preserved g t c =
    let values = gathered (map (group_found (seen_by c.args.lent.now) (reverse c.args.tuples.now) c.item-item.result) c.args.groups.now) in
    collected_next total_view (total_found (seen_by c.args.lent.now) (reverse c.args.tuples.now) c.args.groups.now) c.args.items.now c.loop-item.item-index c.loop-item-test.true c.item-item.is
    c.loop-item.invariant (c.with_aggregate-total.ensures values c.item_in_groups.ensures) c.in_ok-collect.ensures

pub summaries::totals-returns : goal.summaries::totals-returns
summaries::totals-returns g t c =
    walked (λ (ts : Vec (Agg × Vec (Vec Val))). map total_view ts.items) (total_found (seen_by c.args.lent.now) (reverse c.args.tuples.now) c.args.groups.now) c.args.items.now
    c.loop-item.item-index c.loop-item-test.false c.loop-item.causes c.loop-item.totals c.finish.result c.finish.ensures c.loop-item.invariant _
    (ap gathered (totals_are (seen_by c.args.lent.now) (reverse c.args.tuples.now) c.args.groups.now c.args.items.now))

pub summaries::totals-item_in_groups-requires : goal.summaries::totals-item_in_groups-requires
summaries::totals-item_in_groups-requires g t c =
    λ κs o. (
      (let h = height_item c.args.items.now c.loop-item.item-index c.item-item.result c.loop-item-test.true c.item-item.is in omega (arith, c.decreases, h)),
      (o, c.requires),
    )

pub aggregation-returns : goal.aggregation-returns
aggregation-returns g t c =
    let world = seen_by c.args.lent.now in
    let tuples = reverse c.args.tuples.now in
    let value = λ (u : Tuple). value_of world (u ∷ tuples) (tree_view c.args.expr.now) in
    answers_related (λ (v : Val). v) c.args.operand.now c.in_ok-rel.rel.now (aggregated_value (asked_of c.args.op) value) c.value_of_aggregate.result c.in_ok-rel.ensures
    (c.value_of_aggregate.ensures (gathered (map value c.in_ok-rel.rel.now.body)) c.values_in_rows.ensures)

pub summaries::item_in_group-returns-in_ok-terms-in-Count : goal.summaries::item_in_group-returns-in_ok-terms-in-Count
summaries::item_in_group-returns-in_ok-terms-in-Count g t c =
    ap (λ item. gathered (map (term_in (seen_by c.args.lent.now) (reverse c.args.tuples.now) item) c.args.group.now.body)) c.in-Count.is
    ∙ terms_given c.args.group.now.body (boolean true) ∙ ap (λ vs. Valued vs) (sym c.in_ok-terms-in-Count.ensures)

pub summaries::summary-returns-in_err-totals : goal.summaries::summary-returns-in_err-totals
summaries::summary-returns-in_err-totals g t c =
    let world = seen_by c.args.lent.now in
    let tuples = reverse c.args.tuples.now in
    let e = err_from_is_err_and c.from_residual-in_err-totals.result c.from_residual-in_err-totals.ensures.1 in
    let r = c.in_ok-rel.rel.now in
    let p = c.in_ok-rel.per.now in
    let attributes = λ (h : Heading). summary_attributes (entered_with h (with_tuples world.scope tuples)) (summaries_view c.args.items.now) in
    let items = items_in_tuples world tuples (summaries_view c.args.items.now) in
    let view = λ (ts : Vec (Agg × Vec (Vec Val))). map total_view ts.items in
    rw (e.1, e.2)
    (subst (Answers (λ (v : Val). v) (Err c.in_err-totals.field-0.0)) (sym (both_related c.args.operand.now c.args.per.now r p (λ r p. summarized_value (attributes r.heading) items r p) c.in_ok-rel.ensures))
    (totals_refused (attributes r.heading) items r p c.in_ok-groups.groups.items c.in_ok-groups.ensures view c.in_err-totals.field-0.0
    (subst (λ gs. Answers view (Err c.in_err-totals.field-0.0) (gathered (map (total_of gs) items))) c.deref.ensures.value c.in_err-totals.ensures)))

pub summaries::summary-returns : goal.summaries::summary-returns
summaries::summary-returns g t c =
    let world = seen_by c.args.lent.now in
    let tuples = reverse c.args.tuples.now in
    let r = c.in_ok-rel.rel.now in
    let p = c.in_ok-rel.per.now in
    let attributes = λ (h : Heading). summary_attributes (entered_with h (with_tuples world.scope tuples)) (summaries_view c.args.items.now) in
    let items = items_in_tuples world tuples (summaries_view c.args.items.now) in
    let totals = map total_view c.in_ok-totals.totals.items in
    subst (Answers (λ (v : Val). v) c.extended_per.result) (sym (both_related c.args.operand.now c.args.per.now r p (λ r p. summarized_value (attributes r.heading) items r p) c.in_ok-rel.ensures))
    (totals_given (attributes r.heading) items r p c.in_ok-groups.groups.items c.in_ok-groups.ensures totals
    (subst (λ gs. gathered (map (total_of gs) items) ≡ Valued totals) c.deref.ensures.value c.in_ok-totals.ensures) c.extended_per.result c.extended_per.ensures)

-- ---- aggregates and SUMMARIZE in a tree

pub value_of-returns-in_ok-value_of-in-Aggregate : goal.value_of-returns-in_ok-value_of-in-Aggregate
value_of-returns-in_ok-value_of-in-Aggregate g t c =
    let world = seen_by c.args.lent.now in
    let tuples = reverse c.args.tuples.now in
    let is = ap tree_view c.in-Aggregate.is ∙ (λ i. trees.aggregate c.in-Aggregate.op (tree_view (sym c.deref-in-Aggregate.ensures i)) (tree_view (sym c.deref-in-Aggregate-2.ensures i))) in
    rw is
    (answered_then (λ v. v) c.in_ok-value_of-in-Aggregate.field-0 (value_of world tuples (tree_view c.deref-in-Aggregate.result.now))
    (λ v. on_relation v (aggregated_value (asked_of c.in-Aggregate.op) (λ u. value_of world (u ∷ tuples) (tree_view c.deref-in-Aggregate-2.result.now)))) (λ v. v)
    c.aggregation-in-Aggregate.result c.in_ok-value_of-in-Aggregate.ensures c.aggregation-in-Aggregate.ensures)

pub value_of-returns-in_err-operand-in-SummarizePer : goal.value_of-returns-in_err-operand-in-SummarizePer
value_of-returns-in_err-operand-in-SummarizePer g t c =
    let world = seen_by c.args.lent.now in
    let tuples = reverse c.args.tuples.now in
    let e = err_from_is_err_and c.from_residual-in_err-operand-in-SummarizePer.result c.from_residual-in_err-operand-in-SummarizePer.ensures.1 in
    let is = ap tree_view c.in-SummarizePer.is ∙ summarize_per_is c.in-SummarizePer.operand c.in-SummarizePer.per c.in-SummarizePer.items
    ∙ (λ i. trees.summarize_per (tree_view (sym c.deref-in-SummarizePer.ensures i)) (tree_view (sym c.deref-in-SummarizePer-2.ensures i)) (summaries_view c.in-SummarizePer.items.items)) in
    rw (e.1, e.2, is)
    (both_refused (λ (v : Val). v) (λ (v : Val). v) (λ (v : Val). v) (summary_value (λ h. summary_attributes (entered_with h (with_tuples world.scope tuples)) (summaries_view c.in-SummarizePer.items.items)) (items_in_tuples world tuples (summaries_view c.in-SummarizePer.items.items)))
    c.value_of-operand.result c.value_of-in-SummarizePer.result (value_of world tuples (tree_view c.deref-in-SummarizePer.result.now))
    (value_of world tuples (tree_view c.deref-in-SummarizePer-2.result.now)) _
    (sym c.both.ensures ∙ c.in_err-operand-in-SummarizePer.was) c.value_of-operand.ensures c.value_of-in-SummarizePer.ensures)

pub value_of-summary-requires : goal.value_of-summary-requires
value_of-summary-requires g t c =
    λ κs o. (
      (let h = ap height (ap tree_view c.in-SummarizePer.is ∙ summarize_per_is c.in-SummarizePer.operand c.in-SummarizePer.per c.in-SummarizePer.items ∙ (λ i. trees.summarize_per (tree_view (sym c.deref-in-SummarizePer.ensures i)) (tree_view (sym c.deref-in-SummarizePer-2.ensures i)) (summaries_view (sym c.deref-in-SummarizePer-3.ensures.value i)))) in let low = le-max_right (max (height (tree_view c.deref-in-SummarizePer.result.now)) (height (tree_view c.deref-in-SummarizePer-2.result.now))) (highest_summary (summaries_view c.deref-in-SummarizePer-3.result.now)) in omega (arith, c.decreases, h, low)),
      (o, c.requires),
    )

pub value_of-returns-in_ok-operand-in-SummarizePer : goal.value_of-returns-in_ok-operand-in-SummarizePer
value_of-returns-in_ok-operand-in-SummarizePer g t c =
    let world = seen_by c.args.lent.now in
    let tuples = reverse c.args.tuples.now in
    let is = ap tree_view c.in-SummarizePer.is ∙ summarize_per_is c.in-SummarizePer.operand c.in-SummarizePer.per c.in-SummarizePer.items
    ∙ (λ i. trees.summarize_per (tree_view (sym c.deref-in-SummarizePer.ensures i)) (tree_view (sym c.deref-in-SummarizePer-2.ensures i)) (summaries_view (sym c.deref-in-SummarizePer-3.ensures.value i))) in
    rw is
    (subst (Answers (λ (v : Val). v) c.summary.result)
    (sym (both_given (λ (v : Val). v) (λ (v : Val). v) (summary_value (λ h. summary_attributes (entered_with h (with_tuples world.scope tuples)) (summaries_view c.deref-in-SummarizePer-3.result.now)) (items_in_tuples world tuples (summaries_view c.deref-in-SummarizePer-3.result.now)))
    c.value_of-operand.result c.value_of-in-SummarizePer.result (value_of world tuples (tree_view c.deref-in-SummarizePer.result.now))
    (value_of world tuples (tree_view c.deref-in-SummarizePer-2.result.now)) (c.in_ok-operand-in-SummarizePer.operand, c.in_ok-operand-in-SummarizePer.per)
    (sym c.both.ensures ∙ c.in_ok-operand-in-SummarizePer.was) c.value_of-operand.ensures c.value_of-in-SummarizePer.ensures))
    c.summary.ensures)

pub value_of-summary-requires-in-SummarizeBy : goal.value_of-summary-requires-in-SummarizeBy
value_of-summary-requires-in-SummarizeBy g t c =
    λ κs o. (
      (let h = ap height (ap tree_view c.in-SummarizeBy.is ∙ summarize_by_is c.in-SummarizeBy.operand c.in-SummarizeBy.by c.in-SummarizeBy.items ∙ (λ i. trees.summarize_by (tree_view (sym c.deref-in-SummarizeBy.ensures i)) (attributes_view c.in-SummarizeBy.by) (summaries_view (sym c.deref-in-SummarizeBy-2.ensures.value i)))) in let low = le-max_right (height (tree_view c.deref-in-SummarizeBy.result.now)) (highest_summary (summaries_view c.deref-in-SummarizeBy-2.result.now)) in omega (arith, c.decreases, h, low)),
      (o, c.requires),
    )

pub value_of-returns-in_ok-projected_by-in-SummarizeBy : goal.value_of-returns-in_ok-projected_by-in-SummarizeBy
value_of-returns-in_ok-projected_by-in-SummarizeBy g t c =
    let world = seen_by c.args.lent.now in
    let tuples = reverse c.args.tuples.now in
    let is = ap tree_view c.in-SummarizeBy.is ∙ summarize_by_is c.in-SummarizeBy.operand c.in-SummarizeBy.by c.in-SummarizeBy.items
    ∙ (λ i. trees.summarize_by (tree_view (sym c.deref-in-SummarizeBy.ensures i)) (attributes_view c.in-SummarizeBy.by) (summaries_view (sym c.deref-in-SummarizeBy-2.ensures.value i))) in
    let given = summary_value (λ h. summary_attributes (entered_with h (with_tuples world.scope tuples)) (summaries_view c.deref-in-SummarizeBy-2.result.now)) (items_in_tuples world tuples (summaries_view c.deref-in-SummarizeBy-2.result.now)) in
    let by = postfix_value (trees.project (attributes_view c.in-SummarizeBy.by)) in
    rw is
    (answered_then (λ v. v) c.in_ok-operand-in-SummarizeBy.operand (value_of world tuples (tree_view c.deref-in-SummarizeBy.result.now)) (λ v. with_value (by v) (given v)) (λ v. v)
    c.summary-in-SummarizeBy-2.result c.in_ok-operand-in-SummarizeBy.ensures
    (answered_then (λ v. v) c.in_ok-projected_by-in-SummarizeBy.field-0 (by c.in_ok-operand-in-SummarizeBy.operand) (given c.in_ok-operand-in-SummarizeBy.operand) (λ v. v)
    c.summary-in-SummarizeBy-2.result c.in_ok-projected_by-in-SummarizeBy.ensures c.summary-in-SummarizeBy-2.ensures))

-- ---- WITH

pub value_of-bound-requires : goal.value_of-bound-requires
value_of-bound-requires g t c =
    λ κs o. (
      (let h = ap height (ap tree_view c.in-With.is ∙ binding_is c.in-With.items c.in-With.inner ∙ (λ i. trees.binding (named_view (sym c.deref-in-With.ensures.value i)) (tree_view (sym c.deref-in-With-2.ensures i)))) in omega (arith, c.decreases, h)),
      (o, c.requires),
    )

pub value_of-returns-in-With : goal.value_of-returns-in-With
value_of-returns-in-With g t c =
    let is = ap tree_view c.in-With.is ∙ binding_is c.in-With.items c.in-With.inner ∙ (λ i. trees.binding (named_view (sym c.deref-in-With.ensures.value i)) (tree_view (sym c.deref-in-With-2.ensures i))) in
    rw is c.bound.ensures

pub bound::bound-loop-item-init : goal.bound::bound-loop-item-init
bound::bound-loop-item-init g t c =
    let world = seen_by c.args.lent.now in
    ap (λ s. value_where_bound world (reverse s) (named_view c.args.items.now) (λ u. value_of world u (tree_view c.args.expr.now))) (sym c.in_ok-inner.ensures)

pub bound::bound-value_of-requires : goal.bound::bound-value_of-requires
bound::bound-value_of-requires g t c =
    λ κs o. (
      (let h = height_named c.args.items.now c.loop-item.item-index c.item-item.result c.loop-item-test.true c.item-item.is in let low = le-max_left (highest_named (named_view c.args.items.now)) (height (tree_view c.args.expr.now)) in omega (arith, c.decreases, h, low)),
      (o, c.requires),
    )

pub bound::bound-loop-item-preserved : goal.bound::bound-loop-item-preserved
bound::bound-loop-item-preserved g t c =
    let world = seen_by c.args.lent.now in
    let inside = λ (u : List Tuple). value_of world u (tree_view c.args.expr.now) in
    let place = c.loop-item.item-index in
    let seen = reverse c.loop-item.inner.items in
    let value : value_of world seen (tree_view c.item-item.result.value) ≡ Valued c.in_ok-value.value =
    subst (λ u. value_of world (reverse u) (tree_view c.item-item.result.value) ≡ Valued c.in_ok-value.value) c.deref.ensures.value c.in_ok-value.ensures in
    let tuple : (c.item-item.result.name, c.in_ok-value.value) ∷ [] ≡ c.in_ok-tuple_of_one.field-0 =
    valued_is ((c.item-item.result.name, c.in_ok-value.value) ∷ []) c.in_ok-tuple_of_one.field-0 c.in_ok-tuple_of_one.ensures in
    c.loop-item.invariant
    ∙ item_next world inside c.args.items.now place c.item-item.result seen c.loop-item-test.true c.item-item.is
    ∙ ap (λ o. with_value o (λ v. bound_from world inside c.args.items.now (place + 1) (((c.item-item.result.name, v) ∷ []) ∷ seen))) value
    ∙ ap (bound_from world inside c.args.items.now (place + 1)) (ap (λ u. u ∷ seen) tuple ∙ sym (reverse-append c.loop-item.inner.items (c.in_ok-tuple_of_one.field-0 ∷ [])) ∙ ap reverse (sym c.in_ok-push.ensures.items))

pub bound::bound-returns : goal.bound::bound-returns
bound::bound-returns g t c =
    let world = seen_by c.args.lent.now in
    let inside = λ (u : List Tuple). value_of world u (tree_view c.args.expr.now) in
    subst (Answers (λ (v : Val). v) c.value_of-2.result)
    (sym (c.loop-item.invariant ∙ past_items world inside c.args.items.now c.loop-item.item-index (reverse c.loop-item.inner.items) c.loop-item-test.false))
    (subst (λ u. Answers (λ (v : Val). v) c.value_of-2.result (value_of world (reverse u) (tree_view c.args.expr.now))) c.deref-2.ensures.value c.value_of-2.ensures)
