use Rattle.std.proofs.Common.{◌≡◌, ◌∙◌, ◌∷◌, ◌++◌, [], ℕ, arith, List, Err, ap, map, refl, subst, sym}
use Rattle.std.proofs.lemmas.List.{append-nil}
use Rattle.std.proofs.lemmas.Result.{err_from_is_err_and}
use Rattle.std.specs.Global.{Vec}
use Rattle.std.specs.Prelude.{OnOk}
use Rattle.td_check.specs.code.CheckViews.{added_view, bound_found, bounds_found, choice_of, headed_view, item_found, names_view, part_found, per_view, by_summary, per_summary, three_types_view, types_view, with_names}
use Rattle.td_check.specs.declared.rules.lists.Item.{Item}
use Rattle.td_check.specs.code.ItemViews.{items_view, named_item_view}
use Rattle.td_check.specs.model.Mentions.{in_tuples, relvars_in, relvars_in_all, relvars_in_items, relvars_in_named, relvars_where_bound, types_in, types_in_all, types_in_items, types_in_named, types_named_in}
use Rattle.td_check.specs.model.OperatorTypes as own
use Rattle.td_check.specs.code.PlaceViews.{scope_at, within_all}
use Rattle.td_check.specs.model.Scopes.{entered_with}
use Rattle.td_check.specs.model.StaticTypes.{items_of, named_types, type_of, types_of, with_items}
use denote.Param.Weighed.{most}
use Rattle.td_check.proofs.AlikeLaws.{answers_alike, most_take}
use Rattle.td_tree.specs.declared.expression.Expr.{Expr}
use Rattle.td_tree.proofs.expression.Expr.TheLaws.{the_size}
use Rattle.td_check.proofs.CheckedBindings.{mentioned_behind, one_found, one_refused, typed_behind}
use Rattle.td_check.proofs.CheckedItems.{held_of_added, held_of_per, in_tuples_of, items_given, items_left, items_refused, nothing_added, operand_and_items, per_after}
use Rattle.td_check.proofs.CheckedLists.{all_answered, all_named, checked_next, none_checked}
use Rattle.td_check.proofs.CheckedNames.{known_names, names_after, names_are, names_held, names_of_both, names_of_second}
use Rattle.td_check.proofs.CheckedRows.{items_are, mentioned_types, parts_are, relvars_are, relvars_of, relvars_of_item, relvars_of_items, relvars_of_part, relvars_of_parts, type_found, types_are, types_of_item, types_of_items, types_of_one, types_of_part, types_of_parts}
use Rattle.td_check.proofs.CheckedTypes.{choice_typed, headed_typed, inside_extended, inside_typed, per_typed, summary_by_typed, two_typed}
use Rattle.td_check.proofs.Gives.{Gives, answered_then}
use Rattle.td_check.proofs.expression.+check.Goals as goal
use Rattle.td_check.proofs.expression.+check.Goals.{check_items_inside-in-Rel+in_ok-inside-in-Rel+in_ok-items-in-Rel, check_items_inside-in_default}
use Rattle.td_tree.specs.code.Gatherings.{both_answers}
use Rattle.td_tree.specs.model.Outcomes.{Answers, Valued, with_value}
use Rattle.td_tree.specs.code.TreeViews.{attributes_view, heading_tree_view, named_view, summaries_view, tree_view, trees_view}
use Rattle.td_tree.specs.model.Trees as trees
use Rattle.td_tree.proofs.code_lemmas.Rows.{binding_is, extend_is, extend_setting_is, headed_relation_is, relation_is, select_is, summarize_by_is, summarize_per_is, tuple_is}
use Rattle.td_types.specs.code.Pairs.{pair_view}
use Rattle.td_types.specs.model.TypeLists.{heading_meant}
use Rattle.td_types.specs.model.Types.{Heading}
use Rattle.td_types.specs.declared.ty.Ty.{Ty}
use Rattle.td_types.specs.code.Views.{pairs_view, type_view}
use Rattle.td_types.proofs.Resolutions.{answers_still}

-- ---- a selector

pub check-returns-in_err-check_all-in-Select-clause-ty : goal.check-returns-in_err-check_all-in-Select-clause-ty
check-returns-in_err-check_all-in-Select-clause-ty t c =
    let p = err_from_is_err_and c.from_residual-in_err-check_all-in-Select.result c.from_residual-in_err-check_all-in-Select.ensures.1 in
    let is = ap tree_view c.in-Select.is ∙ select_is c.in-Select.ty c.in-Select.arguments ∙ ap (λ xs. trees.select c.in-Select.ty (trees_view xs)) (sym c.deref-in-Select.ensures.value) in
    rw (p.1, p.2, is)
    (answers_still (λ (ts : Vec Ty). map type_view ts.items) type_view _ (types_of (scope_at c.args.place.now) (trees_view c.deref-in-Select.result.now))
    (own.selector_type (scope_at c.args.place.now).types c.in-Select.ty) c.in_err-check_all-in-Select.ensures.types)

pub check-returns-in_ok-check_all-in-Select-clause-ty : goal.check-returns-in_ok-check_all-in-Select-clause-ty
check-returns-in_ok-check_all-in-Select-clause-ty t c =
    let is = ap tree_view c.in-Select.is ∙ select_is c.in-Select.ty c.in-Select.arguments ∙ ap (λ xs. trees.select c.in-Select.ty (trees_view xs)) (sym c.deref-in-Select.ensures.value) in
    rw is
    (answered_then (λ ts. map type_view ts.items) c.in_ok-check_all-in-Select.field-0 (types_of (scope_at c.args.place.now) (trees_view c.deref-in-Select.result.now))
    (own.selector_type (scope_at c.args.place.now).types c.in-Select.ty) type_view c.selector_type.result c.in_ok-check_all-in-Select.ensures.types
    (subst (λ o. Answers type_view c.selector_type.result o)
    (λ i. own.selector_type (c.types.ensures i) c.in-Select.ty (map type_view (c.deref-in-Select-2.ensures.value i))) c.selector_type.ensures))

pub check-returns-in_ok-check_all-in-Select-clause-names : goal.check-returns-in_ok-check_all-in-Select-clause-names
check-returns-in_ok-check_all-in-Select-clause-names t c =
    let is = ap tree_view c.in-Select.is ∙ select_is c.in-Select.ty c.in-Select.arguments ∙ ap (λ xs. trees.select c.in-Select.ty (trees_view xs)) (sym c.deref-in-Select.ensures.value) in
    let pushed = c.in_ok-push-in-Select.ensures.items ∙ ap (λ n. c.args.seen.now.types.items ++ (n ∷ [])) c.in_ok-try_clone-in-Select.ensures in
    names_are c.selector_type.result (scope_at c.args.place.now) (tree_view c.args.expr.now) (names_view c.args.seen.now) (names_view c.check_all.new.seen)
    (relvars_in_all (scope_at c.args.place.now) (trees_view c.deref-in-Select.result.now)) (c.in-Select.ty ∷ types_in_all (trees_view c.deref-in-Select.result.now))
    (ap (relvars_in (scope_at c.args.place.now)) is) (ap types_in is)
    (known_names _ c.selector_type.result
    (names_after (names_view c.args.seen.now) (c.args.seen.now.relvars.items, c.push.new.self.items) (names_view c.check_all.new.seen) [] (c.in-Select.ty ∷ [])
    (relvars_in_all (scope_at c.args.place.now) (trees_view c.deref-in-Select.result.now)) (types_in_all (trees_view c.deref-in-Select.result.now))
    (λ i. (sym (append-nil c.args.seen.now.relvars.items) i, pushed i)) c.in_ok-check_all-in-Select.ensures.names))

-- ---- RELATION and TUPLE

pub check_elements-check_all-requires : goal.check_elements-check_all-requires
check_elements-check_all-requires t c =
    let size = λ (x : Expr). the_size x in
    let front = c.but_for_alike.ensures.front in
    (omega (arith, c.decreases, ap (most size) front.1, most_take size front.0 c.args.elements.now), tt)

pub check_elements-returns : goal.check_elements-returns
check_elements-returns t c = (trees_view c.but_for_alike.result.now, c.but_for_alike.ensures.enough, c.check_all.ensures.types, c.check_all.ensures.names)

pub check-returns-in_err-check_elements-in-Relation-clause-ty : goal.check-returns-in_err-check_elements-in-Relation-clause-ty
check-returns-in_err-check_elements-in-Relation-clause-ty t c =
    let p = err_from_is_err_and c.from_residual-in_err-check_elements-in-Relation.result c.from_residual-in_err-check_elements-in-Relation.ensures.1 in
    let is = ap tree_view c.in-Relation.is ∙ relation_is c.in-Relation.elements ∙ ap (λ xs. trees.relation (trees_view xs)) (sym c.deref-in-Relation.ensures.value) in
    let found = c.in_err-check_elements-in-Relation.ensures in
    rw (p.1, p.2, is)
    (answers_alike type_view (Err c.in_err-check_elements-in-Relation.field-0.0) _ _ (found.1.listed (scope_at c.args.place.now))
    (answers_still (λ (ts : Vec Ty). map type_view ts.items) type_view _ (types_of (scope_at c.args.place.now) found.0) own.listed_type found.2))

pub check-returns-in_ok-check_elements-in-Relation-clause-ty : goal.check-returns-in_ok-check_elements-in-Relation-clause-ty
check-returns-in_ok-check_elements-in-Relation-clause-ty t c =
    let is = ap tree_view c.in-Relation.is ∙ relation_is c.in-Relation.elements ∙ ap (λ xs. trees.relation (trees_view xs)) (sym c.deref-in-Relation.ensures.value) in
    let found = c.in_ok-check_elements-in-Relation.ensures in
    rw is
    (answers_alike type_view c.listed_type.result _ _ (found.1.listed (scope_at c.args.place.now))
    (answered_then (λ ts. map type_view ts.items) c.in_ok-check_elements-in-Relation.field-0 (types_of (scope_at c.args.place.now) found.0)
    own.listed_type type_view c.listed_type.result found.2
    (subst (λ ts. Answers type_view c.listed_type.result (own.listed_type (map type_view ts))) c.deref-in-Relation-2.ensures.value c.listed_type.ensures)))

pub check-returns-in_ok-check_elements-in-Relation-clause-names : goal.check-returns-in_ok-check_elements-in-Relation-clause-names
check-returns-in_ok-check_elements-in-Relation-clause-names t c =
    let is = ap tree_view c.in-Relation.is ∙ relation_is c.in-Relation.elements ∙ ap (λ xs. trees.relation (trees_view xs)) (sym c.deref-in-Relation.ensures.value) in
    let found = c.in_ok-check_elements-in-Relation.ensures in
    names_are c.listed_type.result (scope_at c.args.place.now) (tree_view c.args.expr.now) (names_view c.args.seen.now) (names_view c.check_elements.new.seen)
    (relvars_in_all (scope_at c.args.place.now) found.0) (types_in_all found.0)
    (ap (relvars_in (scope_at c.args.place.now)) is ∙ found.1.relvars (scope_at c.args.place.now)) (ap types_in is ∙ found.1.types)
    (known_names _ c.listed_type.result found.3)

pub check-returns-in_err-check_named-in-Tuple-clause-ty : goal.check-returns-in_err-check_named-in-Tuple-clause-ty
check-returns-in_err-check_named-in-Tuple-clause-ty t c =
    let p = err_from_is_err_and c.from_residual-in_err-check_named-in-Tuple.result c.from_residual-in_err-check_named-in-Tuple.ensures.1 in
    let is = ap tree_view c.in-Tuple.is ∙ tuple_is c.in-Tuple.parts ∙ ap (λ xs. trees.tuple (named_view xs)) (sym c.deref-in-Tuple.ensures.value) in
    rw (p.1, p.2, is)
    (answers_still (λ (ts : Vec (List ℕ × Ty)). pairs_view ts.items) type_view _ (named_types (scope_at c.args.place.now) (named_view c.deref-in-Tuple.result.now))
    own.tuple_type c.in_err-check_named-in-Tuple.ensures.types)

pub check-returns-in_ok-check_named-in-Tuple-clause-ty : goal.check-returns-in_ok-check_named-in-Tuple-clause-ty
check-returns-in_ok-check_named-in-Tuple-clause-ty t c =
    let is = ap tree_view c.in-Tuple.is ∙ tuple_is c.in-Tuple.parts ∙ ap (λ xs. trees.tuple (named_view xs)) (sym c.deref-in-Tuple.ensures.value) in
    rw is
    (answered_then (λ ts. pairs_view ts.items) c.in_ok-check_named-in-Tuple.field-0 (named_types (scope_at c.args.place.now) (named_view c.deref-in-Tuple.result.now))
    own.tuple_type type_view c.tuple_type.result c.in_ok-check_named-in-Tuple.ensures.types c.tuple_type.ensures)

pub check-returns-in_ok-check_named-in-Tuple-clause-names : goal.check-returns-in_ok-check_named-in-Tuple-clause-names
check-returns-in_ok-check_named-in-Tuple-clause-names t c =
    let is = ap tree_view c.in-Tuple.is ∙ tuple_is c.in-Tuple.parts ∙ ap (λ xs. trees.tuple (named_view xs)) (sym c.deref-in-Tuple.ensures.value) in
    names_are c.tuple_type.result (scope_at c.args.place.now) (tree_view c.args.expr.now) (names_view c.args.seen.now) (names_view c.check_named.new.seen)
    (relvars_in_named (scope_at c.args.place.now) (named_view c.deref-in-Tuple.result.now)) (types_in_named (named_view c.deref-in-Tuple.result.now))
    (ap (relvars_in (scope_at c.args.place.now)) is) (ap types_in is)
    (known_names _ c.tuple_type.result c.in_ok-check_named-in-Tuple.ensures.names)

-- ---- a comparison

pub check-returns-in-Compare-clause-ty : goal.check-returns-in-Compare-clause-ty
check-returns-in-Compare-clause-ty t c =
    let is = ap tree_view c.in-Compare.is ∙ (λ i. trees.compare (tree_view (sym c.deref-in-Compare.ensures i)) c.in-Compare.op (tree_view (sym c.deref-in-Compare-2.ensures i))) in
    rw is
    (two_typed (own.comparison_type c.in-Compare.op) (type_of (scope_at c.args.place.now) (tree_view c.deref-in-Compare.result.now))
    (type_of (scope_at c.args.place.now) (tree_view c.deref-in-Compare-2.result.now))
    c.check-first-in-Compare.result c.check-second-in-Compare.result c.type_of_comparison.result c.check-first-in-Compare.ensures.ty c.check-second-in-Compare.ensures.ty
    (subst (λ r. Gives types_view r (λ both. own.comparison_type c.in-Compare.op both.0 both.1) type_view c.type_of_comparison.result) c.both-in-Compare.ensures c.type_of_comparison.ensures))

pub check-returns-in-Compare-clause-names : goal.check-returns-in-Compare-clause-names
check-returns-in-Compare-clause-names t c =
    let is = ap tree_view c.in-Compare.is ∙ (λ i. trees.compare (tree_view (sym c.deref-in-Compare.ensures i)) c.in-Compare.op (tree_view (sym c.deref-in-Compare-2.ensures i))) in
    let r = relvars_in (scope_at c.args.place.now) (tree_view c.deref-in-Compare.result.now) in
    let r2 = relvars_in (scope_at c.args.place.now) (tree_view c.deref-in-Compare-2.result.now) in
    let ts = types_in (tree_view c.deref-in-Compare.result.now) in
    let ts2 = types_in (tree_view c.deref-in-Compare-2.result.now) in
    names_are c.type_of_comparison.result (scope_at c.args.place.now) (tree_view c.args.expr.now) (names_view c.args.seen.now) (names_view c.check-second-in-Compare.new.seen)
    (r ++ r2) (ts ++ ts2) (ap (relvars_in (scope_at c.args.place.now)) is) (ap types_in is)
    (names_held types_view (both_answers c.check-first-in-Compare.result c.check-second-in-Compare.result) (λ both. own.comparison_type c.in-Compare.op both.0 both.1)
    type_view c.type_of_comparison.result (names_view c.args.seen.now) (names_view c.check-second-in-Compare.new.seen) (r ++ r2) (ts ++ ts2)
    (subst (λ r. Gives types_view r (λ both. own.comparison_type c.in-Compare.op both.0 both.1) type_view c.type_of_comparison.result) c.both-in-Compare.ensures c.type_of_comparison.ensures)
    (names_of_both c.check-first-in-Compare.result c.check-second-in-Compare.result (names_view c.args.seen.now) (names_view c.check-first-in-Compare.new.seen)
    (names_view c.check-second-in-Compare.new.seen) r ts r2 ts2 c.check-first-in-Compare.ensures.names c.check-second-in-Compare.ensures.names))

-- ---- the lists

pub check_all-loop-expr-init : goal.check_all-loop-expr-init
check_all-loop-expr-init t c =
    let empty : map type_view c.in_ok-types.types.items ≡ [] = ap (map type_view) c.in_ok-types.ensures.items in
    rw (c.new-causes.ensures, empty) (none_checked (type_found (scope_at c.args.place.now)) (relvars_of (scope_at c.args.place.now)) types_of_one (names_view c.args.seen.now))

pub check_items-loop-item-init : goal.check_items-loop-item-init
check_items-loop-item-init t c =
    let empty : items_view c.in_ok-added.added.items ≡ [] = ap items_view c.in_ok-added.ensures.items in
    rw (c.new-causes.ensures, empty) (none_checked (item_found (scope_at c.args.place.now)) (relvars_of_item (scope_at c.args.place.now)) types_of_item (names_view c.args.seen.now))

pub check_named-loop-part-init : goal.check_named-loop-part-init
check_named-loop-part-init t c =
    let empty : pairs_view c.in_ok-attributes.attributes.items ≡ [] = ap pairs_view c.in_ok-attributes.ensures.items in
    rw (c.new-causes.ensures, empty) (none_checked (part_found (scope_at c.args.place.now)) (relvars_of_part (scope_at c.args.place.now)) types_of_part (names_view c.args.seen.now))

-- ---- operators

pub check-returns-in_ok-operand-in-Restriction-clause-ty : goal.check-returns-in_ok-operand-in-Restriction-clause-ty
check-returns-in_ok-operand-in-Restriction-clause-ty t c =
    let is = ap tree_view c.in-Restriction.is ∙ (λ i. trees.restriction (tree_view (sym c.deref-in-Restriction.ensures i)) (tree_view (sym c.deref-in-Restriction-2.ensures i))) in
    rw is
    (subst (Answers type_view c.type_of_restriction.result)
    (inside_typed (type_of (scope_at c.args.place.now) (tree_view c.deref-in-Restriction.result.now)) (type_view c.in_ok-operand-in-Restriction.operand) c.in_ok-operand-in-Restriction.ensures.ty
    (λ h. type_of (entered_with h (scope_at c.args.place.now)) (tree_view c.deref-in-Restriction-2.result.now)) own.restriction_type)
    (c.type_of_restriction.ensures (own.over_relation (type_view c.in_ok-operand-in-Restriction.operand) (λ h. type_of (entered_with h (scope_at c.args.place.now)) (tree_view c.deref-in-Restriction-2.result.now))) c.check_inside-condition.ensures.ty))

pub check-returns-in_ok-operand-in-Restriction-clause-names : goal.check-returns-in_ok-operand-in-Restriction-clause-names
check-returns-in_ok-operand-in-Restriction-clause-names t c =
    let is = ap tree_view c.in-Restriction.is ∙ (λ i. trees.restriction (tree_view (sym c.deref-in-Restriction.ensures i)) (tree_view (sym c.deref-in-Restriction-2.ensures i))) in
    let inside = ap (λ o. relvars_in (in_tuples (scope_at c.args.place.now) o) (tree_view c.deref-in-Restriction-2.result.now)) c.in_ok-operand-in-Restriction.ensures.ty in
    names_are c.type_of_restriction.result (scope_at c.args.place.now) (tree_view c.args.expr.now) (names_view c.args.seen.now) (names_view c.check_inside-condition.new.seen)
    (relvars_in (scope_at c.args.place.now) (tree_view c.deref-in-Restriction.result.now) ++ relvars_in (in_tuples (scope_at c.args.place.now) (Valued (type_view c.in_ok-operand-in-Restriction.operand))) (tree_view c.deref-in-Restriction-2.result.now)) (types_in (tree_view c.deref-in-Restriction.result.now) ++ types_in (tree_view c.deref-in-Restriction-2.result.now))
    (ap (relvars_in (scope_at c.args.place.now)) is ∙ ap (λ ns. relvars_in (scope_at c.args.place.now) (tree_view c.deref-in-Restriction.result.now) ++ ns) inside) (ap types_in is)
    (names_held type_view c.check_inside-condition.result (own.restriction_type (type_view c.in_ok-operand-in-Restriction.operand)) type_view c.type_of_restriction.result
    (names_view c.args.seen.now) (names_view c.check_inside-condition.new.seen)
    (relvars_in (scope_at c.args.place.now) (tree_view c.deref-in-Restriction.result.now) ++ relvars_in (in_tuples (scope_at c.args.place.now) (Valued (type_view c.in_ok-operand-in-Restriction.operand))) (tree_view c.deref-in-Restriction-2.result.now)) (types_in (tree_view c.deref-in-Restriction.result.now) ++ types_in (tree_view c.deref-in-Restriction-2.result.now)) c.type_of_restriction.ensures
    (names_of_second c.check_inside-condition.result (names_view c.args.seen.now) (names_view c.check-in-Restriction.new.seen) (names_view c.check_inside-condition.new.seen)
    (relvars_in (scope_at c.args.place.now) (tree_view c.deref-in-Restriction.result.now)) (types_in (tree_view c.deref-in-Restriction.result.now)) (relvars_in (in_tuples (scope_at c.args.place.now) (Valued (type_view c.in_ok-operand-in-Restriction.operand))) (tree_view c.deref-in-Restriction-2.result.now)) (types_in (tree_view c.deref-in-Restriction-2.result.now))
    c.in_ok-operand-in-Restriction.ensures.names c.check_inside-condition.ensures.names))

pub check-returns-in-Binary : goal.check-returns-in-Binary
check-returns-in-Binary t c =
    let is = ap tree_view c.in-Binary.is ∙ (λ i. trees.binary (tree_view (sym c.deref-in-Binary.ensures i)) c.in-Binary.op (tree_view (sym c.deref-in-Binary-2.ensures i))) in
    let gives = subst (λ r. Gives types_view r (λ both. own.operator_type c.in-Binary.op both.0 both.1) type_view c.type_of_operator.result) c.both.ensures c.type_of_operator.ensures in
    record {
      ty =
          rw is
          (two_typed (own.operator_type c.in-Binary.op) (type_of (scope_at c.args.place.now) (tree_view c.deref-in-Binary.result.now)) (type_of (scope_at c.args.place.now) (tree_view c.deref-in-Binary-2.result.now))
          c.check-first.result c.check-second.result c.type_of_operator.result c.check-first.ensures.ty c.check-second.ensures.ty gives);
      names =
          names_are c.type_of_operator.result (scope_at c.args.place.now) (tree_view c.args.expr.now) (names_view c.args.seen.now) (names_view c.check-second.new.seen)
          (relvars_in (scope_at c.args.place.now) (tree_view c.deref-in-Binary.result.now) ++ relvars_in (scope_at c.args.place.now) (tree_view c.deref-in-Binary-2.result.now)) (types_in (tree_view c.deref-in-Binary.result.now) ++ types_in (tree_view c.deref-in-Binary-2.result.now))
          (ap (relvars_in (scope_at c.args.place.now)) is) (ap types_in is)
          (names_held types_view (both_answers c.check-first.result c.check-second.result) (λ both. own.operator_type c.in-Binary.op both.0 both.1)
          type_view c.type_of_operator.result (names_view c.args.seen.now) (names_view c.check-second.new.seen) (relvars_in (scope_at c.args.place.now) (tree_view c.deref-in-Binary.result.now) ++ relvars_in (scope_at c.args.place.now) (tree_view c.deref-in-Binary-2.result.now)) (types_in (tree_view c.deref-in-Binary.result.now) ++ types_in (tree_view c.deref-in-Binary-2.result.now)) gives
          (names_of_both c.check-first.result c.check-second.result (names_view c.args.seen.now) (names_view c.check-first.new.seen)
          (names_view c.check-second.new.seen) (relvars_in (scope_at c.args.place.now) (tree_view c.deref-in-Binary.result.now)) (types_in (tree_view c.deref-in-Binary.result.now)) (relvars_in (scope_at c.args.place.now) (tree_view c.deref-in-Binary-2.result.now)) (types_in (tree_view c.deref-in-Binary-2.result.now)) c.check-first.ensures.names c.check-second.ensures.names));
    }

-- ---- RELATION with a heading

pub check-returns-in_ok-add_types_in-in-HeadedRelation-clause-ty : goal.check-returns-in_ok-add_types_in-in-HeadedRelation-clause-ty
check-returns-in_ok-add_types_in-in-HeadedRelation-clause-ty t c =
    let is = ap tree_view c.in-HeadedRelation.is ∙ headed_relation_is c.in-HeadedRelation.heading c.in-HeadedRelation.elements ∙ ap (λ xs. trees.headed_relation (heading_tree_view c.in-HeadedRelation.heading.items) (trees_view xs)) (sym c.deref-in-HeadedRelation-2.ensures.value) in
    let gives = subst (λ r. Gives headed_view r (λ parts. own.headed_type parts.0 parts.1) type_view c.type_of_headed.result) c.both-in-HeadedRelation.ensures c.type_of_headed.ensures in
    rw is
    (answers_alike type_view c.type_of_headed.result _ _ (c.check_elements-elements.ensures.1.headed (scope_at c.args.place.now) (heading_meant (scope_at c.args.place.now).types (heading_tree_view c.in-HeadedRelation.heading.items)))
    (headed_typed (heading_meant (scope_at c.args.place.now).types (heading_tree_view c.in-HeadedRelation.heading.items)) (types_of (scope_at c.args.place.now) c.check_elements-elements.ensures.0) c.resolve_heading.result c.check_elements-elements.result c.type_of_headed.result
    (subst (Answers (λ h. h) c.resolve_heading.result)
    (λ i. heading_meant (c.types-in-HeadedRelation.ensures i) (heading_tree_view (c.deref-in-HeadedRelation-3.ensures.value i))) c.resolve_heading.ensures)
    c.check_elements-elements.ensures.2 gives))

pub check-returns-in_ok-add_types_in-in-HeadedRelation-clause-names : goal.check-returns-in_ok-add_types_in-in-HeadedRelation-clause-names
check-returns-in_ok-add_types_in-in-HeadedRelation-clause-names t c =
    let is = ap tree_view c.in-HeadedRelation.is ∙ headed_relation_is c.in-HeadedRelation.heading c.in-HeadedRelation.elements ∙ ap (λ xs. trees.headed_relation (heading_tree_view c.in-HeadedRelation.heading.items) (trees_view xs)) (sym c.deref-in-HeadedRelation-2.ensures.value) in
    let gives = subst (λ r. Gives headed_view r (λ parts. own.headed_type parts.0 parts.1) type_view c.type_of_headed.result) c.both-in-HeadedRelation.ensures c.type_of_headed.ensures in
    let named = c.in_ok-add_types_in-in-HeadedRelation.ensures ∙ ap (λ xs. c.args.seen.now.types.items ++ types_named_in (heading_tree_view xs)) c.deref-in-HeadedRelation.ensures.value in
    let n = names_view c.args.seen.now in
    let l = names_view c.check_elements-elements.new.seen in
    let rs = relvars_in_all (scope_at c.args.place.now) c.check_elements-elements.ensures.0 in
    let ts = types_in_all c.check_elements-elements.ensures.0 in
    let hs = types_named_in (heading_tree_view c.in-HeadedRelation.heading.items) in
    names_are c.type_of_headed.result (scope_at c.args.place.now) (tree_view c.args.expr.now) n l rs (hs ++ ts) (ap (relvars_in (scope_at c.args.place.now)) is ∙ c.check_elements-elements.ensures.1.relvars (scope_at c.args.place.now)) (ap types_in is ∙ ap (λ xs. hs ++ xs) c.check_elements-elements.ensures.1.types)
    (names_held headed_view (both_answers c.resolve_heading.result c.check_elements-elements.result) (λ parts. own.headed_type parts.0 parts.1) type_view c.type_of_headed.result
    n l rs (hs ++ ts) gives
    (names_of_both c.resolve_heading.result c.check_elements-elements.result n (c.args.seen.now.relvars.items, c.add_types_in.new.types.items) l [] hs rs ts
    (known_names _ c.resolve_heading.result (λ i. (sym (append-nil c.args.seen.now.relvars.items) i, named i)))
    c.check_elements-elements.ensures.3))

-- ---- EXTEND

pub check-returns-in_ok-operand-in-Extend-clause-ty : goal.check-returns-in_ok-operand-in-Extend-clause-ty
check-returns-in_ok-operand-in-Extend-clause-ty t c =
    let is = ap tree_view c.in-Extend.is ∙ extend_is c.in-Extend.operand c.in-Extend.parts ∙ (λ i. trees.extend (tree_view (sym c.deref-in-Extend.ensures i)) (named_view (sym c.deref-in-Extend-2.ensures.value i))) in
    rw is
    (subst (Answers type_view c.type_of_extension.result)
    (inside_extended own.extension_type (type_of (scope_at c.args.place.now) (tree_view c.deref-in-Extend.result.now)) (type_view c.in_ok-operand-in-Extend.operand) c.in_ok-operand-in-Extend.ensures.ty (λ h. named_types (entered_with h (scope_at c.args.place.now)) (named_view c.deref-in-Extend-2.result.now)))
    (c.type_of_extension.ensures (own.over_relation (type_view c.in_ok-operand-in-Extend.operand) (λ h. named_types (entered_with h (scope_at c.args.place.now)) (named_view c.deref-in-Extend-2.result.now))) c.check_named_inside-attributes.ensures.types))

pub check-returns-in_ok-operand-in-Extend-clause-names : goal.check-returns-in_ok-operand-in-Extend-clause-names
check-returns-in_ok-operand-in-Extend-clause-names t c =
    let is = ap tree_view c.in-Extend.is ∙ extend_is c.in-Extend.operand c.in-Extend.parts ∙ (λ i. trees.extend (tree_view (sym c.deref-in-Extend.ensures i)) (named_view (sym c.deref-in-Extend-2.ensures.value i))) in
    let inside = ap (λ o. relvars_in_named (in_tuples (scope_at c.args.place.now) o) (named_view c.deref-in-Extend-2.result.now)) c.in_ok-operand-in-Extend.ensures.ty in
    let n = names_view c.args.seen.now in
    let l = names_view c.check_named_inside-attributes.new.seen in
    let rs = relvars_in (scope_at c.args.place.now) (tree_view c.deref-in-Extend.result.now) in
    let ps = relvars_in_named (in_tuples (scope_at c.args.place.now) (Valued (type_view c.in_ok-operand-in-Extend.operand))) (named_view c.deref-in-Extend-2.result.now) in
    names_are c.type_of_extension.result (scope_at c.args.place.now) (tree_view c.args.expr.now) n l (rs ++ ps) (types_in (tree_view c.deref-in-Extend.result.now) ++ types_in_named (named_view c.deref-in-Extend-2.result.now))
    (ap (relvars_in (scope_at c.args.place.now)) is ∙ ap (λ ns. rs ++ ns) inside) (ap types_in is)
    (names_held (λ (ts : Vec (List ℕ × Ty)). pairs_view ts.items) c.check_named_inside-attributes.result
    (λ attributes. own.over_relation (type_view c.in_ok-operand-in-Extend.operand) (λ h. own.extension_type h attributes)) type_view c.type_of_extension.result
    n l (rs ++ ps) (types_in (tree_view c.deref-in-Extend.result.now) ++ types_in_named (named_view c.deref-in-Extend-2.result.now)) c.type_of_extension.ensures
    (names_of_second c.check_named_inside-attributes.result n (names_view c.check-in-Extend.new.seen) l rs (types_in (tree_view c.deref-in-Extend.result.now)) ps (types_in_named (named_view c.deref-in-Extend-2.result.now))
    c.in_ok-operand-in-Extend.ensures.names c.check_named_inside-attributes.ensures.names))

pub check-returns-in_ok-operand-in-ExtendSetting-clause-ty : goal.check-returns-in_ok-operand-in-ExtendSetting-clause-ty
check-returns-in_ok-operand-in-ExtendSetting-clause-ty t c =
    let is = ap tree_view c.in-ExtendSetting.is ∙ extend_setting_is c.in-ExtendSetting.operand c.in-ExtendSetting.settings ∙ (λ i. trees.extend_setting (tree_view (sym c.deref-in-ExtendSetting.ensures i)) (named_view (sym c.deref-in-ExtendSetting-2.ensures.value i))) in
    rw is
    (subst (Answers type_view c.type_of_setting.result)
    (inside_extended own.setting_type (type_of (scope_at c.args.place.now) (tree_view c.deref-in-ExtendSetting.result.now)) (type_view c.in_ok-operand-in-ExtendSetting.operand) c.in_ok-operand-in-ExtendSetting.ensures.ty (λ h. named_types (entered_with h (scope_at c.args.place.now)) (named_view c.deref-in-ExtendSetting-2.result.now)))
    (c.type_of_setting.ensures (own.over_relation (type_view c.in_ok-operand-in-ExtendSetting.operand) (λ h. named_types (entered_with h (scope_at c.args.place.now)) (named_view c.deref-in-ExtendSetting-2.result.now))) c.check_named_inside-attributes-in-ExtendSetting.ensures.types))

pub check-returns-in_ok-operand-in-ExtendSetting-clause-names : goal.check-returns-in_ok-operand-in-ExtendSetting-clause-names
check-returns-in_ok-operand-in-ExtendSetting-clause-names t c =
    let is = ap tree_view c.in-ExtendSetting.is ∙ extend_setting_is c.in-ExtendSetting.operand c.in-ExtendSetting.settings ∙ (λ i. trees.extend_setting (tree_view (sym c.deref-in-ExtendSetting.ensures i)) (named_view (sym c.deref-in-ExtendSetting-2.ensures.value i))) in
    let inside = ap (λ o. relvars_in_named (in_tuples (scope_at c.args.place.now) o) (named_view c.deref-in-ExtendSetting-2.result.now)) c.in_ok-operand-in-ExtendSetting.ensures.ty in
    let n = names_view c.args.seen.now in
    let l = names_view c.check_named_inside-attributes-in-ExtendSetting.new.seen in
    let rs = relvars_in (scope_at c.args.place.now) (tree_view c.deref-in-ExtendSetting.result.now) in
    let ps = relvars_in_named (in_tuples (scope_at c.args.place.now) (Valued (type_view c.in_ok-operand-in-ExtendSetting.operand))) (named_view c.deref-in-ExtendSetting-2.result.now) in
    names_are c.type_of_setting.result (scope_at c.args.place.now) (tree_view c.args.expr.now) n l (rs ++ ps) (types_in (tree_view c.deref-in-ExtendSetting.result.now) ++ types_in_named (named_view c.deref-in-ExtendSetting-2.result.now))
    (ap (relvars_in (scope_at c.args.place.now)) is ∙ ap (λ ns. rs ++ ns) inside) (ap types_in is)
    (names_held (λ (ts : Vec (List ℕ × Ty)). pairs_view ts.items) c.check_named_inside-attributes-in-ExtendSetting.result
    (λ attributes. own.over_relation (type_view c.in_ok-operand-in-ExtendSetting.operand) (λ h. own.setting_type h attributes)) type_view c.type_of_setting.result
    n l (rs ++ ps) (types_in (tree_view c.deref-in-ExtendSetting.result.now) ++ types_in_named (named_view c.deref-in-ExtendSetting-2.result.now)) c.type_of_setting.ensures
    (names_of_second c.check_named_inside-attributes-in-ExtendSetting.result n (names_view c.check-in-ExtendSetting.new.seen) l rs (types_in (tree_view c.deref-in-ExtendSetting.result.now)) ps (types_in_named (named_view c.deref-in-ExtendSetting-2.result.now))
    c.in_ok-operand-in-ExtendSetting.ensures.names c.check_named_inside-attributes-in-ExtendSetting.ensures.names))

-- ---- IF

pub check-returns-in-If-clause-ty : goal.check-returns-in-If-clause-ty
check-returns-in-If-clause-ty t c =
    let is = ap tree_view c.in-If.is ∙ (λ i. trees.choice (tree_view (sym c.deref-in-If.ensures i)) (tree_view (sym c.deref-in-If-2.ensures i)) (tree_view (sym c.deref-in-If-3.ensures i))) in
    let gives = subst (λ r. Gives three_types_view r choice_of type_view c.type_of_choice.result) (c.both-in-If-2.ensures ∙ ap (both_answers c.check-condition.result) c.both-in-If.ensures) c.type_of_choice.ensures in
    rw is
    (choice_typed (type_of (scope_at c.args.place.now) (tree_view c.deref-in-If.result.now)) (type_of (scope_at c.args.place.now) (tree_view c.deref-in-If-2.result.now)) (type_of (scope_at c.args.place.now) (tree_view c.deref-in-If-3.result.now)) c.check-condition.result c.check-first-in-If.result c.check-second-in-If.result c.type_of_choice.result
    c.check-condition.ensures.ty c.check-first-in-If.ensures.ty c.check-second-in-If.ensures.ty gives)

pub check-returns-in-If-clause-names : goal.check-returns-in-If-clause-names
check-returns-in-If-clause-names t c =
    let is = ap tree_view c.in-If.is ∙ (λ i. trees.choice (tree_view (sym c.deref-in-If.ensures i)) (tree_view (sym c.deref-in-If-2.ensures i)) (tree_view (sym c.deref-in-If-3.ensures i))) in
    let gives = subst (λ r. Gives three_types_view r choice_of type_view c.type_of_choice.result) (c.both-in-If-2.ensures ∙ ap (both_answers c.check-condition.result) c.both-in-If.ensures) c.type_of_choice.ensures in
    let n = names_view c.args.seen.now in
    let l = names_view c.check-second-in-If.new.seen in
    let cs = relvars_in (scope_at c.args.place.now) (tree_view c.deref-in-If.result.now) in
    let rs = relvars_in (scope_at c.args.place.now) (tree_view c.deref-in-If-2.result.now) ++ relvars_in (scope_at c.args.place.now) (tree_view c.deref-in-If-3.result.now) in
    let ts = types_in (tree_view c.deref-in-If-2.result.now) ++ types_in (tree_view c.deref-in-If-3.result.now) in
    names_are c.type_of_choice.result (scope_at c.args.place.now) (tree_view c.args.expr.now) n l (cs ++ rs) (types_in (tree_view c.deref-in-If.result.now) ++ ts) (ap (relvars_in (scope_at c.args.place.now)) is) (ap types_in is)
    (names_held three_types_view (both_answers c.check-condition.result (both_answers c.check-first-in-If.result c.check-second-in-If.result)) choice_of type_view c.type_of_choice.result
    n l (cs ++ rs) (types_in (tree_view c.deref-in-If.result.now) ++ ts) gives
    (names_of_both c.check-condition.result (both_answers c.check-first-in-If.result c.check-second-in-If.result) n (names_view c.check-condition.new.seen) l cs (types_in (tree_view c.deref-in-If.result.now)) rs ts
    c.check-condition.ensures.names
    (names_of_both c.check-first-in-If.result c.check-second-in-If.result (names_view c.check-condition.new.seen) (names_view c.check-first-in-If.new.seen) l
    (relvars_in (scope_at c.args.place.now) (tree_view c.deref-in-If-2.result.now)) (types_in (tree_view c.deref-in-If-2.result.now)) (relvars_in (scope_at c.args.place.now) (tree_view c.deref-in-If-3.result.now)) (types_in (tree_view c.deref-in-If-3.result.now)) c.check-first-in-If.ensures.names c.check-second-in-If.ensures.names)))

-- ---- the lists, element by element

pub check_all-loop-expr-preserved : goal.check_all-loop-expr-preserved
check_all-loop-expr-preserved t c =
    let scope = scope_at c.args.place.now in
    checked_next type_view (type_found scope) (relvars_of scope) types_of_one c.args.exprs.now c.loop-expr.expr-index c.loop-expr-test.true c.expr-item.is
    (names_view c.args.seen.now) (names_view c.loop-expr.seen) (names_view c.check.new.seen) c.check.result c.loop-expr.invariant c.check.ensures.ty c.check.ensures.names
    c.in_ok-collect.ensures

pub check_all-returns-clause-types : goal.check_all-returns-clause-types
check_all-returns-clause-types t c =
    all_answered (λ (v : Vec Ty). map type_view v.items) (type_found (scope_at c.args.place.now)) (relvars_of (scope_at c.args.place.now)) types_of_one c.args.exprs.now c.loop-expr.expr-index c.loop-expr-test.false c.loop-expr.causes c.loop-expr.types c.finish.result c.finish.ensures
    (names_view c.args.seen.now) (names_view c.loop-expr.seen) c.loop-expr.invariant _ (types_are (scope_at c.args.place.now) c.args.exprs.now)

pub check_all-returns-clause-names : goal.check_all-returns-clause-names
check_all-returns-clause-names t c =
    all_named (λ (v : Vec Ty). map type_view v.items) (type_found (scope_at c.args.place.now)) (relvars_of (scope_at c.args.place.now)) types_of_one c.args.exprs.now c.loop-expr.expr-index c.loop-expr-test.false c.loop-expr.causes c.loop-expr.types c.finish.result c.finish.ensures
    (names_view c.args.seen.now) (names_view c.loop-expr.seen) c.loop-expr.invariant _ _ (relvars_are (scope_at c.args.place.now) c.args.exprs.now) (mentioned_types c.args.exprs.now)

pub check_named-loop-part-preserved : goal.check_named-loop-part-preserved
check_named-loop-part-preserved t c =
    let scope = scope_at c.args.place.now in
    checked_next pair_view (part_found scope) (relvars_of_part scope) types_of_part c.args.parts.now c.loop-part.part-index c.loop-part-test.true c.part-item.is
    (names_view c.args.seen.now) (names_view c.loop-part.seen) (names_view c.check_part.new.seen) c.check_part.result c.loop-part.invariant c.check_part.ensures.part c.check_part.ensures.names
    c.in_ok-collect.ensures

pub check_named-returns-clause-types : goal.check_named-returns-clause-types
check_named-returns-clause-types t c =
    all_answered (λ (v : Vec (List ℕ × Ty)). map pair_view v.items) (part_found (scope_at c.args.place.now)) (relvars_of_part (scope_at c.args.place.now)) types_of_part c.args.parts.now c.loop-part.part-index c.loop-part-test.false c.loop-part.causes c.loop-part.attributes c.finish.result c.finish.ensures
    (names_view c.args.seen.now) (names_view c.loop-part.seen) c.loop-part.invariant _ (parts_are (scope_at c.args.place.now) c.args.parts.now)

pub check_named-returns-clause-names : goal.check_named-returns-clause-names
check_named-returns-clause-names t c =
    all_named (λ (v : Vec (List ℕ × Ty)). map pair_view v.items) (part_found (scope_at c.args.place.now)) (relvars_of_part (scope_at c.args.place.now)) types_of_part c.args.parts.now c.loop-part.part-index c.loop-part-test.false c.loop-part.causes c.loop-part.attributes c.finish.result c.finish.ensures
    (names_view c.args.seen.now) (names_view c.loop-part.seen) c.loop-part.invariant _ _ (relvars_of_parts (scope_at c.args.place.now) c.args.parts.now) (types_of_parts c.args.parts.now)

pub check_items-loop-item-preserved : goal.check_items-loop-item-preserved
check_items-loop-item-preserved t c =
    let scope = scope_at c.args.place.now in
    checked_next named_item_view (item_found scope) (relvars_of_item scope) types_of_item c.args.items.now c.loop-item.item-index c.loop-item-test.true c.item-item.is
    (names_view c.args.seen.now) (names_view c.loop-item.seen) (names_view c.check_item.new.seen) c.check_item.result c.loop-item.invariant c.check_item.ensures.item c.check_item.ensures.names
    c.in_ok-collect.ensures

pub check_items-returns-clause-types : goal.check_items-returns-clause-types
check_items-returns-clause-types t c =
    all_answered (λ (v : Vec (List ℕ × Item)). map named_item_view v.items) (item_found (scope_at c.args.place.now)) (relvars_of_item (scope_at c.args.place.now)) types_of_item c.args.items.now c.loop-item.item-index c.loop-item-test.false c.loop-item.causes c.loop-item.added c.finish.result c.finish.ensures
    (names_view c.args.seen.now) (names_view c.loop-item.seen) c.loop-item.invariant _ (items_are (scope_at c.args.place.now) c.args.items.now)

pub check_items-returns-clause-names : goal.check_items-returns-clause-names
check_items-returns-clause-names t c =
    all_named (λ (v : Vec (List ℕ × Item)). map named_item_view v.items) (item_found (scope_at c.args.place.now)) (relvars_of_item (scope_at c.args.place.now)) types_of_item c.args.items.now c.loop-item.item-index c.loop-item-test.false c.loop-item.causes c.loop-item.added c.finish.result c.finish.ensures
    (names_view c.args.seen.now) (names_view c.loop-item.seen) c.loop-item.invariant _ _ (relvars_of_items (scope_at c.args.place.now) c.args.items.now) (types_of_items c.args.items.now)

-- ---- SUMMARIZE

pub check_items_inside-returns-in_err-items-in-Rel-clause-added : goal.check_items_inside-returns-in_err-items-in-Rel-clause-added
check_items_inside-returns-in_err-items-in-Rel-clause-added t c =
    let p = err_from_is_err_and c.from_residual-in_err-items-in-Rel.result c.from_residual-in_err-items-in-Rel.ensures.1 in
    rw (p.1, p.2)
    (items_refused c.args.operand c.in_ok-operand.operand c.in-Rel.heading c.in_ok-operand.was c.in-Rel.is (λ h. items_of (entered_with h (scope_at c.args.place.now)) (summaries_view c.args.items.now)) c.in_err-items-in-Rel.field-0.0
    (subst (λ s. Answers (λ (v : Vec (List ℕ × Item)). items_view v.items) (Err c.in_err-items-in-Rel.field-0.0) (items_of s (summaries_view c.args.items.now)))
    c.in_ok-inside-in-Rel.ensures c.in_err-items-in-Rel.ensures.types))

pub check_items_inside-returns-clause-added : goal.check_items_inside-returns-clause-added
check_items_inside-returns-clause-added t c =
    elim c.match-operand.branch [
      | check_items_inside-in-Rel+in_ok-inside-in-Rel+in_ok-items-in-Rel w ↦
          rw w.items-is
          (items_given c.args.operand c.in_ok-operand.operand w.in-Rel.heading c.in_ok-operand.was w.in-Rel.is (λ h. items_of (entered_with h (scope_at c.args.place.now)) (summaries_view c.args.items.now)) w.in_ok-items-in-Rel.items
          (subst (λ s. items_of s (summaries_view c.args.items.now) ≡ Valued (items_view w.in_ok-items-in-Rel.items.items)) w.in_ok-inside-in-Rel.ensures
          w.in_ok-items-in-Rel.ensures.types))
      | check_items_inside-in_default w ↦
          items_left c.args.operand c.in_ok-operand.operand c.in_ok-operand.was w.in_default.not-Rel (λ h. items_of (entered_with h (scope_at c.args.place.now)) (summaries_view c.args.items.now)) c.match-operand.items
    ]

pub check_items_inside-returns-clause-names : goal.check_items_inside-returns-clause-names
check_items_inside-returns-clause-names t c =
    elim c.match-operand.branch [
      | check_items_inside-in-Rel+in_ok-inside-in-Rel+in_ok-items-in-Rel w ↦
          λ some. rw (w.seen-is, in_tuples_of (scope_at c.args.place.now) c.in_ok-operand.operand w.in-Rel.heading w.in-Rel.is)
          (subst (λ s. names_view w.check_items.new.seen ≡ with_names (names_view c.args.seen.now) (relvars_in_items s (summaries_view c.args.items.now)) (types_in_items (summaries_view c.args.items.now)))
          w.in_ok-inside-in-Rel.ensures w.in_ok-items-in-Rel.ensures.names)
      | check_items_inside-in_default w ↦
          λ some. absurd (nothing_added c.in_ok-operand.operand c.match-operand.items w.in_default.not-Rel some)
    ]

pub check-returns-in-SummarizeBy-clause-ty : goal.check-returns-in-SummarizeBy-clause-ty
check-returns-in-SummarizeBy-clause-ty t c =
    let is = ap tree_view c.in-SummarizeBy.is ∙ summarize_by_is c.in-SummarizeBy.operand c.in-SummarizeBy.by c.in-SummarizeBy.items ∙ (λ i. trees.summarize_by (tree_view (sym c.deref-in-SummarizeBy.ensures i)) (attributes_view c.in-SummarizeBy.by) (summaries_view (sym c.deref-in-SummarizeBy-2.ensures.value i))) in
    let added = with_value (type_of (scope_at c.args.place.now) (tree_view c.deref-in-SummarizeBy.result.now)) (λ s. with_items s (λ h. items_of (entered_with h (scope_at c.args.place.now)) (summaries_view c.deref-in-SummarizeBy-2.result.now))) in
    rw is
    (subst (Answers type_view c.by_attributes.result) (summary_by_typed (attributes_view c.in-SummarizeBy.by) added)
    (c.by_attributes.ensures added (c.check_items_inside.ensures.added (type_of (scope_at c.args.place.now) (tree_view c.deref-in-SummarizeBy.result.now)) c.check-operand-in-SummarizeBy.ensures.ty)))

pub check-returns-in-SummarizeBy-clause-names : goal.check-returns-in-SummarizeBy-clause-names
check-returns-in-SummarizeBy-clause-names t c =
    let is = ap tree_view c.in-SummarizeBy.is ∙ summarize_by_is c.in-SummarizeBy.operand c.in-SummarizeBy.by c.in-SummarizeBy.items ∙ (λ i. trees.summarize_by (tree_view (sym c.deref-in-SummarizeBy.ensures i)) (attributes_view c.in-SummarizeBy.by) (summaries_view (sym c.deref-in-SummarizeBy-2.ensures.value i))) in
    let n = names_view c.args.seen.now in
    let l = names_view c.check_items_inside.new.seen in
    let rs = relvars_in (scope_at c.args.place.now) (tree_view c.deref-in-SummarizeBy.result.now) ++ relvars_in_items (in_tuples (scope_at c.args.place.now) (type_of (scope_at c.args.place.now) (tree_view c.deref-in-SummarizeBy.result.now))) (summaries_view c.deref-in-SummarizeBy-2.result.now) in
    let ts = types_in (tree_view c.deref-in-SummarizeBy.result.now) ++ types_in_items (summaries_view c.deref-in-SummarizeBy-2.result.now) in
    names_are c.by_attributes.result (scope_at c.args.place.now) (tree_view c.args.expr.now) n l rs ts (ap (relvars_in (scope_at c.args.place.now)) is) (ap types_in is)
    (held_of_added (l ≡ with_names n rs ts) c.check_items_inside.result (by_summary (attributes_view c.in-SummarizeBy.by)) c.by_attributes.result refl c.by_attributes.ensures
    (operand_and_items (scope_at c.args.place.now) (tree_view c.deref-in-SummarizeBy.result.now) (summaries_view c.deref-in-SummarizeBy-2.result.now) c.check-operand-in-SummarizeBy.result c.check_items_inside.result n (names_view c.check-operand-in-SummarizeBy.new.seen) l
    c.check-operand-in-SummarizeBy.ensures.ty c.check-operand-in-SummarizeBy.ensures.names c.check_items_inside.ensures.operand c.check_items_inside.ensures.names))

pub check-returns-in-SummarizePer-clause-ty : goal.check-returns-in-SummarizePer-clause-ty
check-returns-in-SummarizePer-clause-ty t c =
    let is = ap tree_view c.in-SummarizePer.is ∙ summarize_per_is c.in-SummarizePer.operand c.in-SummarizePer.per c.in-SummarizePer.items ∙ (λ i. trees.summarize_per (tree_view (sym c.deref-in-SummarizePer.ensures i)) (tree_view (sym c.deref-in-SummarizePer-3.ensures i)) (summaries_view (sym c.deref-in-SummarizePer-2.ensures.value i))) in
    let gives = subst (λ r. Gives per_view r per_summary type_view c.per_relation.result) c.both-in-SummarizePer.ensures c.per_relation.ensures in
    let added = with_value (type_of (scope_at c.args.place.now) (tree_view c.deref-in-SummarizePer.result.now)) (λ s. with_items s (λ h. items_of (entered_with h (scope_at c.args.place.now)) (summaries_view c.deref-in-SummarizePer-2.result.now))) in
    rw is
    (per_typed added_view added (type_of (scope_at c.args.place.now) (tree_view c.deref-in-SummarizePer-3.result.now)) c.check_items_inside-added.result c.check-in-SummarizePer.result c.per_relation.result
    (c.check_items_inside-added.ensures.added (type_of (scope_at c.args.place.now) (tree_view c.deref-in-SummarizePer.result.now)) c.check-operand.ensures.ty) c.check-in-SummarizePer.ensures.ty gives)

pub check-returns-in-SummarizePer-clause-names : goal.check-returns-in-SummarizePer-clause-names
check-returns-in-SummarizePer-clause-names t c =
    let is = ap tree_view c.in-SummarizePer.is ∙ summarize_per_is c.in-SummarizePer.operand c.in-SummarizePer.per c.in-SummarizePer.items ∙ (λ i. trees.summarize_per (tree_view (sym c.deref-in-SummarizePer.ensures i)) (tree_view (sym c.deref-in-SummarizePer-3.ensures i)) (summaries_view (sym c.deref-in-SummarizePer-2.ensures.value i))) in
    let gives = subst (λ r. Gives per_view r per_summary type_view c.per_relation.result) c.both-in-SummarizePer.ensures c.per_relation.ensures in
    let n = names_view c.args.seen.now in
    let l = names_view c.check_items_inside-added.new.seen in
    let k = names_view c.check-in-SummarizePer.new.seen in
    let rs = relvars_in (scope_at c.args.place.now) (tree_view c.deref-in-SummarizePer.result.now) in
    let ri = relvars_in_items (in_tuples (scope_at c.args.place.now) (type_of (scope_at c.args.place.now) (tree_view c.deref-in-SummarizePer.result.now))) (summaries_view c.deref-in-SummarizePer-2.result.now) in
    let rp = relvars_in (scope_at c.args.place.now) (tree_view c.deref-in-SummarizePer-3.result.now) in
    let ts = types_in (tree_view c.deref-in-SummarizePer.result.now) in
    let ti = types_in_items (summaries_view c.deref-in-SummarizePer-2.result.now) in
    let tp = types_in (tree_view c.deref-in-SummarizePer-3.result.now) in
    names_are c.per_relation.result (scope_at c.args.place.now) (tree_view c.args.expr.now) n k (rs ++ (ri ++ rp)) (ts ++ (ti ++ tp)) (ap (relvars_in (scope_at c.args.place.now)) is) (ap types_in is)
    (held_of_per (k ≡ with_names n (rs ++ (ri ++ rp)) (ts ++ (ti ++ tp))) (k ≡ with_names l rp tp)
    c.check_items_inside-added.result c.check-in-SummarizePer.result c.per_relation.result gives
    (λ b is some second. per_after n l k rs ri rp ts ti tp
    (operand_and_items (scope_at c.args.place.now) (tree_view c.deref-in-SummarizePer.result.now) (summaries_view c.deref-in-SummarizePer-2.result.now) c.check-operand.result c.check_items_inside-added.result n (names_view c.check-operand.new.seen) l
    c.check-operand.ensures.ty c.check-operand.ensures.names c.check_items_inside-added.ensures.operand c.check_items_inside-added.ensures.names b is some) second)
    c.check-in-SummarizePer.ensures.names)

-- ---- WITH

pub check_bounds-loop-item-preserved : goal.check_bounds-loop-item-preserved
check_bounds-loop-item-preserved t c =
    rw c.in_ok-push.ensures.items
    (one_found (scope_at c.args.place.now) c.args.items.now (names_view c.args.seen.now) c.loop-item.bounds.items c.loop-item.item-index (names_view c.loop-item.seen)
    c.loop-item.invariant c.item-item.result c.loop-item-test.true c.item-item.is (names_view c.check_binding.new.seen) c.in_ok-bound.bound
    (subst (λ bs. bound_found bs (scope_at c.args.place.now) c.item-item.result ≡ Valued c.in_ok-bound.bound) c.deref.ensures.value c.in_ok-bound.ensures.heading)
    (subst (λ bs. names_view c.check_binding.new.seen ≡ with_names (names_view c.loop-item.seen) (relvars_in (within_all bs (scope_at c.args.place.now)) (tree_view c.item-item.result.value)) (types_in (tree_view c.item-item.result.value)))
    c.deref.ensures.value c.in_ok-bound.ensures.names))

pub check_bounds-returns-in_err-bound-clause-bounds : goal.check_bounds-returns-in_err-bound-clause-bounds
check_bounds-returns-in_err-bound-clause-bounds t c =
    let p = err_from_is_err_and c.from_residual-in_err-bound.result c.from_residual-in_err-bound.ensures.1 in
    rw (p.1, p.2)
    (one_refused (scope_at c.args.place.now) c.args.items.now (names_view c.args.seen.now) c.loop-item.bounds.items c.loop-item.item-index (names_view c.loop-item.seen)
    c.loop-item.invariant c.item-item.result c.loop-item-test.true c.item-item.is c.in_err-bound.field-0.0
    (subst (λ bs. Answers {X = Heading} (λ h. h) (Err c.in_err-bound.field-0.0) (bound_found bs (scope_at c.args.place.now) c.item-item.result)) c.deref.ensures.value c.in_err-bound.ensures.heading))

pub check-returns-in_err-bounds-in-With-clause-ty : goal.check-returns-in_err-bounds-in-With-clause-ty
check-returns-in_err-bounds-in-With-clause-ty t c =
    let p = err_from_is_err_and c.from_residual-in_err-bounds-in-With.result c.from_residual-in_err-bounds-in-With.ensures.1 in
    let s = scope_at c.args.place.now in
    let items = c.deref-in-With.result.now in
    let inside = tree_view c.in-With.inside.value in
    let is = ap tree_view c.in-With.is ∙ binding_is c.in-With.items c.in-With.inside ∙ ap (λ xs. trees.binding (named_view xs) inside) (sym c.deref-in-With.ensures.value) in
    rw (p.1, p.2, is, typed_behind s items (λ u. type_of u inside))
    (answers_still (λ (b : Vec Heading). b.items) type_view _ (bounds_found [] s items) (λ bs. type_of (within_all bs s) inside) c.in_err-bounds-in-With.ensures.bounds)

pub check-returns-in_ok-inside_all-in-With-clause-ty : goal.check-returns-in_ok-inside_all-in-With-clause-ty
check-returns-in_ok-inside_all-in-With-clause-ty t c =
    let s = scope_at c.args.place.now in
    let items = c.deref-in-With.result.now in
    let inside = tree_view c.deref-in-With-2.result.now in
    let is = ap tree_view c.in-With.is ∙ binding_is c.in-With.items c.in-With.inside
    ∙ (λ i. trees.binding (named_view (sym c.deref-in-With.ensures.value i)) (tree_view (sym c.deref-in-With-2.ensures i))) in
    let place = c.in_ok-inside_all-in-With.ensures ∙ ap (λ bs. within_all bs s) c.deref-in-With-3.ensures.value in
    rw (is, typed_behind s items (λ u. type_of u inside), c.in_ok-bounds-in-With.ensures.bounds)
    (subst (λ u. Answers type_view c.check-in-With.result (type_of u inside)) place c.check-in-With.ensures.ty)

pub check-returns-in_ok-inside_all-in-With-clause-names : goal.check-returns-in_ok-inside_all-in-With-clause-names
check-returns-in_ok-inside_all-in-With-clause-names t c =
    let s = scope_at c.args.place.now in
    let items = c.deref-in-With.result.now in
    let inside = tree_view c.deref-in-With-2.result.now in
    let is = ap tree_view c.in-With.is ∙ binding_is c.in-With.items c.in-With.inside
    ∙ (λ i. trees.binding (named_view (sym c.deref-in-With.ensures.value i)) (tree_view (sym c.deref-in-With-2.ensures i))) in
    let place = c.in_ok-inside_all-in-With.ensures ∙ ap (λ bs. within_all bs s) c.deref-in-With-3.ensures.value in
    let n = names_view c.args.seen.now in
    let m = names_view c.check_bounds.new.seen in
    let l = names_view c.check-in-With.new.seen in
    let ri = relvars_where_bound s (named_view items) (λ _. []) in
    let rb = relvars_in (within_all c.in_ok-bounds-in-With.bounds.items s) inside in
    names_are c.check-in-With.result s (tree_view c.args.expr.now) n l (ri ++ rb) (types_in_named (named_view items) ++ types_in inside)
    (ap (relvars_in s) is ∙ mentioned_behind s items c.in_ok-bounds-in-With.bounds.items (λ u. relvars_in u inside) c.in_ok-bounds-in-With.ensures.bounds) (ap types_in is)
    (names_of_second c.check-in-With.result n m l ri (types_in_named (named_view items)) rb (types_in inside) c.in_ok-bounds-in-With.ensures.names
    (subst (λ u. OnOk c.check-in-With.result (l ≡ with_names m (relvars_in u inside) (types_in inside))) place c.check-in-With.ensures.names))
