use Rattle.std.proofs.Common.{◌∙◌, ◌++◌, ap, sym}
use Rattle.td_check.proofs.Gives.{weaker}
use Rattle.td_check.proofs.WrittenNames.{names_more, names_of, names_of_all, names_of_extended, names_of_item, names_of_items, names_of_list, names_of_part, names_of_parts, names_behind, names_past}
use Rattle.td_check.proofs.names.+written.Goals as goal
use Rattle.td_check.specs.laws.WrittenNames.{names_in, names_in_named}
use Rattle.td_tree.specs.code.TreeViews.{attributes_view, named_view, summaries_view, tree_view}
use Rattle.td_tree.specs.model.Trees as trees
use Rattle.td_tree.proofs.code_lemmas.Rows.{binding_is, summarize_by_is, summarize_per_is, tuple_is}

pub add_all-loop-expr-preserved : goal.add_all-loop-expr-preserved
add_all-loop-expr-preserved t c =
    names_more names_of c.args.exprs.now c.loop-expr.expr-index c.expr-item.result c.loop-expr-test.true c.expr-item.is
    c.args.names.now.items c.loop-expr.names.items c.add_names.new.names.items c.loop-expr.invariant c.in_ok-add_names.ensures

pub add_named-loop-part-preserved : goal.add_named-loop-part-preserved
add_named-loop-part-preserved t c =
    names_more names_of_part c.args.parts.now c.loop-part.part-index c.part-item.result c.loop-part-test.true c.part-item.is
    c.args.names.now.items c.loop-part.names.items c.add_names.new.names.items c.loop-part.invariant c.in_ok-add_names.ensures

pub add_items-loop-item-preserved : goal.add_items-loop-item-preserved
add_items-loop-item-preserved t c =
    names_more names_of_item c.args.items.now c.loop-item.item-index c.item-item.result c.loop-item-test.true c.item-item.is
    c.args.names.now.items c.loop-item.names.items c.add_item.new.names.items c.loop-item.invariant c.in_ok-add_item.ensures

pub add_all-returns : goal.add_all-returns
add_all-returns t c =
    names_past names_of c.args.exprs.now c.loop-expr.expr-index c.loop-expr-test.false c.args.names.now.items c.loop-expr.names.items c.loop-expr.invariant
    ∙ ap (λ ns. c.args.names.now.items ++ ns) (names_of_all c.args.exprs.now)

pub add_named-returns : goal.add_named-returns
add_named-returns t c =
    names_past names_of_part c.args.parts.now c.loop-part.part-index c.loop-part-test.false c.args.names.now.items c.loop-part.names.items c.loop-part.invariant
    ∙ ap (λ ns. c.args.names.now.items ++ ns) (names_of_parts c.args.parts.now)

pub add_items-returns : goal.add_items-returns
add_items-returns t c =
    names_past names_of_item c.args.items.now c.loop-item.item-index c.loop-item-test.false c.args.names.now.items c.loop-item.names.items c.loop-item.invariant
    ∙ ap (λ ns. c.args.names.now.items ++ ns) (names_of_items c.args.items.now)

pub add_names-returns-in-Tuple : goal.add_names-returns-in-Tuple
add_names-returns-in-Tuple t c =
    let is = ap tree_view c.in-Tuple.is ∙ tuple_is c.in-Tuple.parts ∙ ap (λ xs. trees.tuple (named_view xs)) (sym c.deref.ensures.value) in
    weaker _ _ c.add_named.result (λ e. e ∙ ap (λ w. c.args.names.now.items ++ names_in w) (sym is)) c.add_named.ensures

pub add_names-returns-in_ok-add_names-in-Extend : goal.add_names-returns-in_ok-add_names-in-Extend
add_names-returns-in_ok-add_names-in-Extend t c =
    let is = names_of_extended c.args.expr.now c.in-Extend.operand c.in-Extend.parts c.in-Extend.is ∙ (λ i. names_in (tree_view (sym c.deref-in-Extend.ensures i)) ++ names_in_named (named_view (sym c.deref-in-Extend-2.ensures.value i))) in
    weaker _ _ c.add_named-in-Extend.result
    (λ e. names_behind c.args.names.now.items c.add_names-in-Extend.new.names.items c.add_named-in-Extend.new.names.items _ _ c.in_ok-add_names-in-Extend.ensures e
    ∙ ap (λ ns. c.args.names.now.items ++ ns) (sym is))
    c.add_named-in-Extend.ensures

pub add_names-returns-in_ok-add_names-in-SummarizeBy : goal.add_names-returns-in_ok-add_names-in-SummarizeBy
add_names-returns-in_ok-add_names-in-SummarizeBy t c =
    let is = ap tree_view c.in-SummarizeBy.is ∙ summarize_by_is c.in-SummarizeBy.operand c.in-SummarizeBy.field-1 c.in-SummarizeBy.items ∙ (λ i. trees.summarize_by (tree_view (sym c.deref-in-SummarizeBy.ensures i)) (attributes_view c.in-SummarizeBy.field-1) (summaries_view (sym c.deref-in-SummarizeBy-2.ensures.value i))) in
    weaker _ _ c.add_items-in-SummarizeBy.result
    (λ e. names_behind c.args.names.now.items c.add_names-in-SummarizeBy.new.names.items c.add_items-in-SummarizeBy.new.names.items _ _ c.in_ok-add_names-in-SummarizeBy.ensures e
    ∙ ap (λ w. c.args.names.now.items ++ names_in w) (sym is))
    c.add_items-in-SummarizeBy.ensures

pub add_names-returns-in_ok-add_names-in-SummarizePer-2 : goal.add_names-returns-in_ok-add_names-in-SummarizePer-2
add_names-returns-in_ok-add_names-in-SummarizePer-2 t c =
    let is = ap tree_view c.in-SummarizePer.is ∙ summarize_per_is c.in-SummarizePer.operand c.in-SummarizePer.per c.in-SummarizePer.items ∙ (λ i. trees.summarize_per (tree_view (sym c.deref-in-SummarizePer.ensures i)) (tree_view (sym c.deref-in-SummarizePer-2.ensures i)) (summaries_view (sym c.deref-in-SummarizePer-3.ensures.value i))) in
    weaker _ _ c.add_items.result
    (λ e. names_behind c.args.names.now.items c.add_names.new.names.items c.add_items.new.names.items _ _ c.in_ok-add_names-in-SummarizePer.ensures
    (names_behind c.add_names.new.names.items c.add_names-in-SummarizePer.new.names.items c.add_items.new.names.items _ _ c.in_ok-add_names-in-SummarizePer-2.ensures e)
    ∙ ap (λ w. c.args.names.now.items ++ names_in w) (sym is))
    c.add_items.ensures

pub add_names-returns-in-Select : goal.add_names-returns-in-Select
add_names-returns-in-Select t c =
    weaker _ _ c.add_all.result
    (λ e. e ∙ ap (λ ns. c.args.names.now.items ++ ns) (names_of_list c.args.expr.now c.in-Select.exprs c.deref-in-Select.result.now c.in-Select.is c.deref-in-Select.ensures.value))
    c.add_all.ensures

pub add_names-returns-in_ok-add_named-in-With : goal.add_names-returns-in_ok-add_named-in-With
add_names-returns-in_ok-add_named-in-With t c =
    let is = ap tree_view c.in-With.is ∙ binding_is c.in-With.items c.in-With.result ∙ (λ i. trees.binding (named_view (sym c.deref-in-With.ensures.value i)) (tree_view (sym c.deref-in-With-2.ensures i))) in
    weaker _ _ c.add_names-in-With.result
    (λ e. names_behind c.args.names.now.items c.add_named-in-With.new.names.items c.add_names-in-With.new.names.items _ _ c.in_ok-add_named-in-With.ensures e
    ∙ ap (λ w. c.args.names.now.items ++ names_in w) (sym is))
    c.add_names-in-With.ensures
