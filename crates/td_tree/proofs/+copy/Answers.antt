use Rattle.std.proofs.Common.{ap, ◌∙◌}
use Rattle.td_tree.proofs.code_lemmas.Pushes.{one_more, one_tree, then_trees, trees_push, one_named, then_named, named_push, one_summary, then_summaries, summaries_push}
use Rattle.td_tree.proofs.code_lemmas.Rows.{binding_is, copied_as, extend_is, extend_setting_is, headed_relation_is, relation_is, select_is, summarize_by_is, summarize_per_is, tuple_is}
use Rattle.td_tree.specs.model.Trees as trees
use Rattle.td_tree.specs.code.TreeViews.{named_view, summaries_view, tree_view, trees_view}
use Rattle.td_tree.proofs.+copy.Goals as goal

pub copy::copy_list-loop-expression-preserved : goal.copy::copy_list-loop-expression-preserved
copy::copy_list-loop-expression-preserved t c =
    ap trees_view c.in_ok-push.ensures.items
    ∙ one_more trees_view one_tree then_trees trees_push c.deref-expression-items.result.now c.loop-expression.copy.items c.loop-expression.expression-index
    c.expression-item.result _ c.loop-expression.invariant c.loop-expression-test.true c.expression-item.is (cc c.in_ok-try_clone.ensures)

pub copy::copy_parts-loop-part-preserved : goal.copy::copy_parts-loop-part-preserved
copy::copy_parts-loop-part-preserved t c =
    ap named_view c.in_ok-push.ensures.items
    ∙ one_more named_view one_named then_named named_push c.deref-part-items.result.now c.loop-part.copy.items c.loop-part.part-index
    c.part-item.result _ c.loop-part.invariant c.loop-part-test.true c.part-item.is (cc (c.in_ok-name.ensures, c.in_ok-value.ensures))

pub copy::copy_summaries-loop-summary-preserved : goal.copy::copy_summaries-loop-summary-preserved
copy::copy_summaries-loop-summary-preserved t c =
    ap summaries_view c.in_ok-push.ensures.items
    ∙ one_more summaries_view one_summary then_summaries summaries_push c.deref-summary-items.result.now c.loop-summary.copy.items c.loop-summary.summary-index
    c.summary-item.result _ c.loop-summary.invariant c.loop-summary-test.true c.summary-item.is (c.in_ok-try_clone.ensures trees.no_summaries)

pub expression::Expr::try_clone-returns-in-Postfix : goal.expression::Expr::try_clone-returns-in-Postfix
expression::Expr::try_clone-returns-in-Postfix t c = copied_as _ _ _ (c.postfix.ensures _ _ c.box_with_copy-in-Postfix.ensures c.try_clone-in-Postfix.ensures) (ap tree_view c.in-Postfix.is)

pub expression::Expr::try_clone-returns-in-Select : goal.expression::Expr::try_clone-returns-in-Select
expression::Expr::try_clone-returns-in-Select t c = copied_as _ _ _ (c.select.ensures _ _ c.try_clone-in-Select.ensures c.copy_list.ensures) (ap tree_view c.in-Select.is ∙ select_is c.in-Select.ty c.in-Select.arguments)

pub expression::Expr::try_clone-returns-in-Relation : goal.expression::Expr::try_clone-returns-in-Relation
expression::Expr::try_clone-returns-in-Relation t c = copied_as _ _ _ (c.relation.ensures _ c.copy_list-in-Relation.ensures) (ap tree_view c.in-Relation.is ∙ relation_is c.in-Relation.elements)

pub expression::Expr::try_clone-returns-in-HeadedRelation : goal.expression::Expr::try_clone-returns-in-HeadedRelation
expression::Expr::try_clone-returns-in-HeadedRelation t c = copied_as _ _ _ (c.headed_relation.ensures _ _ c.copy_heading.ensures c.copy_list-in-HeadedRelation.ensures) (ap tree_view c.in-HeadedRelation.is ∙ headed_relation_is c.in-HeadedRelation.heading c.in-HeadedRelation.elements)

pub expression::Expr::try_clone-returns-in-Tuple : goal.expression::Expr::try_clone-returns-in-Tuple
expression::Expr::try_clone-returns-in-Tuple t c = copied_as _ _ _ (c.tuple.ensures _ c.copy_parts.ensures) (ap tree_view c.in-Tuple.is ∙ tuple_is c.in-Tuple.parts)

pub expression::Expr::try_clone-returns-in-Extend : goal.expression::Expr::try_clone-returns-in-Extend
expression::Expr::try_clone-returns-in-Extend t c = copied_as _ _ _ (c.extend.ensures _ _ c.box_with_copy-in-Extend.ensures c.copy_parts-in-Extend.ensures) (ap tree_view c.in-Extend.is ∙ extend_is c.in-Extend.operand c.in-Extend.parts)

pub expression::Expr::try_clone-returns-in-ExtendSetting : goal.expression::Expr::try_clone-returns-in-ExtendSetting
expression::Expr::try_clone-returns-in-ExtendSetting t c = copied_as _ _ _ (c.extend_setting.ensures _ _ c.box_with_copy-in-ExtendSetting.ensures c.copy_parts-in-ExtendSetting.ensures) (ap tree_view c.in-ExtendSetting.is ∙ extend_setting_is c.in-ExtendSetting.operand c.in-ExtendSetting.parts)

pub expression::Expr::try_clone-returns-in-SummarizePer : goal.expression::Expr::try_clone-returns-in-SummarizePer
expression::Expr::try_clone-returns-in-SummarizePer t c = copied_as _ _ _ (c.summarize_per.ensures _ _ _ c.box_with_copy-in-SummarizePer.ensures c.box_with_copy-in-SummarizePer-2.ensures c.copy_summaries.ensures) (ap tree_view c.in-SummarizePer.is ∙ summarize_per_is c.in-SummarizePer.operand c.in-SummarizePer.per c.in-SummarizePer.added)

pub expression::Expr::try_clone-returns-in-SummarizeBy : goal.expression::Expr::try_clone-returns-in-SummarizeBy
expression::Expr::try_clone-returns-in-SummarizeBy t c = copied_as _ _ _ (c.summarize_by.ensures _ _ _ c.box_with_copy-in-SummarizeBy.ensures c.try_clone-in-SummarizeBy.ensures c.copy_summaries-in-SummarizeBy.ensures) (ap tree_view c.in-SummarizeBy.is ∙ summarize_by_is c.in-SummarizeBy.operand c.in-SummarizeBy.by c.in-SummarizeBy.added)

pub expression::Expr::try_clone-returns-in-With : goal.expression::Expr::try_clone-returns-in-With
expression::Expr::try_clone-returns-in-With t c = copied_as _ _ _ (c.binding.ensures _ _ c.copy_parts-in-With.ensures c.box_with_copy-in-With.ensures) (ap tree_view c.in-With.is ∙ binding_is c.in-With.items c.in-With.result)
