use Rattle.std.proofs.Common.{◌≡◌, ◌∙◌, ◌&&◌, ap, sym}
use Rattle.std.proofs.Math.Bool.{and_assoc}
use Rattle.td_check.proofs.CannotFail.{elements_unfailing, extended_unfailing, when_false, when_true}
use Rattle.td_check.proofs.cannot_fail.+unfailing.Goals as goal
use Rattle.td_check.proofs.cannot_fail.+unfailing.Goals.{unfailing-else-items_cannot_fail, unfailing-then-items_cannot_fail}
use Rattle.td_check.specs.laws.CannotFail.{items_cannot_fail, parts_unfailing, unfailing}
use Rattle.td_tree.proofs.code_lemmas.Rows.{binding_is, select_is, summarize_by_is, summarize_per_is, tuple_is}
use Rattle.td_tree.specs.code.TreeViews.{attributes_view, named_view, summaries_view, tree_view, trees_view}
use Rattle.td_tree.specs.model.Trees as trees

pub unfailing-returns-then-selector_cannot_fail : goal.unfailing-returns-then-selector_cannot_fail
unfailing-returns-then-selector_cannot_fail t c =
    let is = ap tree_view c.in-Select.is ∙ select_is c.in-Select.ty c.in-Select.exprs ∙ ap (λ xs. trees.select c.in-Select.ty (trees_view xs)) (sym c.deref-then-selector_cannot_fail.ensures.value) in
    c.all_unfailing.ensures ∙ when_true _ _ _ c.if-selector_cannot_fail.true c.selector_cannot_fail.ensures ∙ ap (unfailing c.args.types.now) (sym is)

pub unfailing-returns-in-Tuple : goal.unfailing-returns-in-Tuple
unfailing-returns-in-Tuple t c =
    let is = ap tree_view c.in-Tuple.is ∙ tuple_is c.in-Tuple.parts ∙ ap (λ xs. trees.tuple (named_view xs)) (sym c.deref-in-Tuple.ensures.value) in
    c.parts_unfailing.ensures ∙ ap (unfailing c.args.types.now) (sym is)

pub unfailing-returns-then-unfailing-2 : goal.unfailing-returns-then-unfailing-2
unfailing-returns-then-unfailing-2 t c =
    let is = ap tree_view c.in-SummarizePer.is ∙ summarize_per_is c.in-SummarizePer.operand c.in-SummarizePer.per c.in-SummarizePer.items ∙ ap (λ xs. trees.summarize_per (tree_view c.in-SummarizePer.operand.value) (tree_view c.in-SummarizePer.per.value) (summaries_view xs)) (sym c.deref-in-SummarizePer.ensures.value) in
    let two : c.if-items_cannot_fail.value ≡ (items_cannot_fail (summaries_view c.deref-in-SummarizePer.result.now) && unfailing c.args.types.now (tree_view c.in-SummarizePer.operand.value)) =
    elim c.if-items_cannot_fail.branch [
      | unfailing-then-items_cannot_fail w ↦
          w.value-is ∙ w.unfailing-then-items_cannot_fail.ensures ∙ ap (λ e. unfailing c.args.types.now (tree_view e)) w.deref-then-items_cannot_fail.ensures
          ∙ when_true _ _ _ w.if-items_cannot_fail.true c.items_cannot_fail.ensures
      | unfailing-else-items_cannot_fail w ↦ w.value-is ∙ when_false _ _ _ w.if-items_cannot_fail.false c.items_cannot_fail.ensures
    ] in
    c.unfailing-then-unfailing-2.ensures ∙ ap (λ e. unfailing c.args.types.now (tree_view e)) c.deref-then-unfailing-2.ensures
    ∙ when_true _ _ _ c.if-unfailing-2.true two ∙ and_assoc (items_cannot_fail (summaries_view c.deref-in-SummarizePer.result.now)) (unfailing c.args.types.now (tree_view c.in-SummarizePer.operand.value)) (unfailing c.args.types.now (tree_view c.in-SummarizePer.per.value))
    ∙ ap (unfailing c.args.types.now) (sym is)

pub unfailing-returns-else-unfailing-2 : goal.unfailing-returns-else-unfailing-2
unfailing-returns-else-unfailing-2 t c =
    let is = ap tree_view c.in-SummarizePer.is ∙ summarize_per_is c.in-SummarizePer.operand c.in-SummarizePer.per c.in-SummarizePer.items ∙ ap (λ xs. trees.summarize_per (tree_view c.in-SummarizePer.operand.value) (tree_view c.in-SummarizePer.per.value) (summaries_view xs)) (sym c.deref-in-SummarizePer.ensures.value) in
    let two : c.if-items_cannot_fail.value ≡ (items_cannot_fail (summaries_view c.deref-in-SummarizePer.result.now) && unfailing c.args.types.now (tree_view c.in-SummarizePer.operand.value)) =
    elim c.if-items_cannot_fail.branch [
      | unfailing-then-items_cannot_fail w ↦
          w.value-is ∙ w.unfailing-then-items_cannot_fail.ensures ∙ ap (λ e. unfailing c.args.types.now (tree_view e)) w.deref-then-items_cannot_fail.ensures
          ∙ when_true _ _ _ w.if-items_cannot_fail.true c.items_cannot_fail.ensures
      | unfailing-else-items_cannot_fail w ↦ w.value-is ∙ when_false _ _ _ w.if-items_cannot_fail.false c.items_cannot_fail.ensures
    ] in
    when_false _ _ (unfailing c.args.types.now (tree_view c.in-SummarizePer.per.value)) c.if-unfailing-2.false two ∙ and_assoc (items_cannot_fail (summaries_view c.deref-in-SummarizePer.result.now)) (unfailing c.args.types.now (tree_view c.in-SummarizePer.operand.value)) (unfailing c.args.types.now (tree_view c.in-SummarizePer.per.value))
    ∙ ap (unfailing c.args.types.now) (sym is)

pub unfailing-returns-then-items_cannot_fail-2 : goal.unfailing-returns-then-items_cannot_fail-2
unfailing-returns-then-items_cannot_fail-2 t c =
    let is = ap tree_view c.in-SummarizeBy.is ∙ summarize_by_is c.in-SummarizeBy.operand c.in-SummarizeBy.field-1 c.in-SummarizeBy.items ∙ (λ i. trees.summarize_by (tree_view (sym c.deref-then-items_cannot_fail-2.ensures i)) (attributes_view c.in-SummarizeBy.field-1) (summaries_view (sym c.deref-in-SummarizeBy.ensures.value i))) in
    c.unfailing-then-items_cannot_fail-2.ensures ∙ when_true _ _ _ c.if-items_cannot_fail-2.true c.items_cannot_fail-in-SummarizeBy.ensures ∙ ap (unfailing c.args.types.now) (sym is)

pub unfailing-returns-else-items_cannot_fail-2 : goal.unfailing-returns-else-items_cannot_fail-2
unfailing-returns-else-items_cannot_fail-2 t c =
    let is = ap tree_view c.in-SummarizeBy.is ∙ summarize_by_is c.in-SummarizeBy.operand c.in-SummarizeBy.field-1 c.in-SummarizeBy.items ∙ ap (λ xs. trees.summarize_by (tree_view c.in-SummarizeBy.operand.value) (attributes_view c.in-SummarizeBy.field-1) (summaries_view xs)) (sym c.deref-in-SummarizeBy.ensures.value) in
    when_false _ _ _ c.if-items_cannot_fail-2.false c.items_cannot_fail-in-SummarizeBy.ensures ∙ ap (unfailing c.args.types.now) (sym is)

pub unfailing-returns-in-Relation : goal.unfailing-returns-in-Relation
unfailing-returns-in-Relation t c =
    c.all_unfailing-in-Relation.ensures
    ∙ elements_unfailing c.args.types.now c.args.expr.now c.in-Relation.exprs c.deref-in-Relation.result.now c.in-Relation.is c.deref-in-Relation.ensures.value

pub unfailing-returns-then-unfailing-5 : goal.unfailing-returns-then-unfailing-5
unfailing-returns-then-unfailing-5 t c =
    let ds = c.args.types.now in
    let is = extended_unfailing ds c.args.expr.now c.in-Extend.operand c.in-Extend.parts c.in-Extend.is ∙ (λ i. unfailing ds (tree_view (sym c.deref-in-Extend.ensures i)) && parts_unfailing ds (named_view (sym c.deref-then-unfailing-5.ensures.value i))) in
    c.parts_unfailing-then-unfailing-5.ensures ∙ when_true _ _ _ c.if-unfailing-5.true c.unfailing-in-Extend.ensures ∙ sym is

pub unfailing-returns-then-parts_unfailing : goal.unfailing-returns-then-parts_unfailing
unfailing-returns-then-parts_unfailing t c =
    let is = ap tree_view c.in-With.is ∙ binding_is c.in-With.items c.in-With.result ∙ (λ i. trees.binding (named_view (sym c.deref-in-With.ensures.value i)) (tree_view (sym c.deref-then-parts_unfailing.ensures i))) in
    c.unfailing-then-parts_unfailing.ensures ∙ when_true _ _ _ c.if-parts_unfailing.true c.parts_unfailing-in-With.ensures ∙ ap (unfailing c.args.types.now) (sym is)

pub unfailing-returns-else-parts_unfailing : goal.unfailing-returns-else-parts_unfailing
unfailing-returns-else-parts_unfailing t c =
    let is = ap tree_view c.in-With.is ∙ binding_is c.in-With.items c.in-With.result ∙ ap (λ xs. trees.binding (named_view xs) (tree_view c.in-With.result.value)) (sym c.deref-in-With.ensures.value) in
    when_false _ _ _ c.if-parts_unfailing.false c.parts_unfailing-in-With.ensures ∙ ap (unfailing c.args.types.now) (sym is)
