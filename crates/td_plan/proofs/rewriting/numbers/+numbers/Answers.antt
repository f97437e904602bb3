use Rattle.std.proofs.Common.{◌≡◌, ◌⊎◌, inl, inr, ◌∙◌, List, [], ◌∷◌, ap, length, subst, sym, true, true≢false}
use Rattle.std.specs.Global.{Box, Vec}
use Rattle.std.proofs.lemmas.Bool.{eqb-true}
use Rattle.std.specs.Prelude.{◌==◌}
use Rattle.td_eval.specs.laws.TreeNumbers.{HasNumbers, ItemsHaveNumbers, PartsHaveNumbers}
use Rattle.td_plan.proofs.rewriting.numbers.+numbers.Goals.{has_numbers-else-has_numbers, has_numbers-then-has_numbers}
use Rattle.td_plan.proofs.rewriting.numbers.+numbers.Goals as goal
use Rattle.td_tree.proofs.code_lemmas.Rows.{binding_is, extend_is, extend_setting_is, headed_relation_is, relation_is, select_is, summarize_by_is, summarize_per_is, tuple_is}
use Rattle.td_tree.specs.declared.expression.Expr.{Expr}
use Rattle.td_tree.specs.declared.expression.Expr.TheVariants as exprs
use Rattle.td_tree.specs.declared.expression.NamedExpr.{NamedExpr}
use Rattle.td_tree.specs.declared.expression.Summary.{Summary}
use Rattle.td_tree.specs.code.TreeViews.{attributes_view, heading_tree_view, named_view, summaries_view, tree_view, trees_view}
use Rattle.td_tree.specs.model.Trees as trees

pub has_numbers-returns-in-Select : goal.has_numbers-returns-in-Select
has_numbers-returns-in-Select t c =
    let is = ap tree_view c.in-Select.is ∙ select_is c.in-Select.field-0 c.in-Select.arguments ∙ ap (λ xs. trees.select c.in-Select.field-0 (trees_view xs)) (sym c.deref.ensures.value) in
    λ e. subst HasNumbers (sym is) (c.have_numbers.ensures e)

pub has_numbers-returns-in-Relation : goal.has_numbers-returns-in-Relation
has_numbers-returns-in-Relation t c =
    let is = ap tree_view c.in-Relation.is ∙ relation_is c.in-Relation.elements ∙ ap (λ xs. trees.relation (trees_view xs)) (sym c.deref-in-Relation.ensures.value) in
    λ e. subst HasNumbers (sym is) (c.have_numbers-in-Relation.ensures e)

pub has_numbers-returns-in-HeadedRelation : goal.has_numbers-returns-in-HeadedRelation
has_numbers-returns-in-HeadedRelation t c =
    let is = ap tree_view c.in-HeadedRelation.is ∙ headed_relation_is c.in-HeadedRelation.field-0 c.in-HeadedRelation.elements ∙ ap (λ xs. trees.headed_relation (heading_tree_view c.in-HeadedRelation.field-0.items) (trees_view xs)) (sym c.deref-in-HeadedRelation.ensures.value) in
    λ e. subst HasNumbers (sym is) (c.have_numbers-in-HeadedRelation.ensures e)

pub has_numbers-returns-in-Tuple : goal.has_numbers-returns-in-Tuple
has_numbers-returns-in-Tuple t c =
    let is = ap tree_view c.in-Tuple.is ∙ tuple_is c.in-Tuple.parts ∙ ap (λ xs. trees.tuple (named_view xs)) (sym c.deref-in-Tuple.ensures.value) in
    λ e. subst HasNumbers (sym is) (c.parts_have_numbers.ensures e)

-- EXTEND in either spelling
numbers_of_parts : (a : Expr) (b : Box Expr) (v : Vec NamedExpr) → (a ≡ exprs.Extend b v) ⊎ (a ≡ exprs.ExtendSetting b v)
    → HasNumbers (tree_view b.value) → PartsHaveNumbers (named_view v.items) → HasNumbers (tree_view a)
numbers_of_parts a b v is operand parts = elim is [
  | inl x ↦ subst HasNumbers (sym (ap tree_view x ∙ extend_is b v)) (operand, parts)
  | inr x ↦ subst HasNumbers (sym (ap tree_view x ∙ extend_setting_is b v)) (operand, parts)
]

-- SUMMARIZE by no items
none_summed : (v : Vec Summary) → (v.len == 0) ≡ true → ItemsHaveNumbers (summaries_view v.items)
none_summed v none = of_none v.items (sym v.ok.0 ∙ eqb-true v.len 0 none)
  where
    of_none : (xs : List Summary) → length xs ≡ 0 → ItemsHaveNumbers (summaries_view xs)
    of_none [] e = tt
    of_none (x ∷ xs) e = absurd (cc)

pub has_numbers-returns-then-has_numbers-2 : goal.has_numbers-returns-then-has_numbers-2
has_numbers-returns-then-has_numbers-2 t c =
    let is = ap tree_view c.in-SummarizePer.is ∙ summarize_per_is c.in-SummarizePer.operand c.in-SummarizePer.per c.in-SummarizePer.items in
    let two : HasNumbers (tree_view c.in-SummarizePer.operand.value) × HasNumbers (tree_view c.in-SummarizePer.per.value) =
    elim c.if-has_numbers.branch [
      | has_numbers-then-has_numbers w ↦ (
        subst (λ x. HasNumbers (tree_view x)) c.deref-in-SummarizePer.ensures (c.has_numbers.ensures w.if-has_numbers.true),
        subst (λ x. HasNumbers (tree_view x)) w.deref-then-has_numbers.ensures (w.has_numbers-then-has_numbers.ensures (sym w.value-is ∙ c.if-has_numbers-2.true)),
      )
      | has_numbers-else-has_numbers w ↦ absurd (true≢false (sym c.if-has_numbers-2.true ∙ w.value-is ∙ w.if-has_numbers.false))
    ] in
    λ e. subst HasNumbers (sym is) (two.0, two.1, none_summed c.in-SummarizePer.items (sym c.is_empty.ensures ∙ e))

pub has_numbers-returns-then-has_numbers-3 : goal.has_numbers-returns-then-has_numbers-3
has_numbers-returns-then-has_numbers-3 t c =
    let is = ap tree_view c.in-SummarizeBy.is ∙ summarize_by_is c.in-SummarizeBy.operand c.in-SummarizeBy.field-1 c.in-SummarizeBy.items ∙ ap (λ x. trees.summarize_by (tree_view x) (attributes_view c.in-SummarizeBy.field-1) (summaries_view c.in-SummarizeBy.items.items)) (sym c.deref-in-SummarizeBy.ensures) in
    λ e. subst HasNumbers (sym is) (c.has_numbers-in-SummarizeBy.ensures c.if-has_numbers-3.true, none_summed c.in-SummarizeBy.items (sym c.is_empty-then-has_numbers-3.ensures ∙ e))

pub has_numbers-returns-then-has_numbers-6 : goal.has_numbers-returns-then-has_numbers-6
has_numbers-returns-then-has_numbers-6 t c =
    λ e. numbers_of_parts _ c.in-Extend.operand c.in-Extend.parts c.in-Extend.is
    (subst (λ x. HasNumbers (tree_view x)) c.deref-in-Extend.ensures (c.has_numbers-in-Extend.ensures c.if-has_numbers-6.true))
    (subst (λ xs. PartsHaveNumbers (named_view xs)) c.deref-then-has_numbers-6.ensures.value (c.parts_have_numbers-then-has_numbers-6.ensures e))

pub has_numbers-returns-then-parts_have_numbers : goal.has_numbers-returns-then-parts_have_numbers
has_numbers-returns-then-parts_have_numbers t c =
    let is = ap tree_view c.in-With.is ∙ binding_is c.in-With.items c.in-With.value ∙ (λ i. trees.binding (named_view (sym c.deref-in-With.ensures.value i)) (tree_view (sym c.deref-then-parts_have_numbers.ensures i))) in
    λ e. subst HasNumbers (sym is) (c.parts_have_numbers-in-With.ensures c.if-parts_have_numbers.true, c.has_numbers-then-parts_have_numbers.ensures e)
