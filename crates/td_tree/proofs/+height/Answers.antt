use Rattle.std.proofs.Common.{◌≡◌, ◌⊎◌, inl, inr, ◌+◌, ◌∙◌, ap, arith, max}
use Rattle.std.specs.Global.{Box, Vec}
use Rattle.td_tree.proofs.code_lemmas.Rows.{binding_is, extend_is, extend_setting_is, headed_relation_is, relation_is, select_is, summarize_by_is, summarize_per_is, tuple_is}
use Rattle.td_tree.specs.declared.expression.Expr.{Expr}
use Rattle.td_tree.specs.declared.expression.Expr.TheVariants as e
use Rattle.td_tree.specs.declared.expression.NamedExpr.{NamedExpr}
use Rattle.td_tree.specs.model.Heights.{attributes_height, height, highest, highest_named, highest_summary}
use Rattle.td_tree.specs.model.Trees.{Text}
use Rattle.td_tree.specs.code.TreeViews.{heading_tree_view, named_view, summaries_view, tree_view, trees_view}
use Rattle.td_tree.proofs.+height.Goals as goal

with_elements : (a : Expr) (v : Vec Expr) → ((ty : Text) × a ≡ e.Select ty v) ⊎ (a ≡ e.Relation v)
    → height (tree_view a) ≡ highest (trees_view v.items) + 1
with_elements a v is = elim is [
  | inl s ↦ ap height (ap tree_view s.1 ∙ select_is s.0 v)
  | inr r ↦ ap height (ap tree_view r ∙ relation_is v)
]

pub expression::Expr::highest_part-returns-in-Select :
    goal.expression::Expr::highest_part-returns-in-Select
expression::Expr::highest_part-returns-in-Select t c =
    let e = with_elements _ c.in-Select.elements c.in-Select.is in
    let a = ap (λ x. highest (trees_view x)) c.deref-in-Select.ensures.value in
    omega arith

pub expression::Expr::highest_part-returns-in-HeadedRelation :
    goal.expression::Expr::highest_part-returns-in-HeadedRelation
expression::Expr::highest_part-returns-in-HeadedRelation t c =
    let e = ap height (ap tree_view c.in-HeadedRelation.is ∙ headed_relation_is c.in-HeadedRelation.heading c.in-HeadedRelation.elements) in
    let h = ap (λ x. attributes_height (heading_tree_view x)) c.deref.ensures.value in
    let a = ap (λ x. highest (trees_view x)) c.deref-in-HeadedRelation.ensures.value in
    omega arith

pub expression::Expr::highest_part-returns-in-Tuple :
    goal.expression::Expr::highest_part-returns-in-Tuple
expression::Expr::highest_part-returns-in-Tuple t c =
    let e = ap height (ap tree_view c.in-Tuple.is ∙ tuple_is c.in-Tuple.parts) in
    let a = ap (λ x. highest_named (named_view x)) c.deref-in-Tuple.ensures.value in
    omega arith

with_parts : (a : Expr) (b : Box Expr) (v : Vec NamedExpr) → (a ≡ e.Extend b v) ⊎ (a ≡ e.ExtendSetting b v)
    → height (tree_view a) ≡ max (height (tree_view b.value)) (highest_named (named_view v.items)) + 1
with_parts a b v is = elim is [
  | inl s ↦ ap height (ap tree_view s ∙ extend_is b v)
  | inr r ↦ ap height (ap tree_view r ∙ extend_setting_is b v)
]

pub expression::Expr::highest_part-returns-in-Extend :
    goal.expression::Expr::highest_part-returns-in-Extend
expression::Expr::highest_part-returns-in-Extend t c =
    let e = with_parts _ c.in-Extend.operand c.in-Extend.parts c.in-Extend.is in
    let o = ap (λ x. height (tree_view x)) c.deref-in-Extend.ensures in
    let a = ap (λ x. highest_named (named_view x)) c.deref-in-Extend-2.ensures.value in
    omega arith

pub expression::Expr::highest_part-returns-in-SummarizePer :
    goal.expression::Expr::highest_part-returns-in-SummarizePer
expression::Expr::highest_part-returns-in-SummarizePer t c =
    let e = ap height (ap tree_view c.in-SummarizePer.is ∙ summarize_per_is c.in-SummarizePer.operand c.in-SummarizePer.per c.in-SummarizePer.summaries) in
    let o = ap (λ x. height (tree_view x)) c.deref-in-SummarizePer.ensures in
    let p = ap (λ x. height (tree_view x)) c.deref-in-SummarizePer-2.ensures in
    let a = ap (λ x. highest_summary (summaries_view x)) c.deref-in-SummarizePer-3.ensures.value in
    omega arith

pub expression::Expr::highest_part-returns-in-SummarizeBy :
    goal.expression::Expr::highest_part-returns-in-SummarizeBy
expression::Expr::highest_part-returns-in-SummarizeBy t c =
    let e = ap height (ap tree_view c.in-SummarizeBy.is ∙ summarize_by_is c.in-SummarizeBy.operand c.in-SummarizeBy.field-1 c.in-SummarizeBy.summaries) in
    let o = ap (λ x. height (tree_view x)) c.deref-in-SummarizeBy.ensures in
    let a = ap (λ x. highest_summary (summaries_view x)) c.deref-in-SummarizeBy-2.ensures.value in
    omega arith

pub expression::Expr::highest_part-returns-in-With :
    goal.expression::Expr::highest_part-returns-in-With
expression::Expr::highest_part-returns-in-With t c =
    let e = ap height (ap tree_view c.in-With.is ∙ binding_is c.in-With.items c.in-With.result) in
    let a = ap (λ x. highest_named (named_view x)) c.deref-in-With.ensures.value in
    let r = ap (λ x. height (tree_view x)) c.deref-in-With-2.ensures in
    omega arith
