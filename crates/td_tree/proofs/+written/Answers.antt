use Rattle.std.proofs.Common.{◌≡◌, ◌⊎◌, inl, inr, ◌∙◌, ap, subst, sym}
use Rattle.std.specs.Global.{Box, Vec}
use Rattle.td_tree.proofs.code_lemmas.Rows.{binding_is, extend_is, extend_setting_is, headed_relation_is, relation_is, select_is, summarize_by_is, summarize_per_is, tuple_is}
use Rattle.td_tree.specs.declared.expression.Expr.{Expr}
use Rattle.td_tree.specs.declared.expression.Expr.TheVariants as e
use Rattle.td_tree.specs.declared.expression.NamedExpr.{NamedExpr}
use Rattle.td_tree.specs.model.Trees.{Text, Tree}
use Rattle.td_tree.specs.model.WrittenTrees.{GiveNames, HaveNames, HaveTexts, IsWritten, ItemsGiveNames, ItemsHaveTexts, PartsGiveNames, PartsHaveTexts}
use Rattle.td_tree.specs.code.TreeViews.{heading_tree_view, named_view, summaries_view, tree_view, trees_view}
use Rattle.td_tree.proofs.+written.Goals as goal

-- what is seen as a written tree is written
seen_as : (a : Expr) (b : Expr) (t : Tree) → a ≡ b → tree_view b ≡ t → IsWritten t → IsWritten (tree_view a)
seen_as a b t is seen written = subst IsWritten (sym (ap tree_view is ∙ seen)) written

with_elements : (a : Expr) (v : Vec Expr) → ((ty : Text) × a ≡ e.Select ty v) ⊎ (a ≡ e.Relation v)
    → GiveNames (trees_view v.items) → HaveTexts (trees_view v.items) → IsWritten (tree_view a)
with_elements a v is names texts = elim is [
  | inl s ↦ seen_as a _ _ s.1 (select_is s.0 v) (names, texts)
  | inr r ↦ seen_as a _ _ r (relation_is v) (names, texts)
]

with_parts : (a : Expr) (b : Box Expr) (v : Vec NamedExpr) → (a ≡ e.Extend b v) ⊎ (a ≡ e.ExtendSetting b v)
    → IsWritten (tree_view b.value) → PartsGiveNames (named_view v.items) → PartsHaveTexts (named_view v.items) → IsWritten (tree_view a)
with_parts a b v is operand names texts = elim is [
  | inl s ↦ seen_as a _ _ s (extend_is b v) ((operand.0, names), (operand.1, texts))
  | inr s ↦ seen_as a _ _ s (extend_setting_is b v) ((operand.0, names), (operand.1, texts))
]

pub expression::Expr::reveal-returns-in-Select : goal.expression::Expr::reveal-returns-in-Select
expression::Expr::reveal-returns-in-Select t c =
    with_elements _ c.in-Select.elements c.in-Select.is
    (subst (λ x. GiveNames (trees_view x)) c.deref-in-Select.ensures.value c.reveal_all-in-Select.ensures.names)
    (subst (λ x. HaveTexts (trees_view x)) c.deref-in-Select.ensures.value c.reveal_all-in-Select.ensures.texts)

pub expression::Expr::reveal-returns-in-HeadedRelation :
    goal.expression::Expr::reveal-returns-in-HeadedRelation
expression::Expr::reveal-returns-in-HeadedRelation t c =
    let heading = subst (λ x. HaveNames (heading_tree_view x)) c.deref-in-HeadedRelation.ensures.value c.reveal_heading.ensures in
    let names = subst (λ x. GiveNames (trees_view x)) c.deref-in-HeadedRelation-2.ensures.value c.reveal_all.ensures.names in
    let texts = subst (λ x. HaveTexts (trees_view x)) c.deref-in-HeadedRelation-2.ensures.value c.reveal_all.ensures.texts in
    seen_as _ _ _ c.in-HeadedRelation.is (headed_relation_is c.in-HeadedRelation.heading c.in-HeadedRelation.elements) ((heading, names), texts)

pub expression::Expr::reveal-returns-in-Tuple : goal.expression::Expr::reveal-returns-in-Tuple
expression::Expr::reveal-returns-in-Tuple t c =
    let names = subst (λ x. PartsGiveNames (named_view x)) c.deref-in-Tuple.ensures.value c.reveal_parts.ensures.names in
    let texts = subst (λ x. PartsHaveTexts (named_view x)) c.deref-in-Tuple.ensures.value c.reveal_parts.ensures.texts in
    seen_as _ _ _ c.in-Tuple.is (tuple_is c.in-Tuple.parts) (names, texts)

pub expression::Expr::reveal-returns-in-Extend : goal.expression::Expr::reveal-returns-in-Extend
expression::Expr::reveal-returns-in-Extend t c =
    let operand = subst (λ x. IsWritten (tree_view x)) c.deref-in-Extend.ensures c.reveal-in-Extend.ensures in
    let names = subst (λ x. PartsGiveNames (named_view x)) c.deref-in-Extend-2.ensures.value c.reveal_parts-in-Extend.ensures.names in
    let texts = subst (λ x. PartsHaveTexts (named_view x)) c.deref-in-Extend-2.ensures.value c.reveal_parts-in-Extend.ensures.texts in
    with_parts _ c.in-Extend.operand c.in-Extend.parts c.in-Extend.is operand names texts

pub expression::Expr::reveal-returns-in-With : goal.expression::Expr::reveal-returns-in-With
expression::Expr::reveal-returns-in-With t c =
    let names = subst (λ x. PartsGiveNames (named_view x)) c.deref-in-With.ensures.value c.reveal_parts-in-With.ensures.names in
    let texts = subst (λ x. PartsHaveTexts (named_view x)) c.deref-in-With.ensures.value c.reveal_parts-in-With.ensures.texts in
    let result = subst (λ x. IsWritten (tree_view x)) c.deref-in-With-2.ensures c.reveal-in-With.ensures in
    seen_as _ _ _ c.in-With.is (binding_is c.in-With.items c.in-With.result) ((names, result.0), (texts, result.1))

pub expression::Expr::reveal-returns-in-SummarizePer :
    goal.expression::Expr::reveal-returns-in-SummarizePer
expression::Expr::reveal-returns-in-SummarizePer t c =
    let operand = subst (λ x. IsWritten (tree_view x)) c.deref-in-SummarizePer.ensures c.reveal-in-SummarizePer.ensures in
    let per = subst (λ x. IsWritten (tree_view x)) c.deref-in-SummarizePer-2.ensures c.reveal-in-SummarizePer-2.ensures in
    let names = subst (λ x. ItemsGiveNames (summaries_view x)) c.deref-in-SummarizePer-3.ensures.value c.reveal_summaries.ensures.names in
    let texts = subst (λ x. ItemsHaveTexts (summaries_view x)) c.deref-in-SummarizePer-3.ensures.value c.reveal_summaries.ensures.texts in
    seen_as _ _ _ c.in-SummarizePer.is (summarize_per_is c.in-SummarizePer.operand c.in-SummarizePer.per c.in-SummarizePer.summaries)
    ((operand.0, per.0, names), (operand.1, per.1, texts))

pub expression::Expr::reveal-returns-in-SummarizeBy :
    goal.expression::Expr::reveal-returns-in-SummarizeBy
expression::Expr::reveal-returns-in-SummarizeBy t c =
    let operand = subst (λ x. IsWritten (tree_view x)) c.deref-in-SummarizeBy.ensures c.reveal-in-SummarizeBy.ensures in
    let names = subst (λ x. ItemsGiveNames (summaries_view x)) c.deref-in-SummarizeBy-2.ensures.value c.reveal_summaries-in-SummarizeBy.ensures.names in
    let texts = subst (λ x. ItemsHaveTexts (summaries_view x)) c.deref-in-SummarizeBy-2.ensures.value c.reveal_summaries-in-SummarizeBy.ensures.texts in
    seen_as _ _ _ c.in-SummarizeBy.is (summarize_by_is c.in-SummarizeBy.operand c.in-SummarizeBy.field-1 c.in-SummarizeBy.summaries)
    ((operand.0, names), (operand.1, texts))
