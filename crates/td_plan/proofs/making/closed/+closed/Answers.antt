use Rattle.std.proofs.Common.{◌∙◌, ap, subst, sym}
use Rattle.td_plan.specs.code.Closed.{IsClosed}
use Rattle.td_tree.proofs.code_lemmas.Rows.{headed_relation_is, relation_is, tuple_is}
use Rattle.td_tree.specs.code.TreeViews.{heading_tree_view, named_view, tree_view, trees_view}
use Rattle.td_tree.specs.model.Trees as trees
use Rattle.td_plan.proofs.making.closed.+closed.Goals as goal

pub is_constant-returns-in-Tuple : goal.is_constant-returns-in-Tuple
is_constant-returns-in-Tuple t c =
    let is = ap tree_view c.in-Tuple.is ∙ tuple_is c.in-Tuple.parts ∙ ap (λ xs. trees.tuple (named_view xs)) (sym c.deref-in-Tuple.ensures.value) in
    λ e. subst IsClosed (sym is) (c.parts_are_constant.ensures e)

pub is_constant-returns-in-Relation : goal.is_constant-returns-in-Relation
is_constant-returns-in-Relation t c =
    let is = ap tree_view c.in-Relation.is ∙ relation_is c.in-Relation.elements ∙ ap (λ xs. trees.relation (trees_view xs)) (sym c.deref-in-Relation.ensures.value) in
    λ e. subst IsClosed (sym is) (c.are_constant.ensures e)

pub is_constant-returns-in-HeadedRelation : goal.is_constant-returns-in-HeadedRelation
is_constant-returns-in-HeadedRelation t c =
    let heading = c.in-HeadedRelation.field-0 in
    let is =
    ap tree_view c.in-HeadedRelation.is ∙ headed_relation_is heading c.in-HeadedRelation.elements
    ∙ ap (λ xs. trees.headed_relation (heading_tree_view heading.items) (trees_view xs)) (sym c.deref-in-HeadedRelation.ensures.value) in
    λ e. subst IsClosed (sym is) (c.are_constant-in-HeadedRelation.ensures e)
