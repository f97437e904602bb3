use Rattle.std.proofs.Common.{sym, ap, ◌∙◌}
use Rattle.td_tree.proofs.code_lemmas.Pushes.{one_more, one_attribute, then_attributes, heading_push}
use Rattle.td_tree.proofs.code_lemmas.Rows.{relation_type_is, tuple_type_is}
use Rattle.td_tree.specs.model.Trees as trees
use Rattle.td_tree.specs.code.TreeViews.{heading_tree_view, type_tree_view}
use Rattle.td_tree.proofs.+copy_type.Goals as goal

pub copy::copy_heading-loop-attribute-preserved : goal.copy::copy_heading-loop-attribute-preserved
copy::copy_heading-loop-attribute-preserved t c =
    ap heading_tree_view c.in_ok-push.ensures.items
    ∙ one_more heading_tree_view one_attribute then_attributes heading_push c.deref-attribute-items.result.now c.loop-attribute.copy.items c.loop-attribute.attribute-index
    c.attribute-item.result _ c.loop-attribute.invariant c.loop-attribute-test.true c.attribute-item.is (cc (c.in_ok-name.ensures, c.in_ok-ty.ensures))

pub type_tree::TypeTree::try_clone-returns-in_ok-copy_heading-in-Tuple :
    goal.type_tree::TypeTree::try_clone-returns-in_ok-copy_heading-in-Tuple
type_tree::TypeTree::try_clone-returns-in_ok-copy_heading-in-Tuple t c =
    tuple_type_is c.in_ok-copy_heading-in-Tuple.field-0 ∙ ap trees.tuple_type c.in_ok-copy_heading-in-Tuple.ensures
    ∙ sym (ap type_tree_view c.in-Tuple.is ∙ tuple_type_is c.in-Tuple.heading)

pub type_tree::TypeTree::try_clone-returns-in_ok-copy_heading-in-Relation :
    goal.type_tree::TypeTree::try_clone-returns-in_ok-copy_heading-in-Relation
type_tree::TypeTree::try_clone-returns-in_ok-copy_heading-in-Relation t c =
    relation_type_is c.in_ok-copy_heading-in-Relation.field-0 ∙ ap trees.relation_type c.in_ok-copy_heading-in-Relation.ensures
    ∙ sym (ap type_tree_view c.in-Relation.is ∙ relation_type_is c.in-Relation.heading)
