use Rattle.std.proofs.Common.{◌≡◌, ◌⊎◌, inl, inr, ◌∙◌, ap, subst, sym}
use Rattle.std.specs.Global.{Vec}
use Rattle.td_tree.proofs.code_lemmas.Rows.{relation_type_is, tuple_type_is}
use Rattle.td_tree.specs.declared.type_tree.AttributeTree.{AttributeTree}
use Rattle.td_tree.specs.declared.type_tree.TypeTree.{TypeTree}
use Rattle.td_tree.specs.declared.type_tree.TypeTree.TheVariants as t
use Rattle.td_tree.specs.model.WrittenTrees.{HasNames, HaveNames}
use Rattle.td_tree.specs.code.TreeViews.{heading_tree_view, type_tree_view}
use Rattle.td_tree.proofs.+written_type.Goals as goal

with_heading : (a : TypeTree) (v : Vec AttributeTree) → (a ≡ t.Tuple v) ⊎ (a ≡ t.Relation v) → HaveNames (heading_tree_view v.items) → HasNames (type_tree_view a)
with_heading a v is h = elim is [
  | inl e ↦ subst HasNames (sym (ap type_tree_view e ∙ tuple_type_is v)) h
  | inr e ↦ subst HasNames (sym (ap type_tree_view e ∙ relation_type_is v)) h
]

pub type_tree::TypeTree::reveal-returns-in-Tuple :
    goal.type_tree::TypeTree::reveal-returns-in-Tuple
type_tree::TypeTree::reveal-returns-in-Tuple t c =
    with_heading _ c.in-Tuple.heading c.in-Tuple.is (subst (λ x. HaveNames (heading_tree_view x)) c.deref.ensures.value c.reveal_heading.ensures)
