use Rattle.std.proofs.Common.{◌≡◌, ◌⊎◌, inl, inr, ◌+◌, ◌∙◌, ap, arith}
use Rattle.std.specs.Global.{Vec}
use Rattle.td_tree.proofs.code_lemmas.Rows.{relation_type_is, tuple_type_is}
use Rattle.td_tree.specs.declared.type_tree.AttributeTree.{AttributeTree}
use Rattle.td_tree.specs.declared.type_tree.TypeTree.{TypeTree}
use Rattle.td_tree.specs.declared.type_tree.TypeTree.TheVariants as t
use Rattle.td_tree.specs.model.Heights.{attributes_height, type_height}
use Rattle.td_tree.specs.code.TreeViews.{heading_tree_view, type_tree_view}
use Rattle.td_tree.proofs.+type_height.Goals as goal

with_heading : (a : TypeTree) (v : Vec AttributeTree) → (a ≡ t.Tuple v) ⊎ (a ≡ t.Relation v)
    → type_height (type_tree_view a) ≡ attributes_height (heading_tree_view v.items) + 1
with_heading a v is = elim is [
  | inl e ↦ ap type_height (ap type_tree_view e ∙ tuple_type_is v)
  | inr e ↦ ap type_height (ap type_tree_view e ∙ relation_type_is v)
]

pub type_tree::TypeTree::height-returns-in-Tuple :
    goal.type_tree::TypeTree::height-returns-in-Tuple
type_tree::TypeTree::height-returns-in-Tuple t c =
    let e = with_heading _ c.in-Tuple.heading c.in-Tuple.is in
    let h = ap (λ x. attributes_height (heading_tree_view x)) c.deref.ensures.value in
    omega arith
