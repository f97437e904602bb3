-- The user types named in a type, attribute by attribute.
use Rattle.std.proofs.Common.{◌≡◌, ◌∙◌, ◌∷◌, ◌++◌, ◌+◌, ◌<◌, ◌⊎◌, inl, inr, ℕ, List, [], ap, get_or, length, sym, take}
use Rattle.std.proofs.lemmas.List.{append-nil, append_assoc, take_more}
use Rattle.std.specs.Global.{Vec}
use Rattle.td_check.specs.model.Mentions.{types_named, types_named_in}
use Rattle.td_tree.specs.declared.type_tree.AttributeTree.{AttributeTree}
use Rattle.td_tree.specs.declared.type_tree.TypeTree.{TypeTree}
use Rattle.td_tree.specs.declared.type_tree.TypeTree.TheVariants as t
use Rattle.td_tree.specs.code.TreeViews.{heading_tree_view, type_tree_view}
use Rattle.td_tree.proofs.code_lemmas.Rows.{relation_type_is, tuple_type_is}

named_of_tuple : (tree : TypeTree) (v : Vec AttributeTree) (xs : List AttributeTree) → tree ≡ t.Tuple v → xs ≡ v.items
    → types_named_in (heading_tree_view xs) ≡ types_named (type_tree_view tree)
named_of_tuple tree v xs is same =
    ap (λ ys. types_named_in (heading_tree_view ys)) same ∙ sym (ap (λ u. types_named (type_tree_view u)) is ∙ ap types_named (tuple_type_is v))

named_of_relation : (tree : TypeTree) (v : Vec AttributeTree) (xs : List AttributeTree) → tree ≡ t.Relation v → xs ≡ v.items
    → types_named_in (heading_tree_view xs) ≡ types_named (type_tree_view tree)
named_of_relation tree v xs is same =
    ap (λ ys. types_named_in (heading_tree_view ys)) same ∙ sym (ap (λ u. types_named (type_tree_view u)) is ∙ ap types_named (relation_type_is v))

pub named_of_either : (tree : TypeTree) (v : Vec AttributeTree) (xs : List AttributeTree) → (tree ≡ t.Tuple v) ⊎ (tree ≡ t.Relation v) → xs ≡ v.items
    → types_named_in (heading_tree_view xs) ≡ types_named (type_tree_view tree)
named_of_either tree v xs (inl is) same = named_of_tuple tree v xs is same
named_of_either tree v xs (inr is) same = named_of_relation tree v xs is same

named_last : (xs : List AttributeTree) (x : AttributeTree)
    → types_named_in (heading_tree_view (xs ++ (x ∷ []))) ≡ types_named_in (heading_tree_view xs) ++ types_named (type_tree_view x.ty)
named_last [] x = append-nil (types_named (type_tree_view x.ty))
named_last (y ∷ xs) x =
    ap (λ ns. types_named (type_tree_view y.ty) ++ ns) (named_last xs x)
    ∙ sym (append_assoc (types_named (type_tree_view y.ty)) (types_named_in (heading_tree_view xs)) (types_named (type_tree_view x.ty)))

-- once past one more attribute
pub named_more : (xs : List AttributeTree) (i : ℕ) (x : AttributeTree) → i < length xs → x ≡ get_or xs i x
    → (before now later : List (List ℕ)) → now ≡ before ++ types_named_in (heading_tree_view (take i xs)) → later ≡ now ++ types_named (type_tree_view x.ty)
    → later ≡ before ++ types_named_in (heading_tree_view (take (i + 1) xs))
named_more xs i x inside is before now later so_far more =
    more ∙ ap (λ ns. ns ++ types_named (type_tree_view x.ty)) so_far
    ∙ append_assoc before (types_named_in (heading_tree_view (take i xs))) (types_named (type_tree_view x.ty))
    ∙ ap (λ ns. before ++ ns) (sym (ap (λ ys. types_named_in (heading_tree_view ys)) (take_more xs i x inside)
    ∙ ap (λ z. types_named_in (heading_tree_view (take i xs ++ (z ∷ [])))) (sym is) ∙ named_last (take i xs) x))
