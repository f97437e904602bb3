-- Lists of parts, as reading gives them and as trees hold them.
use Rattle.std.proofs.Common.{◌≡◌, List, [], ◌∷◌, refl, ap, map}
use Rattle.td_parse.specs.code.ReadingTypes.{attribute_trees_from}
use Rattle.td_tree.specs.declared.expression.Expr.{Expr}
use Rattle.td_tree.specs.declared.expression.NamedExpr.{NamedExpr}
use Rattle.td_tree.specs.declared.expression.Summary.{Summary}
use Rattle.td_tree.specs.declared.expression.Summary.TheVariants as s
use Rattle.td_tree.specs.declared.type_tree.AttributeTree.{AttributeTree}
use Rattle.td_parse.specs.code.Reading.{named_from, summaries_from, trees_from}
use Rattle.td_tree.specs.model.Trees as tree
use Rattle.td_tree.specs.code.TreeViews.{heading_tree_view, named_view, summaries_view, tree_view, trees_view, type_tree_view}
use Rattle.td_parse.specs.code.Views.{attribute_trees_view, item_view, named_part_view}

pub attributes_from_of : (all : List AttributeTree) → attribute_trees_from (attribute_trees_view all) ≡ heading_tree_view all
attributes_from_of [] = refl
attributes_from_of (a ∷ rest) = ap (λ r. tree.attribute a.name (type_tree_view a.ty) r) (attributes_from_of rest)

pub trees_from_of : (all : List Expr) → trees_from (map tree_view all) ≡ trees_view all
trees_from_of [] = refl
trees_from_of (a ∷ rest) = ap (λ r. tree.more (tree_view a) r) (trees_from_of rest)

pub named_from_of : (all : List NamedExpr) → named_from (map named_part_view all) ≡ named_view all
named_from_of [] = refl
named_from_of (a ∷ rest) = ap (λ r. tree.more_named a.name (tree_view a.value) r) (named_from_of rest)

pub summaries_from_of : (all : List Summary) → summaries_from (map item_view all) ≡ summaries_view all
summaries_from_of [] = refl
summaries_from_of (s.Count name ∷ rest) = ap (λ r. tree.counted name r) (summaries_from_of rest)
summaries_from_of (s.Of op value name ∷ rest) = ap (λ r. tree.summed op (tree_view value) name r) (summaries_from_of rest)
