-- What the parts of lists stand for, where reading gives lists.
use Rattle.std.specs.Prelude.{List, map}
use Rattle.td_tree.specs.declared.expression.NamedExpr.{NamedExpr}
use Rattle.td_tree.specs.declared.expression.Summary.{Summary}
use Rattle.td_tree.specs.declared.expression.Summary.TheVariants as s
use Rattle.td_tree.specs.declared.type_tree.AttributeTree.{AttributeTree}
use Rattle.td_parse.specs.code.Reading.{SummaryItem, count_item, sum_item}
use Rattle.td_tree.specs.code.TreeViews.{tree_view, type_tree_view}
use Rattle.td_tree.specs.model.Trees.{Text, Tree, TypeTree}

-- a name and its type
abbrev pub attribute_tree_view : AttributeTree → Text × TypeTree
attribute_tree_view a = (a.name, type_tree_view a.ty)

abbrev pub attribute_trees_view : List AttributeTree → List (Text × TypeTree)
attribute_trees_view = map attribute_tree_view

-- a name and its expression
abbrev pub named_part_view : NamedExpr → Text × Tree
named_part_view p = (p.name, tree_view p.value)

-- one of the attributes that SUMMARIZE adds
abbrev pub item_view : Summary → SummaryItem
item_view (s.Count name) = count_item name
item_view (s.Of op value name) = sum_item op (tree_view value) name
