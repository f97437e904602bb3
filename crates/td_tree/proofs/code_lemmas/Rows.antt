-- The children of a tree, as the code stores them, are the list of their vector.
use Rattle.std.proofs.Common.{◌≡◌, refl, sym, ap, subst, ◌∙◌, Result}
use Rattle.std.specs.Global.{Box, Vec}
use Rattle.td_tree.specs.code.Copies.{Copied}
use Rattle.td_tree.specs.declared.expression.Attributes.{Attributes}
use Rattle.td_tree.specs.declared.expression.Expr.{Expr, Row_of-Expr, end_of-Expr, more_of-Expr, items-the_row-Expr, items_hidden-the_row-Expr-0, Row_of-NamedExpr, end_of-NamedExpr, more_of-NamedExpr, items-the_row-NamedExpr, items_hidden-the_row-NamedExpr-1, Row_of-Summary, end_of-Summary, more_of-Summary, items-the_row-Summary, items_hidden-the_row-Summary-2}
use Rattle.td_tree.specs.declared.expression.Expr.TheVariants as e
use Rattle.td_tree.specs.declared.expression.NamedExpr.{NamedExpr}
use Rattle.td_tree.specs.declared.expression.Summary.{Summary}
use Rattle.td_tree.specs.declared.type_tree.AttributeTree.{AttributeTree}
use Rattle.td_tree.specs.declared.type_tree.TypeTree.{TypeTree, Row_of-AttributeTree, end_of-AttributeTree, more_of-AttributeTree, items-the_row-AttributeTree, items_hidden-the_row-AttributeTree-0}
use Rattle.td_tree.specs.declared.type_tree.TypeTree.TheVariants as t
use Rattle.td_tree.specs.code.TreeViews.{type_tree_view, heading_row, heading_tree_view, tree_view, trees_row, trees_view, named_row, named_view, summaries_row, summaries_view, with_summary, attributes_view}
use Rattle.td_tree.specs.model.Trees as trees
use Rattle.td_tree.specs.model.Trees.{Text}

heading_rows : (n : _) (row : Row_of-AttributeTree n) → heading_row row ≡ heading_tree_view (items-the_row-AttributeTree n row)
heading_rows n end_of-AttributeTree = refl
heading_rows n (more_of-AttributeTree name ty rest) = ap (λ (r : trees.AttributeTrees). trees.attribute name (type_tree_view ty) r) (heading_rows _ rest)

expression_rows : (n : _) (row : Row_of-Expr n) → trees_row row ≡ trees_view (items-the_row-Expr n row)
expression_rows n end_of-Expr = refl
expression_rows n (more_of-Expr first rest) = ap (λ (r : trees.Trees). trees.more (tree_view first) r) (expression_rows _ rest)

named_rows : (n : _) (row : Row_of-NamedExpr n) → named_row row ≡ named_view (items-the_row-NamedExpr n row)
named_rows n end_of-NamedExpr = refl
named_rows n (more_of-NamedExpr name value rest) = ap (λ (r : trees.NamedTrees). trees.more_named name (tree_view value) r) (named_rows _ rest)

summary_rows : (n : _) (row : Row_of-Summary n) → summaries_row row ≡ summaries_view (items-the_row-Summary n row)
summary_rows n end_of-Summary = refl
summary_rows n (more_of-Summary first rest) = ap (λ (r : trees.Summaries). with_summary first r) (summary_rows _ rest)

-- ---- the rows of a vector

abbrev attribute_row : TypeTree → (n : _) × Row_of-AttributeTree n
attribute_row (t.Relation' _ row) = (_, row)
attribute_row _ = (_, end_of-AttributeTree)

abbrev expression_row : Expr → (n : _) × Row_of-Expr n
expression_row (e.Relation' _ row) = (_, row)
expression_row _ = (_, end_of-Expr)

abbrev part_row : Expr → (n : _) × Row_of-NamedExpr n
part_row (e.Tuple' _ row) = (_, row)
part_row _ = (_, end_of-NamedExpr)

abbrev summary_row : Expr → (n : _) × Row_of-Summary n
summary_row (e.SummarizeBy' _ _ _ _ row) = (_, row)
summary_row (e.SummarizePer' _ _ _ _ _ row) = (_, row)
summary_row _ = (_, end_of-Summary)

pub attributes_are : (v : Vec AttributeTree) → heading_row (attribute_row (t.Relation v)).1 ≡ heading_tree_view v.items
attributes_are v =
    let row = attribute_row (t.Relation v) in
    heading_rows row.0 row.1 ∙ ap heading_tree_view (items_hidden-the_row-AttributeTree-0 v)

pub tuple_type_is : (v : Vec AttributeTree) → type_tree_view (t.Tuple v) ≡ trees.tuple_type (heading_tree_view v.items)
tuple_type_is v = ap trees.tuple_type (attributes_are v)

pub relation_type_is : (v : Vec AttributeTree) → type_tree_view (t.Relation v) ≡ trees.relation_type (heading_tree_view v.items)
relation_type_is v = ap trees.relation_type (attributes_are v)

pub expressions_are : (v : Vec Expr) → trees_row (expression_row (e.Relation v)).1 ≡ trees_view v.items
expressions_are v =
    let row = expression_row (e.Relation v) in
    expression_rows row.0 row.1 ∙ ap trees_view (items_hidden-the_row-Expr-0 v)

pub parts_are : (v : Vec NamedExpr) → named_row (part_row (e.Tuple v)).1 ≡ named_view v.items
parts_are v =
    let row = part_row (e.Tuple v) in
    named_rows row.0 row.1 ∙ ap named_view (items_hidden-the_row-NamedExpr-1 v)

pub select_is : (ty : Text) (v : Vec Expr) → tree_view (e.Select ty v) ≡ trees.select ty (trees_view v.items)
select_is ty v = ap (trees.select ty) (expressions_are v)

pub headed_relation_is : (h : Vec AttributeTree) (v : Vec Expr) → tree_view (e.HeadedRelation h v) ≡ trees.headed_relation (heading_tree_view h.items) (trees_view v.items)
headed_relation_is h v = ap (trees.headed_relation (heading_tree_view h.items)) (expressions_are v)

pub tuple_is : (v : Vec NamedExpr) → tree_view (e.Tuple v) ≡ trees.tuple (named_view v.items)
tuple_is v = ap trees.tuple (parts_are v)

pub relation_is : (v : Vec Expr) → tree_view (e.Relation v) ≡ trees.relation (trees_view v.items)
relation_is v = ap trees.relation (expressions_are v)

pub extend_is : (b : Box Expr) (v : Vec NamedExpr) → tree_view (e.Extend b v) ≡ trees.extend (tree_view b.value) (named_view v.items)
extend_is b v = ap (trees.extend (tree_view b.value)) (parts_are v)

pub extend_setting_is : (b : Box Expr) (v : Vec NamedExpr) → tree_view (e.ExtendSetting b v) ≡ trees.extend_setting (tree_view b.value) (named_view v.items)
extend_setting_is b v = ap (trees.extend_setting (tree_view b.value)) (parts_are v)

pub binding_is : (v : Vec NamedExpr) (b : Box Expr) → tree_view (e.With v b) ≡ trees.binding (named_view v.items) (tree_view b.value)
binding_is v b = ap (λ items. trees.binding items (tree_view b.value)) (parts_are v)

pub summarize_per_is : (b p : Box Expr) (v : Vec Summary) → tree_view (e.SummarizePer b p v) ≡ trees.summarize_per (tree_view b.value) (tree_view p.value) (summaries_view v.items)
summarize_per_is b p v =
    let row = summary_row (e.SummarizePer b p v) in
    ap (trees.summarize_per (tree_view b.value) (tree_view p.value)) (summary_rows row.0 row.1 ∙ ap summaries_view (items_hidden-the_row-Summary-2 v))

pub summarize_by_is : (b : Box Expr) (by : Attributes) (v : Vec Summary) → tree_view (e.SummarizeBy b by v) ≡ trees.summarize_by (tree_view b.value) (attributes_view by) (summaries_view v.items)
summarize_by_is b by v =
    let row = summary_row (e.SummarizeBy b by v) in
    ap (trees.summarize_by (tree_view b.value) (attributes_view by)) (summary_rows row.0 row.1 ∙ ap summaries_view (items_hidden-the_row-Summary-2 v))

-- a copy of a tree is one of what is the same tree
pub copied_as : {E : Type 0} (result : Result Expr E) (a b : trees.Tree) → Copied result a → b ≡ a → Copied result b
copied_as result a b copied same = subst (λ t. Copied result t) (sym same) copied
