-- What the trees of the code stand for.
use Rattle.std.specs.Prelude.{List, [], ◌∷◌, map, option_map}
use Rattle.std.specs.Global.{Vec}
use Rattle.std.specs.Rc.{rc_str_bytes}
use Rattle.td_tree.specs.declared.expression.Attributes.{Attributes}
use Rattle.td_tree.specs.declared.expression.Attributes.TheVariants.{Only, AllBut}
use Rattle.td_tree.specs.declared.expression.Expr.{Expr, Row_of-Expr, end_of-Expr, more_of-Expr, Row_of-NamedExpr, end_of-NamedExpr, more_of-NamedExpr, Row_of-Summary, end_of-Summary, more_of-Summary}
use Rattle.td_tree.specs.declared.expression.Expr.TheVariants as e
use Rattle.td_tree.specs.declared.expression.Literal.{Literal}
use Rattle.td_tree.specs.declared.expression.Literal.TheVariants as l
use Rattle.td_tree.specs.declared.expression.NamedExpr.{NamedExpr}
use Rattle.td_tree.specs.declared.expression.Postfix.{Postfix}
use Rattle.td_tree.specs.declared.expression.Postfix.TheVariants as p
use Rattle.td_tree.specs.declared.expression.Renaming.{Renaming}
use Rattle.td_tree.specs.declared.expression.Summary.{Summary}
use Rattle.td_tree.specs.declared.expression.Summary.TheVariants as s
use Rattle.td_tree.specs.declared.statement.Assignment.{Assignment}
use Rattle.td_tree.specs.declared.statement.Assignment.TheVariants as a
use Rattle.td_tree.specs.declared.statement.Statement.{Statement}
use Rattle.td_tree.specs.declared.statement.Statement.TheVariants as q
use Rattle.td_tree.specs.declared.type_tree.AttributeTree.{AttributeTree}
use Rattle.td_tree.specs.declared.type_tree.TypeTree.{TypeTree, Row_of-AttributeTree, end_of-AttributeTree, more_of-AttributeTree}
use Rattle.td_tree.specs.declared.type_tree.TypeTree.TheVariants as t
use Rattle.td_tree.specs.model.Trees as trees
use Rattle.td_tree.specs.model.Trees.{Text}

abbrev mutual
  pub type_tree_view : TypeTree → trees.TypeTree
  type_tree_view t.Integer = trees.integer
  type_tree_view t.Char = trees.char
  type_tree_view t.Boolean = trees.boolean
  type_tree_view (t.User name) = trees.user name
  type_tree_view (t.Tuple' shape heading) = trees.tuple_type (heading_row heading)
  type_tree_view (t.Relation' shape heading) = trees.relation_type (heading_row heading)

  pub heading_row : {m : _} → Row_of-AttributeTree m → trees.AttributeTrees
  heading_row end_of-AttributeTree = trees.no_attributes
  heading_row (more_of-AttributeTree name ty rest) =
      trees.attribute name (type_tree_view ty) (heading_row rest)

-- names with their types
abbrev pub heading_tree_view : List AttributeTree → trees.AttributeTrees
heading_tree_view [] = trees.no_attributes
heading_tree_view (first ∷ rest) = trees.attribute first.name (type_tree_view first.ty) (heading_tree_view rest)

abbrev pub literal_view : Literal → trees.Literal
literal_view (l.Number minus magnitude) = trees.number minus magnitude
literal_view (l.Text content) = trees.text (rc_str_bytes content)
literal_view (l.Truth value) = trees.truth value
literal_view l.TableDee = trees.table_dee
literal_view l.TableDum = trees.table_dum

abbrev pub attributes_view : Attributes → trees.Attributes
attributes_view (Only names) = trees.only names.items
attributes_view (AllBut names) = trees.all_but names.items

abbrev pub renaming_view : Renaming → trees.Renaming
renaming_view r = record { old = r.old; new = r.new }

abbrev pub postfix_view : Postfix → trees.Postfix
postfix_view (p.Project attributes) = trees.project (attributes_view attributes)
postfix_view (p.Rename style renamings) = trees.rename style (map renaming_view renamings.items)
postfix_view (p.Group style attributes name) = trees.group style (attributes_view attributes) name
postfix_view (p.Ungroup name) = trees.ungroup name
postfix_view (p.Wrap style attributes name) = trees.wrap style (attributes_view attributes) name
postfix_view (p.Unwrap name) = trees.unwrap name

abbrev mutual
  pub tree_view : Expr → trees.Tree
  tree_view (e.Literal value) = trees.literal (literal_view value)
  tree_view (e.Name name) = trees.name name
  tree_view (e.Parentheses' _ inner) = trees.parentheses (tree_view inner)
  tree_view (e.Prefix' op _ operand) = trees.prefix op (tree_view operand)
  tree_view (e.Extract' attribute _ operand) = trees.extract attribute (tree_view operand)
  tree_view (e.Restriction' _ operand _ condition) =
      trees.restriction (tree_view operand) (tree_view condition)
  tree_view (e.Binary' _ left op _ right) = trees.binary (tree_view left) op (tree_view right)
  tree_view (e.Compare' _ left op _ right) = trees.compare (tree_view left) op (tree_view right)
  tree_view (e.Postfix' _ operand op) = trees.postfix (tree_view operand) (postfix_view op)
  tree_view (e.Select' ty _ arguments) = trees.select ty (trees_row arguments)
  tree_view (e.Component' rest _ operand) = trees.component (rc_str_bytes rest) (tree_view operand)
  tree_view (e.Measure' op _ operand) = trees.measure op (tree_view operand)
  tree_view (e.Aggregate' op _ operand _ value) = trees.aggregate op (tree_view operand) (tree_view value)
  tree_view (e.Relation' _ elements) = trees.relation (trees_row elements)
  tree_view (e.HeadedRelation' heading _ elements) =
      trees.headed_relation (heading_tree_view heading.items) (trees_row elements)
  tree_view (e.Tuple' _ parts) = trees.tuple (named_row parts)
  tree_view (e.Extend' _ operand _ parts) = trees.extend (tree_view operand) (named_row parts)
  tree_view (e.ExtendSetting' _ operand _ parts) =
      trees.extend_setting (tree_view operand) (named_row parts)
  tree_view (e.SummarizePer' _ operand _ per _ summaries) =
      trees.summarize_per (tree_view operand) (tree_view per) (summaries_row summaries)
  tree_view (e.SummarizeBy' _ operand by _ summaries) =
      trees.summarize_by (tree_view operand) (attributes_view by) (summaries_row summaries)
  tree_view (e.If' _ condition _ consequent _ alternative) =
      trees.choice (tree_view condition) (tree_view consequent) (tree_view alternative)
  tree_view (e.With' _ items _ result) = trees.binding (named_row items) (tree_view result)

  pub trees_row : {m : _} → Row_of-Expr m → trees.Trees
  trees_row end_of-Expr = trees.none
  trees_row (more_of-Expr first rest) = trees.more (tree_view first) (trees_row rest)

  pub named_row : {m : _} → Row_of-NamedExpr m → trees.NamedTrees
  named_row end_of-NamedExpr = trees.none_named
  named_row (more_of-NamedExpr name value rest) =
      trees.more_named name (tree_view value) (named_row rest)

  pub summaries_row : {m : _} → Row_of-Summary m → trees.Summaries
  summaries_row end_of-Summary = trees.no_summaries
  summaries_row (more_of-Summary first rest) = with_summary first (summaries_row rest)

  pub with_summary : Summary → trees.Summaries → trees.Summaries
  with_summary (s.Count name) rest = trees.counted name rest
  with_summary (s.Of op value name) rest = trees.summed op (tree_view value) name rest

-- expressions, in the order written
abbrev pub trees_view : List Expr → trees.Trees
trees_view [] = trees.none
trees_view (first ∷ rest) = trees.more (tree_view first) (trees_view rest)

-- expressions with their names
abbrev pub named_view : List NamedExpr → trees.NamedTrees
named_view [] = trees.none_named
named_view (first ∷ rest) = trees.more_named first.name (tree_view first.value) (named_view rest)

-- what SUMMARIZE adds
abbrev pub summaries_view : List Summary → trees.Summaries
summaries_view [] = trees.no_summaries
summaries_view (first ∷ rest) = with_summary first (summaries_view rest)

abbrev pub assignment_view : Assignment → trees.Assignment
assignment_view (a.Assign target source) = trees.assign target (tree_view source)
assignment_view (a.Insert target source) = trees.insert target (tree_view source)
assignment_view (a.DisjointInsert target source) = trees.disjoint_insert target (tree_view source)
assignment_view (a.Delete target condition) = trees.delete target (option_map tree_view condition)
assignment_view (a.IncludedDelete target source) = trees.included_delete target (tree_view source)
assignment_view (a.Update style target condition settings) =
    trees.update style target (option_map tree_view condition) (named_view settings.items)

-- the names of each key
abbrev keys_view : List (Vec Text) → List (List Text)
keys_view = map (λ (key : Vec Text). key.items)

abbrev pub statement_view : Statement → trees.Statement
statement_view q.Empty = trees.empty
statement_view (q.DefineType d) =
    trees.define_type d.name (heading_tree_view d.components.items) (option_map tree_view d.constraint)
statement_view (q.DropType name) = trees.drop_type name
statement_view (q.DefineBase d) =
    trees.define_base d.name (heading_tree_view d.heading.items) (option_map tree_view d.init)
    (keys_view d.keys.items)
statement_view (q.DefineVirtual d) =
    trees.define_virtual d.name (tree_view d.expression) (keys_view d.keys.items)
statement_view (q.DropVar name) = trees.drop_var name
statement_view (q.DefineConstraint name condition) = trees.define_constraint name (tree_view condition)
statement_view (q.DropConstraint name) = trees.drop_constraint name
statement_view (q.Assign assignments) = trees.assign_all (map assignment_view assignments.items)
statement_view q.BeginTransaction = trees.begin_transaction
statement_view q.Commit = trees.commit
statement_view q.Rollback = trees.rollback
statement_view (q.Write expression) = trees.write (tree_view expression)
statement_view q.Dump = trees.dump
