-- Types, expressions and statements as they are written, apart from how the code stores them.
-- Parentheses are nodes.
use Rattle.std.specs.Prelude.{ℕ, Bool, List, Option}
use Rattle.td_tree.specs.declared.operator.Operator.{Operator}
use Rattle.td_tree.specs.declared.operator.Comparison.{Comparison}
use Rattle.td_tree.specs.declared.operator.Prefix.{Prefix}
use Rattle.td_tree.specs.declared.operator.Measure.{Measure}
use Rattle.td_tree.specs.declared.operator.Aggregate.{Aggregate}
use Rattle.td_tree.specs.declared.operator.Style.{Style}

-- the bytes of a name, or of a text
abbrev pub Text : Type 0
Text = List ℕ

mutual
  -- a type
  pub data TypeTree : Type 0 where
    integer : TypeTree
    char : TypeTree
    boolean : TypeTree
    user : (name : Text) → TypeTree
    tuple_type : (heading : AttributeTrees) → TypeTree
    relation_type : (heading : AttributeTrees) → TypeTree

  -- names with their types, in the order written
  pub data AttributeTrees : Type 0 where
    no_attributes : AttributeTrees
    attribute : (name : Text) (ty : TypeTree) (rest : AttributeTrees) → AttributeTrees

-- a literal: a number with or without a minus, a text, a truth value, TABLE_DEE, TABLE_DUM
pub data Literal : Type 0 where
  number : (minus : Bool) (magnitude : ℕ) → Literal
  text : (content : Text) → Literal
  truth : (value : Bool) → Literal
  table_dee : Literal
  table_dum : Literal

-- some attributes: those named, or all but those named
pub data Attributes : Type 0 where
  only : (names : List Text) → Attributes
  all_but : (names : List Text) → Attributes

-- an attribute's name before and after RENAME
pub record Renaming : Type 0 where
  pub old : Text
  pub new : Text

-- an operator behind its operand; a style says how it is spelled, and nothing of what it means
pub data Postfix : Type 0 where
  project : (attributes : Attributes) → Postfix
  rename : (style : Style) (renamings : List Renaming) → Postfix
  group : (style : Style) (attributes : Attributes) (name : Text) → Postfix
  ungroup : (name : Text) → Postfix
  wrap : (style : Style) (attributes : Attributes) (name : Text) → Postfix
  unwrap : (name : Text) → Postfix

mutual
  -- an expression
  pub data Tree : Type 0 where
    literal : (value : Literal) → Tree
    name : (text : Text) → Tree
    parentheses : (inner : Tree) → Tree
    prefix : (op : Prefix) (operand : Tree) → Tree
    extract : (attribute : Text) (operand : Tree) → Tree
    restriction : (operand condition : Tree) → Tree
    binary : (left : Tree) (op : Operator) (right : Tree) → Tree
    compare : (left : Tree) (op : Comparison) (right : Tree) → Tree
    postfix : (operand : Tree) (op : Postfix) → Tree
    select : (ty : Text) (arguments : Trees) → Tree
    component : (rest : Text) (operand : Tree) → Tree
    measure : (op : Measure) (operand : Tree) → Tree
    aggregate : (op : Aggregate) (operand value : Tree) → Tree
    relation : (elements : Trees) → Tree
    headed_relation : (heading : AttributeTrees) (elements : Trees) → Tree
    tuple : (parts : NamedTrees) → Tree
    extend : (operand : Tree) (parts : NamedTrees) → Tree
    extend_setting : (operand : Tree) (settings : NamedTrees) → Tree
    summarize_per : (operand per : Tree) (summaries : Summaries) → Tree
    summarize_by : (operand : Tree) (by : Attributes) (summaries : Summaries) → Tree
    choice : (condition consequent alternative : Tree) → Tree
    binding : (items : NamedTrees) (result : Tree) → Tree

  -- expressions, in the order written
  pub data Trees : Type 0 where
    none : Trees
    more : (first : Tree) (rest : Trees) → Trees

  -- expressions with the names that their values get
  pub data NamedTrees : Type 0 where
    none_named : NamedTrees
    more_named : (name : Text) (value : Tree) (rest : NamedTrees) → NamedTrees

  -- what SUMMARIZE adds
  pub data Summaries : Type 0 where
    no_summaries : Summaries
    counted : (name : Text) (rest : Summaries) → Summaries
    summed : (op : Aggregate) (value : Tree) (name : Text) (rest : Summaries) → Summaries

-- one assignment
pub data Assignment : Type 0 where
  assign : (target : Text) (source : Tree) → Assignment
  insert : (target : Text) (source : Tree) → Assignment
  disjoint_insert : (target : Text) (source : Tree) → Assignment
  delete : (target : Text) (condition : Option Tree) → Assignment
  included_delete : (target : Text) (source : Tree) → Assignment
  update : (style : Style) (target : Text) (condition : Option Tree) (settings : NamedTrees) → Assignment

-- a statement
pub data Statement : Type 0 where
  empty : Statement
  define_type : (name : Text) (components : AttributeTrees) (constraint : Option Tree) → Statement
  drop_type : (name : Text) → Statement
  define_base : (name : Text) (heading : AttributeTrees) (init : Option Tree)
      (keys : List (List Text)) → Statement
  define_virtual : (name : Text) (expression : Tree) (keys : List (List Text)) → Statement
  drop_var : (name : Text) → Statement
  define_constraint : (name : Text) (condition : Tree) → Statement
  drop_constraint : (name : Text) → Statement
  assign_all : (assignments : List Assignment) → Statement
  begin_transaction : Statement
  commit : Statement
  rollback : Statement
  write : (expression : Tree) → Statement
  dump : Statement
