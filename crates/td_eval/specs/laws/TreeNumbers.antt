-- The numbers in an expression are in INTEGER's range, at every depth (this project's own: what tokens spell is such, since a
-- number out of range is read as no expression).
use Rattle.std.specs.Prelude.{◌≤◌, List, ⊤}
use Rattle.td_tree.specs.declared.operator.Level.{Level}
use Rattle.td_tree.specs.model.Grammar.{Spelling}
use Rattle.td_tree.specs.model.Lexemes.{Lexeme}
use Rattle.td_tree.specs.model.Numbers.{numeral_limit}
use Rattle.td_tree.specs.model.Trees.{Literal, number, text, truth, table_dee, table_dum, Tree, literal, name, parentheses, prefix, extract, restriction, binary, compare, postfix, select, component, measure, aggregate, relation, headed_relation, tuple, extend, extend_setting, summarize_per, summarize_by, choice, binding, Trees, none, more, NamedTrees, none_named, more_named, Summaries, no_summaries, counted, summed}

abbrev pub IsInRangeLiteral : Literal → Type 0
IsInRangeLiteral (number minus magnitude) = magnitude ≤ numeral_limit minus
IsInRangeLiteral (text content) = ⊤
IsInRangeLiteral (truth value) = ⊤
IsInRangeLiteral table_dee = ⊤
IsInRangeLiteral table_dum = ⊤

abbrev mutual
  pub HasNumbers : Tree → Type 0
  HasNumbers (literal l) = IsInRangeLiteral l
  HasNumbers (name n) = ⊤
  HasNumbers (parentheses inner) = HasNumbers inner
  HasNumbers (prefix op operand) = HasNumbers operand
  HasNumbers (extract a operand) = HasNumbers operand
  HasNumbers (restriction operand condition) = HasNumbers operand × HasNumbers condition
  HasNumbers (binary left op right) = HasNumbers left × HasNumbers right
  HasNumbers (compare left op right) = HasNumbers left × HasNumbers right
  HasNumbers (postfix operand op) = HasNumbers operand
  HasNumbers (select ty arguments) = HaveNumbers arguments
  HasNumbers (component rest operand) = HasNumbers operand
  HasNumbers (measure op operand) = HasNumbers operand
  HasNumbers (aggregate op operand value) = HasNumbers operand × HasNumbers value
  HasNumbers (relation elements) = HaveNumbers elements
  HasNumbers (headed_relation heading elements) = HaveNumbers elements
  HasNumbers (tuple parts) = PartsHaveNumbers parts
  HasNumbers (extend operand parts) = HasNumbers operand × PartsHaveNumbers parts
  HasNumbers (extend_setting operand settings) = HasNumbers operand × PartsHaveNumbers settings
  HasNumbers (summarize_per operand per items) = HasNumbers operand × HasNumbers per × ItemsHaveNumbers items
  HasNumbers (summarize_by operand by items) = HasNumbers operand × ItemsHaveNumbers items
  HasNumbers (choice condition consequent alternative) = HasNumbers condition × HasNumbers consequent × HasNumbers alternative
  HasNumbers (binding items result) = PartsHaveNumbers items × HasNumbers result

  pub HaveNumbers : Trees → Type 0
  HaveNumbers none = ⊤
  HaveNumbers (more first rest) = HasNumbers first × HaveNumbers rest

  pub PartsHaveNumbers : NamedTrees → Type 0
  PartsHaveNumbers none_named = ⊤
  PartsHaveNumbers (more_named n value rest) = HasNumbers value × PartsHaveNumbers rest

  pub ItemsHaveNumbers : Summaries → Type 0
  ItemsHaveNumbers no_summaries = ⊤
  ItemsHaveNumbers (counted n rest) = ItemsHaveNumbers rest
  ItemsHaveNumbers (summed op value n rest) = HasNumbers value × ItemsHaveNumbers rest

-- ---- laws

-- what tokens spell is such
abbrev pub SpelledNumbersAreInRange : Type 0
SpelledNumbersAreInRange = (level : Level) (xs : List Lexeme) (e : Tree) → Spelling level xs e → HasNumbers e
