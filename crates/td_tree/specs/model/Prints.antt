-- The lexemes of a tree, and its text (this project's own): its lexemes with one space between.
use Rattle.std.specs.Prelude.{ℕ, true, false, List, [], ◌∷◌, ◌++◌, map}
use Rattle.td_tree.specs.declared.keyword.Keyword.TheVariants as k
use Rattle.td_tree.specs.declared.operator.Prefix.{Prefix}
use Rattle.td_tree.specs.declared.operator.Prefix.TheVariants as prefixes
use Rattle.td_tree.specs.declared.operator.Style.{Style}
use Rattle.td_tree.specs.declared.operator.Style.TheVariants as styles
use Rattle.td_tree.specs.declared.token.Sign.TheVariants as signs
use Rattle.td_tree.specs.model.Grammar.{operator_words, comparison_word, measure_word, aggregate_word}
use Rattle.td_tree.specs.model.Lexemes.{Lexeme, keyword, sign, spaced_text}
use Rattle.td_tree.specs.model.Lexemes as lexeme
use Rattle.td_tree.specs.model.Lists.{with_braces, with_parentheses}
use Rattle.td_tree.specs.model.Trees.{Text, TypeTree, integer, char, boolean, user, tuple_type, relation_type, AttributeTrees, no_attributes, attribute, Literal, number, text, truth, table_dee, table_dum, Attributes, only, all_but, Renaming, Postfix, project, rename, group, ungroup, wrap, unwrap, Tree, literal, name, parentheses, prefix, extract, restriction, binary, compare, postfix, select, component, measure, aggregate, relation, headed_relation, tuple, extend, extend_setting, summarize_per, summarize_by, choice, binding, Trees, none, more, NamedTrees, none_named, more_named, Summaries, no_summaries, counted, summed}

-- a comma before each item
abbrev pub following : List (List Lexeme) → List Lexeme
following [] = []
following (item ∷ items) = sign signs.Comma ∷ (item ++ following items)

-- items with a comma between
abbrev pub commas : List (List Lexeme) → List Lexeme
commas [] = []
commas (item ∷ items) = item ++ following items

abbrev mutual
  pub type_lexemes : TypeTree → List Lexeme
  type_lexemes integer = keyword k.Integer ∷ []
  type_lexemes char = keyword k.Char ∷ []
  type_lexemes boolean = keyword k.Boolean ∷ []
  type_lexemes (user n) = lexeme.name n ∷ []
  type_lexemes (tuple_type heading) = keyword k.Tuple ∷ with_braces (commas (attribute_lexemes heading))
  type_lexemes (relation_type heading) =
      keyword k.Relation ∷ with_braces (commas (attribute_lexemes heading))

  -- the lexemes of each attribute: its name and its type
  pub attribute_lexemes : AttributeTrees → List (List Lexeme)
  attribute_lexemes no_attributes = []
  attribute_lexemes (attribute n ty rest) =
      (lexeme.name n ∷ type_lexemes ty) ∷ attribute_lexemes rest

abbrev pub heading_lexemes : AttributeTrees → List Lexeme
heading_lexemes heading = with_braces (commas (attribute_lexemes heading))

abbrev pub literal_lexemes : Literal → List Lexeme
literal_lexemes (number true n) = sign signs.Minus ∷ (lexeme.number n ∷ [])
literal_lexemes (number false n) = lexeme.number n ∷ []
literal_lexemes (text said) = lexeme.text said ∷ []
literal_lexemes (truth true) = keyword k.True ∷ []
literal_lexemes (truth false) = keyword k.False ∷ []
literal_lexemes table_dee = keyword k.TableDee ∷ []
literal_lexemes table_dum = keyword k.TableDum ∷ []

-- names with a comma between
abbrev pub name_lexemes : List Text → List Lexeme
name_lexemes names = commas (map (λ n. lexeme.name n ∷ []) names)

abbrev pub attributes_lexemes : Attributes → List Lexeme
attributes_lexemes (only names) = with_braces (name_lexemes names)
attributes_lexemes (all_but names) = with_braces (keyword k.All ∷ (keyword k.But ∷ name_lexemes names))

abbrev pub renaming_lexemes : Renaming → List Lexeme
renaming_lexemes r = lexeme.name r.old ∷ (keyword k.As ∷ (lexeme.name r.new ∷ []))

-- AS and a name
abbrev pub as_lexemes : Text → List Lexeme
as_lexemes n = keyword k.As ∷ (lexeme.name n ∷ [])

-- renamings in parentheses, or in braces
abbrev pub renamings_between : Style → List Lexeme → List Lexeme
renamings_between styles.Older xs = with_parentheses xs
renamings_between styles.Newer xs = with_braces xs

-- attributes with the name of the one that they become, in parentheses or not
abbrev pub gathering_between : Style → List Lexeme → List Lexeme
gathering_between styles.Older xs = with_parentheses xs
gathering_between styles.Newer xs = xs

abbrev pub postfix_lexemes : Postfix → List Lexeme
postfix_lexemes (project attributes) = attributes_lexemes attributes
postfix_lexemes (rename style renamings) =
    keyword k.Rename ∷ renamings_between style (commas (map renaming_lexemes renamings))
postfix_lexemes (group style attributes n) =
    keyword k.Group ∷ gathering_between style (attributes_lexemes attributes ++ as_lexemes n)
postfix_lexemes (ungroup n) = keyword k.Ungroup ∷ with_parentheses (lexeme.name n ∷ [])
postfix_lexemes (wrap style attributes n) =
    keyword k.Wrap ∷ gathering_between style (attributes_lexemes attributes ++ as_lexemes n)
postfix_lexemes (unwrap n) = keyword k.Unwrap ∷ with_parentheses (lexeme.name n ∷ [])

abbrev pub prefix_words : Prefix → List Lexeme
prefix_words prefixes.Not = keyword k.Not ∷ []
prefix_words prefixes.Negate = sign signs.Minus ∷ []
prefix_words prefixes.TransitiveClosure = keyword k.Tclose ∷ []
prefix_words prefixes.TupleFrom = keyword k.Tuple ∷ (keyword k.From ∷ [])

abbrev mutual
  pub lexemes_of : Tree → List Lexeme
  lexemes_of (literal l) = literal_lexemes l
  lexemes_of (name n) = lexeme.name n ∷ []
  lexemes_of (parentheses inner) = with_parentheses (lexemes_of inner)
  lexemes_of (prefix op operand) = prefix_words op ++ lexemes_of operand
  lexemes_of (extract a operand) = lexeme.name a ∷ (keyword k.From ∷ lexemes_of operand)
  lexemes_of (restriction operand condition) =
      lexemes_of operand ++ (keyword k.Where ∷ lexemes_of condition)
  lexemes_of (binary left op right) = lexemes_of left ++ (operator_words op ++ lexemes_of right)
  lexemes_of (compare left op right) = lexemes_of left ++ (comparison_word op ∷ lexemes_of right)
  lexemes_of (postfix operand op) = lexemes_of operand ++ postfix_lexemes op
  lexemes_of (select ty arguments) = lexeme.name ty ∷ with_parentheses (commas (all_lexemes arguments))
  lexemes_of (component rest operand) = lexeme.component rest ∷ with_parentheses (lexemes_of operand)
  lexemes_of (measure op operand) = keyword (measure_word op) ∷ with_parentheses (lexemes_of operand)
  lexemes_of (aggregate op operand value) =
      keyword (aggregate_word op)
      ∷ with_parentheses (lexemes_of operand ++ (sign signs.Comma ∷ lexemes_of value))
  lexemes_of (relation elements) = keyword k.Relation ∷ with_braces (commas (all_lexemes elements))
  lexemes_of (headed_relation heading elements) =
      keyword k.Relation ∷ (heading_lexemes heading ++ with_braces (commas (all_lexemes elements)))
  lexemes_of (tuple parts) = keyword k.Tuple ∷ with_braces (commas (part_lexemes parts))
  lexemes_of (extend operand parts) =
      keyword k.Extend
      ∷ (lexemes_of operand ++ (keyword k.Add ∷ with_parentheses (commas (addition_lexemes parts))))
  lexemes_of (extend_setting operand settings) =
      keyword k.Extend
      ∷ (lexemes_of operand
      ++ (sign signs.Colon ∷ with_braces (commas (setting_lexemes settings))))
  lexemes_of (summarize_per operand per summaries) =
      keyword k.Summarize
      ∷ (lexemes_of operand
      ++ (keyword k.Per
      ∷ (with_parentheses (lexemes_of per)
      ++ (keyword k.Add ∷ with_parentheses (commas (summary_lexemes summaries))))))
  lexemes_of (summarize_by operand by summaries) =
      keyword k.Summarize
      ∷ (lexemes_of operand
      ++ (keyword k.By
      ∷ (attributes_lexemes by
      ++ (keyword k.Add ∷ with_parentheses (commas (summary_lexemes summaries))))))
  lexemes_of (choice condition a b) =
      keyword k.If
      ∷ (lexemes_of condition
      ++ (keyword k.Then
      ∷ (lexemes_of a
      ++ (keyword k.Else ∷ (lexemes_of b ++ (keyword k.End ∷ (keyword k.If ∷ [])))))))
  lexemes_of (binding items result) =
      keyword k.With
      ∷ (with_parentheses (commas (setting_lexemes items)) ++ (sign signs.Colon ∷ lexemes_of result))

  -- the lexemes of each expression
  pub all_lexemes : Trees → List (List Lexeme)
  all_lexemes none = []
  all_lexemes (more first rest) = lexemes_of first ∷ all_lexemes rest

  -- the lexemes of each attribute of TUPLE: a name and an expression
  pub part_lexemes : NamedTrees → List (List Lexeme)
  part_lexemes none_named = []
  part_lexemes (more_named n value rest) = (lexeme.name n ∷ lexemes_of value) ∷ part_lexemes rest

  -- the lexemes of each attribute of EXTEND: an expression and a name
  pub addition_lexemes : NamedTrees → List (List Lexeme)
  addition_lexemes none_named = []
  addition_lexemes (more_named n value rest) =
      (lexemes_of value ++ as_lexemes n) ∷ addition_lexemes rest

  -- the lexemes of each attribute that is set: a name and an expression
  pub setting_lexemes : NamedTrees → List (List Lexeme)
  setting_lexemes none_named = []
  setting_lexemes (more_named n value rest) =
      (lexeme.name n ∷ (sign signs.Assign ∷ lexemes_of value)) ∷ setting_lexemes rest

  -- the lexemes of each attribute of SUMMARIZE: an aggregate and a name
  pub summary_lexemes : Summaries → List (List Lexeme)
  summary_lexemes no_summaries = []
  summary_lexemes (counted n rest) =
      (keyword k.Count ∷ (with_parentheses [] ++ as_lexemes n)) ∷ summary_lexemes rest
  summary_lexemes (summed op value n rest) =
      (keyword (aggregate_word op) ∷ (with_parentheses (lexemes_of value) ++ as_lexemes n))
      ∷ summary_lexemes rest

-- the text of a type
abbrev pub type_print : TypeTree → List ℕ
type_print t = spaced_text (type_lexemes t)

-- the text of an expression
abbrev pub print : Tree → List ℕ
print t = spaced_text (lexemes_of t)
