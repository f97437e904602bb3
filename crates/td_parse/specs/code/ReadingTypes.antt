-- Reading types from left to right, by recursive descent.
use Rattle.std.specs.Prelude.{ℕ, zero, suc, List, [], ◌∷◌, Some, None}
use Rattle.td_tree.specs.declared.keyword.Keyword.{Keyword}
use Rattle.td_tree.specs.declared.keyword.Keyword.TheVariants as k
use Rattle.td_tree.specs.declared.token.Sign.TheVariants as signs
use Rattle.td_tree.specs.model.Lexemes.{Lexeme, keyword, sign}
use Rattle.td_tree.specs.model.Lexemes as lexeme
use Rattle.td_parse.specs.code.ReadingSteps.{◌>>=◌, ReadOf, expect, read_name, listed_to}
use Rattle.td_tree.specs.model.Trees as tree
use Rattle.td_tree.specs.model.Trees.{Text, TypeTree, AttributeTrees}

-- names with their types
abbrev pub attribute_trees_from : List (Text × TypeTree) → AttributeTrees
attribute_trees_from [] = tree.no_attributes
attribute_trees_from (a ∷ rest) = tree.attribute a.0 a.1 (attribute_trees_from rest)

-- types inside are read by inner
module _ (inner : List Lexeme → ReadOf TypeTree) where
  -- name type
  unfoldable pub attribute : List Lexeme → ReadOf (Text × TypeTree)
  attribute ts = read_name ts >>= λ n. inner n.1 >>= λ t. Some ((n.0, t.0), t.1)

  -- '{' attr,* '}'
  unfoldable pub heading : List Lexeme → ReadOf AttributeTrees
  heading ts =
      expect (sign signs.OpenBrace) ts
      >>= λ after. listed_to (sign signs.CloseBrace) attribute after
      >>= λ x. Some (attribute_trees_from x.0, x.1)

  -- a type after its first word
  unfoldable pub type_of_word : Keyword → List Lexeme → ReadOf TypeTree
  type_of_word k.Integer ts = Some (tree.integer, ts)
  type_of_word k.Char ts = Some (tree.char, ts)
  type_of_word k.Boolean ts = Some (tree.boolean, ts)
  type_of_word k.Relation ts = heading ts >>= λ h. Some (tree.relation_type h.0, h.1)
  type_of_word k.Tuple ts = heading ts >>= λ h. Some (tree.tuple_type h.0, h.1)
  type_of_word _ ts = None

  -- a type, by its first lexeme
  unfoldable pub type_of_first : List Lexeme → ReadOf TypeTree
  type_of_first (keyword w ∷ ts) = type_of_word w ts
  type_of_first (lexeme.name n ∷ ts) = Some (tree.user n, ts)
  type_of_first _ = None

-- a type that is at most so high
unfoldable pub read_type : ℕ → List Lexeme → ReadOf TypeTree
read_type zero ts = None
read_type (suc depth) ts = type_of_first (read_type depth) ts

-- a heading whose relation type is at most so high
unfoldable pub relation_heading : ℕ → List Lexeme → ReadOf AttributeTrees
relation_heading zero ts = None
relation_heading (suc depth) ts = heading (read_type depth) ts
