-- The tree of a type: its attributes in name order (this project's own).
use Rattle.td_tree.specs.model.Grammar.{TypeSpelling}
use Rattle.td_tree.specs.model.Statements.{tokens}
use Rattle.td_tree.specs.model.TokenLexemes.{lexemes}
use Rattle.td_tree.specs.model.Trees.{TypeTree, AttributeTrees, no_attributes, attribute}
use Rattle.td_tree.specs.model.Trees as trees
use Rattle.td_types.specs.model.Texts.{type_text}
use Rattle.td_types.specs.model.Types.{Type', boolean, integer, char, user, tuple, relation, Attrs, no_attrs, attr, IsType}

abbrev mutual
  pub type_tree : Type' → TypeTree
  type_tree boolean = trees.boolean
  type_tree integer = trees.integer
  type_tree char = trees.char
  type_tree (user name) = trees.user name
  type_tree (tuple heading) = trees.tuple_type (attribute_trees heading)
  type_tree (relation heading) = trees.relation_type (attribute_trees heading)

  pub attribute_trees : Attrs → AttributeTrees
  attribute_trees no_attrs = no_attributes
  attribute_trees (attr name ty rest) = attribute name (type_tree ty) (attribute_trees rest)

-- ---- laws

-- the tokens of a type's text spell its tree
abbrev pub TypeTextsSpellTheirTrees : Type 0
TypeTextsSpellTheirTrees =
    (t : Type') → IsType t → TypeSpelling (lexemes (tokens 0 (type_text t))) (type_tree t)
