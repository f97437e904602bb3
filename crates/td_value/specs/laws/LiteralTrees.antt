-- The tree that the literal of a value spells (Tutorial D's selectors).
use Rattle.std.specs.Prelude.{◌≡◌, ◌≤◌, ℕ, suc, ◌*◌, pos, negsuc, true, false, List}
use Rattle.td_tree.specs.model.Grammar.{IsExpression, height_limit, loosest}
use Rattle.td_tree.specs.model.Heights.{height}
use Rattle.td_tree.specs.model.Outcomes.{Valued}
use Rattle.td_tree.specs.model.Statements.{tokens}
use Rattle.td_tree.specs.model.TokenLexemes.{lexemes}
use Rattle.td_tree.specs.model.Trees.{Tree, Trees, none, more, NamedTrees, none_named, more_named}
use Rattle.td_tree.specs.model.Trees as trees
use Rattle.td_types.specs.model.TypeLists.{DeclaredType, AreDeclared, rank_of}
use Rattle.td_types.specs.laws.TypeTrees.{attribute_trees}
use Rattle.td_types.specs.model.Types.{Type'}
use Rattle.td_value.specs.model.KnownValues.{HasType}
use Rattle.td_value.specs.model.Literal.{literal}
use Rattle.td_value.specs.model.Values.{Val, boolean, integer, char, user, tuple, relation, Parts, no_parts, part, Fields, no_fields, field, Rows, no_rows, row, IsValue}

abbrev mutual
  pub literal_tree : Val → Tree
  literal_tree (boolean b) = trees.literal (trees.truth b)
  literal_tree (integer (pos n)) = trees.literal (trees.number false n)
  literal_tree (integer (negsuc n)) = trees.literal (trees.number true (suc n))
  literal_tree (char s) = trees.literal (trees.text s)
  literal_tree (user name ps) = trees.select name (part_trees ps)
  literal_tree (tuple fs) = trees.tuple (field_trees fs)
  literal_tree (relation heading rs) = trees.headed_relation (attribute_trees heading) (row_trees rs)

  pub part_trees : Parts → Trees
  part_trees no_parts = none
  part_trees (part v ps) = more (literal_tree v) (part_trees ps)

  pub field_trees : Fields → NamedTrees
  field_trees no_fields = none_named
  field_trees (field name v fs) = more_named name (literal_tree v) (field_trees fs)

  pub row_trees : Rows → Trees
  row_trees no_rows = none
  row_trees (row fs rs) = more (trees.tuple (field_trees fs)) (row_trees rs)

-- ---- laws

-- the tree of a value whose type has rank k is at most 2 k high
abbrev pub LiteralsAreLow : Type 0
LiteralsAreLow =
    (ds : List DeclaredType) (v : Val) (t : Type') (k : ℕ) → AreDeclared ds → HasType ds v t
    → rank_of ds t ≡ Valued k → height (literal_tree v) ≤ 2 * k

-- the tokens of a value's literal spell the value's tree, where that is not too high
abbrev pub LiteralsSpellTheirTrees : Type 0
LiteralsSpellTheirTrees =
    (v : Val) → IsValue v → height (literal_tree v) ≤ height_limit
    → IsExpression loosest (lexemes (tokens 0 (literal v))) (literal_tree v)
