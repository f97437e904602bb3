-- Expressions that ask nothing of a world or of tuples in scope but the types that are declared.
use Rattle.std.specs.Prelude.{⊤}
use Rattle.td_tree.specs.model.Trees as trees
use Rattle.td_tree.specs.model.Trees.{NamedTrees, Tree, Trees}

abbrev mutual
  -- a literal, or a tuple or a relation of such
  pub IsClosed : Tree → Type 0
  IsClosed (trees.literal value) = ⊤
  IsClosed (trees.parentheses inner) = IsClosed inner
  IsClosed (trees.tuple parts) = PartsAreClosed parts
  IsClosed (trees.relation elements) = AreClosed elements
  IsClosed (trees.headed_relation heading elements) = AreClosed elements
  IsClosed _ = ⊥

  pub AreClosed : Trees → Type 0
  AreClosed trees.none = ⊤
  AreClosed (trees.more first rest) = IsClosed first × AreClosed rest

  pub PartsAreClosed : NamedTrees → Type 0
  PartsAreClosed trees.none_named = ⊤
  PartsAreClosed (trees.more_named name value rest) = IsClosed value × PartsAreClosed rest
