-- The highest of a list with one more part.
use Rattle.std.proofs.Common.{◌≡◌, List, [], ◌∷◌, ◌++◌, arith}
use Rattle.std.specs.Prelude.{max, zero, ℕ}
use Rattle.td_tree.specs.declared.expression.Expr.{Expr}
use Rattle.td_tree.specs.declared.expression.NamedExpr.{NamedExpr}
use Rattle.td_tree.specs.declared.expression.Summary.{Summary}
use Rattle.td_tree.specs.declared.expression.Summary.TheVariants as s
use Rattle.td_tree.specs.model.Heights.{height, highest, highest_named, highest_summary}
use Rattle.td_tree.specs.code.TreeViews.{named_view, summaries_view, tree_view, trees_view}

pub highest_push : (all : List Expr) (a : Expr) → highest (trees_view (all ++ (a ∷ []))) ≡ max (highest (trees_view all)) (height (tree_view a))
highest_push [] a = omega arith
highest_push (b ∷ rest) a = omega (arith, highest_push rest a)

pub highest_named_push : (all : List NamedExpr) (a : NamedExpr) → highest_named (named_view (all ++ (a ∷ []))) ≡ max (highest_named (named_view all)) (height (tree_view a.value))
highest_named_push [] a = omega arith
highest_named_push (b ∷ rest) a = omega (arith, highest_named_push rest a)

-- how high the expression of an attribute is
abbrev pub item_height : Summary → ℕ
item_height (s.Count name) = zero
item_height (s.Of op value name) = height (tree_view value)

pub highest_summary_push : (all : List Summary) (a : Summary) → highest_summary (summaries_view (all ++ (a ∷ []))) ≡ max (highest_summary (summaries_view all)) (item_height a)
highest_summary_push [] (s.Count name) = omega arith
highest_summary_push [] (s.Of op value name) = omega arith
highest_summary_push (s.Count n ∷ rest) a = highest_summary_push rest a
highest_summary_push (s.Of op value n ∷ rest) a = omega (arith, highest_summary_push rest a)
