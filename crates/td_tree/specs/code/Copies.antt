-- Copies of trees.
use Rattle.std.specs.Prelude.{◌≡◌, IfOk, Result}
use Rattle.std.specs.Global.{Box}
use Rattle.td_tree.specs.declared.expression.Expr.{Expr}
use Rattle.td_tree.specs.model.Trees as trees
use Rattle.td_tree.specs.code.TreeViews.{tree_view}

-- if there is an expression, it stands for this tree (own)
abbrev pub Copied : {E : Type 0} → Result Expr E → trees.Tree → Type 0
Copied result tree = IfOk result (λ e. tree_view e ≡ tree)

-- if there is an expression in a box, it stands for this tree (own)
abbrev pub Boxed : {E : Type 0} → Result (Box Expr) E → trees.Tree → Type 0
Boxed result tree = IfOk result (λ b. tree_view b.value ≡ tree)
