-- A function value that reads expressions to a height.
use Rattle.std.specs.Prelude.{ℕ, List, Result}
use Rattle.std.specs.declared.alloc.Global.{Global}
use denote.Ref.{MutBor}
use Rattle.td_tree.specs.declared.expression.Expr.{Expr}
use Rattle.td_tree.specs.declared.fault.Fault.{Fault}
use Rattle.td_tree.specs.declared.operator.Level.{Level}
use Rattle.td_tree.specs.model.Lexemes.{Lexeme}
use Rattle.td_parse.specs.code.Reading.{read}
use Rattle.td_tree.specs.code.TreeViews.{tree_view}
use Rattle.td_parse.specs.code.Parsing.{Moves}

pub record Nests (depth : ℕ) (pre : Global → ℕ → Level → MutBor (List Lexeme) → Type 0)
    (post : Global → ℕ → Level → MutBor (List Lexeme) → Result Expr Fault → MutBor (List Lexeme)
    → Type 0) : Type 0 where
  pub callable : (alloc : Global) (level : Level) (old : MutBor (List Lexeme))
      → pre alloc depth level old
  pub reads : (alloc : Global) (level : Level) (old new : MutBor (List Lexeme))
      (r : Result Expr Fault) → post alloc depth level old r new
      → Moves tree_view r new.now (read depth level old.now)
