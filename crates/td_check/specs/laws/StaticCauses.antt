-- Laws of the causes for which the static rules refuse (this project's own).
use Rattle.std.specs.Prelude.{List, ⊤}
use Rattle.td_check.specs.model.Scopes.{Scope}
use Rattle.td_check.specs.model.StatementTypes.{statement_checked}
use Rattle.td_check.specs.model.StaticTypes.{type_of}
use Rattle.td_tree.specs.declared.cause.Cause.{Cause}
use Rattle.td_tree.specs.declared.cause.Cause.TheVariants as causes
use Rattle.td_tree.specs.model.Outcomes.{Has, Outcome, Valued, Refused}
use Rattle.td_tree.specs.model.Trees.{Statement, Tree, TypeTree}
use Rattle.td_types.specs.model.TypeLists.{DeclaredType, type_meant}

-- for which a type tree means no type
abbrev pub IsTypeCause : Cause → Type 0
IsTypeCause causes.NameUnknown = ⊤
IsTypeCause causes.Heading = ⊤
IsTypeCause _ = ⊥

-- for which an expression has no type
abbrev pub IsExpressionCause : Cause → Type 0
IsExpressionCause causes.NameUnknown = ⊤
IsExpressionCause causes.TypeMismatch = ⊤
IsExpressionCause causes.Heading = ⊤
IsExpressionCause _ = ⊥

-- for which a statement is not carried out
abbrev pub IsStatementCause : Cause → Type 0
IsStatementCause causes.NameUnknown = ⊤
IsStatementCause causes.NameTaken = ⊤
IsStatementCause causes.TypeMismatch = ⊤
IsStatementCause causes.Heading = ⊤
IsStatementCause causes.KeyDeclaration = ⊤
IsStatementCause causes.Rank = ⊤
IsStatementCause causes.NotAssignable = ⊤
IsStatementCause _ = ⊥

-- the outcome is a value, or P holds of each of its causes
abbrev pub IsRefusedOnlyBy : {A : Type 0} → (Cause → Type 0) → Outcome A → Type 0
IsRefusedOnlyBy P (Valued x) = ⊤
IsRefusedOnlyBy P (Refused cs) = (c : Cause) → Has cs c → P c

-- types, expressions and statements are refused only by causes of their own kind
pub record CausesAreStatic : Type 0 where
  pub types : (ds : List DeclaredType) (tree : TypeTree) → IsRefusedOnlyBy IsTypeCause (type_meant ds tree)
  pub expressions : (scope : Scope) (e : Tree) → IsRefusedOnlyBy IsExpressionCause (type_of scope e)
  pub statements : (scope : Scope) (s : Statement) → IsRefusedOnlyBy IsStatementCause (statement_checked scope s)
