-- An extension of an image is an image, in either spelling.
use Rattle.std.proofs.Common.{◌≡◌, ◌∙◌, ◌⊎◌, inl, inr, ℕ, List, ap, subst, sym}
use Rattle.std.specs.Global.{Box, Vec}
use Rattle.td_engine.specs.laws.Additions.{IsImageOf, NameNone}
use Rattle.td_tree.proofs.code_lemmas.Rows.{extend_is, extend_setting_is}
use Rattle.td_tree.specs.code.TreeViews.{named_view, tree_view}
use Rattle.td_tree.specs.declared.expression.Expr.{Expr}
use Rattle.td_tree.specs.declared.expression.Expr.TheVariants as x
use Rattle.td_tree.specs.declared.expression.NamedExpr.{NamedExpr}

pub extension_is_image : (relvar : List ℕ) (reached : List (List ℕ)) (e : Expr) (operand : Box Expr) (parts : Vec NamedExpr)
    → (e ≡ x.Extend operand parts) ⊎ (e ≡ x.ExtendSetting operand parts) → IsImageOf relvar reached (tree_view operand.value)
    → NameNone reached (named_view parts.items) → IsImageOf relvar reached (tree_view e)
extension_is_image relvar reached e operand parts (inl is) image none =
    subst (IsImageOf relvar reached) (sym (ap tree_view is ∙ extend_is operand parts)) (image, none)
extension_is_image relvar reached e operand parts (inr is) image none =
    subst (IsImageOf relvar reached) (sym (ap tree_view is ∙ extend_setting_is operand parts)) (image, none)
