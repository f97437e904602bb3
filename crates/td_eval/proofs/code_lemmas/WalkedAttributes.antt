-- What is answered of the columns of new attributes, where these are as many as the parts that give them values.
use Rattle.std.proofs.Common.{◌≡◌, ◌∙◌, ℕ, Err, List, Ok, Result, ap, length, sym}
use Rattle.std.proofs.lemmas.List.{length-map}
use Rattle.std.specs.Global.{Vec}
use Rattle.std.specs.Prelude.{IfOk}
use Rattle.td_algebra.specs.code.Columns.{columns_view}
use Rattle.td_algebra.specs.declared.extension.Column.{Column}
use Rattle.td_check.specs.model.Scopes.{Scope}
use Rattle.td_check.specs.model.StaticTypes.{named_types}
use Rattle.td_eval.proofs.code_lemmas.WalkedLists.{as_many_types}
use Rattle.td_eval.specs.code.NewColumns.{AreColumnsFor, named_columns}
use Rattle.td_tree.specs.declared.expression.NamedExpr.{NamedExpr}
use Rattle.td_tree.specs.declared.fault.Fault.{Fault}
use Rattle.td_tree.specs.model.Outcomes.{Answers, Outcome, Valued, gathered}
use Rattle.td_tree.specs.code.TreeViews.{named_view}
use Rattle.td_types.specs.declared.ty.Ty.{Ty}
use Rattle.td_types.specs.code.Pairs.{pair_view}
use Rattle.td_types.specs.code.Views.{pairs_view}
use Rattle.td_value.specs.model.Values.{Tuple, Val}

-- the types of parts give as many attributes
pub as_many_found : (scope : Scope) (parts : List NamedExpr) (xs ys : List (List ℕ × Ty)) → ys ≡ xs
    → named_types scope (named_view parts) ≡ Valued (pairs_view xs) → length ys ≡ length parts
as_many_found scope parts xs ys same e = ap length same ∙ sym (length-map xs pair_view) ∙ as_many_types scope parts (pairs_view xs) e

-- columns that are answered of as many values as attributes are columns for these
pub columns_for : (fs : List (Tuple → Outcome Val)) (body : List Tuple) (xs ys : List (List ℕ × Ty)) (columns : Result (Vec (List ℕ × Column)) Fault)
    → ys ≡ xs → length xs ≡ length fs → Answers (λ (cs : Vec (List ℕ × Column)). columns_view cs.items) columns (gathered (named_columns (pairs_view xs) fs body))
    → IfOk columns (λ cs. AreColumnsFor (pairs_view ys) body (columns_view cs.items))
columns_for fs body xs ys (Ok cs) same lengths a =
    (fs, length-map ys pair_view ∙ ap length same ∙ lengths, ap (λ zs. gathered (named_columns (pairs_view zs) fs body)) same ∙ a)
columns_for fs body xs ys (Err f) same lengths a = tt
