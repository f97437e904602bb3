use Rattle.std.proofs.Common.{◌≡◌, ◌∙◌, ◌∷◌, ◌++◌, [], Bool, true, false, List, ℕ, ap, refl, subst, sym}
use Rattle.std.specs.Prelude.{◌&&◌, not}
use Rattle.std.proofs.lemmas.List.Elements.{All-from_recursion}
use Rattle.td_types.specs.model.Headings.{are_distinct, has_attribute, have_no_common}
use Rattle.td_types.specs.model.Types.{Heading, attribute_names}
use Rattle.td_types.specs.code.Views.{type_view}
use Rattle.td_value.specs.model.Values.{Tuple}
use Rattle.td_algebra.specs.code.Columns.{AreColumns, IsColumn, column_attributes, columns_view}
use Rattle.td_algebra.specs.model.Operators.{new_attribute}
use Rattle.td_algebra.specs.declared.extension.Column.{Column}
use Rattle.td_algebra.proofs.extension.extend.Goals as goal

module _ (name : List ℕ) (column : Column) (none cs : List (List ℕ × Column)) (empty : none ≡ []) (is : cs ≡ none ++ (name, column) ∷ []) where
  single : cs ≡ (name, column) ∷ []
  single = is ∙ ap (λ ds. ds ++ (name, column) ∷ []) empty

  distinct : are_distinct (attribute_names (column_attributes (columns_view cs))) ≡ true
  distinct = ap (λ ds. are_distinct (attribute_names (column_attributes (columns_view ds)))) single

  and_true : (b : Bool) → (b && true) ≡ b
  and_true true = refl
  and_true false = refl

  new : (h : Heading) → not (has_attribute name h) ≡ true → have_no_common (column_attributes (columns_view cs)) h ≡ true
  new h e = ap (λ ds. have_no_common (column_attributes (columns_view ds)) h) single ∙ and_true (not (has_attribute name h)) ∙ e

  fit : (ts : List Tuple) → IsColumn (type_view column.ty) column.values.items ts → AreColumns (columns_view cs) ts
  fit ts h =
      subst (λ ds. AreColumns (columns_view ds) ts) (sym single)
      (All-from_recursion (λ c. IsColumn c.1 c.2 ts) (columns_view ((name, column) ∷ [])) (h, tt))

pub extend_all-requires : goal.extend_all-requires
extend_all-requires c = record {
  distinct = distinct c.args.name c.args.column _ _ c.in_ok-columns.ensures.items c.in_ok-push.ensures.items;
  new = new c.args.name c.args.column _ _ c.in_ok-columns.ensures.items c.in_ok-push.ensures.items c.args.rel.now.heading c.requires.new;
  fit = fit c.args.name c.args.column _ _ c.in_ok-columns.ensures.items c.in_ok-push.ensures.items c.args.rel.now.body c.requires.fit;
}

pub returns : goal.returns
returns c = λ value e.
    c.extend_all.ensures (new_attribute c.args.name (type_view c.args.column.ty) value ∷ [])
    (ap columns_view (single c.args.name c.args.column _ _ c.in_ok-columns.ensures.items c.in_ok-push.ensures.items) ∙ (λ i. (c.args.name, type_view c.args.column.ty, e i) ∷ []))
