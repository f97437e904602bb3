-- What is found of new attributes, column by column.
use Rattle.std.proofs.Common.{◌≡◌, ◌∙◌, ◌<◌, ◌≤◌, ℕ, suc, List, [], ◌∷◌, ap, get_or, length, map, refl, subst, sym, arith}
use Rattle.std.proofs.lemmas.List.Elements.{All-cons, All-nil}
use Rattle.std.proofs.lemmas.Slice.Zip.{get_or-zip}
use Rattle.std.specs.List.{zip}
use Rattle.td_algebra.specs.code.Columns.{AreColumns, AreColumnsOf, IsColumn, NamedColumn, column_attributes, column_of}
use Rattle.td_eval.proofs.code_lemmas.TypedValues.{type_is}
use Rattle.td_eval.specs.code.NewColumns.{named_columns, with_values}
use Rattle.td_eval.specs.model.OperatorValues.{additions_of, column_values, columns_values, value_of_type, value_or_false}
use Rattle.td_eval.specs.model.TreeValues.{value_of, values_in_tuples}
use Rattle.td_eval.specs.model.Worlds.{World}
use Rattle.td_check.specs.model.OperatorTypes.{same_type}
use Rattle.td_tree.proofs.code_lemmas.Gatherings.{named_of_both}
use Rattle.td_tree.specs.declared.cause.Cause.TheVariants as causes
use Rattle.td_tree.specs.declared.expression.NamedExpr.{NamedExpr}
use Rattle.td_tree.specs.code.Gatherings.{lesser_cause}
use Rattle.td_tree.specs.model.Outcomes.{Outcome, Valued, Refused, gathered, named_cause, with_both, with_value}
use Rattle.td_tree.specs.code.TreeViews.{named_view, tree_view}
use Rattle.td_types.proofs.OutcomeLaws.{valued_is, value_of_test, value_of_with, values_of_both}
use Rattle.td_types.specs.declared.ty.Ty.{Ty}
use Rattle.td_types.specs.model.Types.{Attribute, Type'}
use Rattle.td_types.specs.code.Views.{pairs_view, type_view}
use Rattle.td_value.specs.model.Values.{Tuple, Val, type_of}

-- ---- one column

-- its values are of the type, and are those of the expression
pub column_given : (t : Type') (f : Tuple → Outcome Val) (tuples : List Tuple) (vs : List Val) → column_values t f tuples ≡ Valued vs
    → (vs ≡ map (λ u. value_or_false (f u)) tuples) × IsColumn t vs tuples
column_given t f [] vs e = subst (λ (ws : List Val). (ws ≡ []) × IsColumn t ws []) (valued_is [] vs e) (refl, (refl, All-nil (λ v. type_of v ≡ t)))
column_given t f (u ∷ tuples) vs e =
    let is = values_of_both (with_value (f u) (value_of_type t)) (column_values t f tuples) (λ w ws. Valued (w ∷ ws)) vs e in
    let here = value_of_with (f u) (value_of_type t) is.0 is.2 in
    let typed = value_of_test (same_type (type_of here.0) t) here.0 is.0 causes.TypeMismatch here.2 in
    let rest = column_given t f tuples is.1 is.3 in
    subst (λ (ws : List Val). (ws ≡ map (λ u. value_or_false (f u)) (u ∷ tuples)) × IsColumn t ws (u ∷ tuples)) (valued_is (is.0 ∷ is.1) vs is.4) (
      λ i. (sym typed.1 ∙ sym (ap value_or_false here.1)) i ∷ rest.0 i,
      (
        ap suc rest.1.0,
        All-cons (λ v. type_of v ≡ t) is.0 is.1 (ap type_of (sym typed.1) ∙ type_is (type_of here.0) t typed.0) rest.1.1,
      ),
    )

-- ---- columns

-- the causes are those of the values
pub columns_cause : (attributes : List Attribute) (fs : List (Tuple → Outcome Val)) (tuples : List Tuple)
    → named_cause (gathered (named_columns attributes fs tuples)) ≡ named_cause (gathered (columns_values attributes fs tuples))
columns_cause [] fs tuples = refl
columns_cause (a ∷ attributes) [] tuples = refl
columns_cause (a ∷ attributes) (f ∷ fs) tuples =
    named_of_both (with_values a (column_values a.1 f tuples)) (gathered (named_columns attributes fs tuples)) (λ c cs. c ∷ cs)
    ∙ (λ i. lesser_cause (same_cause (column_values a.1 f tuples) i) (columns_cause attributes fs tuples i))
    ∙ sym (named_of_both (column_values a.1 f tuples) (gathered (columns_values attributes fs tuples)) (λ vs rest. vs ∷ rest))
  where
    same_cause : (o : Outcome (List Val)) → named_cause (with_values a o) ≡ named_cause o
    same_cause (Valued vs) = refl
    same_cause (Refused cs) = refl

-- they are the columns of the new attributes
pub columns_given : (attributes : List Attribute) (fs : List (Tuple → Outcome Val)) (tuples : List Tuple) (cs : List NamedColumn)
    → gathered (named_columns attributes fs tuples) ≡ Valued cs
    → (gathered (columns_values attributes fs tuples) ≡ Valued (map (λ (c : NamedColumn). c.2) cs))
    × AreColumnsOf cs tuples (additions_of attributes fs) × AreColumns cs tuples
columns_given [] fs tuples cs e =
    subst (λ (ds : List NamedColumn). (Valued [] ≡ Valued (map (λ (c : NamedColumn). c.2) ds)) × AreColumnsOf ds tuples [] × AreColumns ds tuples) (valued_is [] cs e)
    (refl, refl, All-nil (λ (c : NamedColumn). IsColumn c.1 c.2 tuples))
columns_given (a ∷ attributes) [] tuples cs e =
    subst (λ (ds : List NamedColumn). (Valued [] ≡ Valued (map (λ (c : NamedColumn). c.2) ds)) × AreColumnsOf ds tuples [] × AreColumns ds tuples) (valued_is [] cs e)
    (refl, refl, All-nil (λ (c : NamedColumn). IsColumn c.1 c.2 tuples))
columns_given (a ∷ attributes) (f ∷ fs) tuples cs e =
    let is = values_of_both (with_values a (column_values a.1 f tuples)) (gathered (named_columns attributes fs tuples)) (λ c ds. Valued (c ∷ ds)) cs e in
    let here = value_of_with (column_values a.1 f tuples) (λ vs. Valued (a.0, a.1, vs)) is.0 is.2 in
    let first : (a.0, a.1, here.0) ≡ is.0 = valued_is _ _ here.2 in
    let column = column_given a.1 f tuples here.0 here.1 in
    let rest = columns_given attributes fs tuples is.1 is.3 in
    subst (λ (ds : List NamedColumn). (gathered (columns_values (a ∷ attributes) (f ∷ fs) tuples) ≡ Valued (map (λ (c : NamedColumn). c.2) ds))
    × AreColumnsOf ds tuples (additions_of (a ∷ attributes) (f ∷ fs)) × AreColumns ds tuples)
    ((λ i. first i ∷ is.1) ∙ valued_is (is.0 ∷ is.1) cs is.4) (
      (λ i. with_both (here.1 i) (rest.0 i) (λ vs others. Valued (vs ∷ others))),
      (λ i. (a.0, a.1, column.0 i) ∷ rest.1 i),
      All-cons (λ (c : NamedColumn). IsColumn c.1 c.2 tuples) (a.0, a.1, here.0) is.1 column.1 rest.2,
    )

-- so their attributes are the new ones
pub attributes_given : (attributes : List Attribute) (fs : List (Tuple → Outcome Val)) (tuples : List Tuple) → length attributes ≡ length fs
    → column_attributes (map (column_of tuples) (additions_of attributes fs)) ≡ attributes
attributes_given [] fs tuples e = refl
attributes_given (a ∷ attributes) [] tuples e = absurd (omega (arith, e))
attributes_given (a ∷ attributes) (f ∷ fs) tuples e = ap (λ xs. a ∷ xs) (attributes_given attributes fs tuples (omega (arith, e)))

-- ---- element by element

module _ (w : World) (s : List Tuple) (tuples : List Tuple) where
  -- of an attribute and the expression that it is set to
  abbrev pub column_found : (List ℕ × Ty) × NamedExpr → Outcome NamedColumn
  column_found z = with_values (z.0.0, type_view z.0.1) (column_values (type_view z.0.1) (λ t. value_of w (t ∷ s) (tree_view z.1.value)) tuples)

  pub columns_are : (xs : List (List ℕ × Ty)) (parts : List NamedExpr)
      → map column_found (zip xs parts) ≡ named_columns (pairs_view xs) (values_in_tuples w s (named_view parts)) tuples
  columns_are [] parts = refl
  columns_are (x ∷ xs) [] = refl
  columns_are (x ∷ xs) (p ∷ parts) = ap (λ os. column_found (x, p) ∷ os) (columns_are xs parts)

-- what stands beside what
pub length_beside : {X Y : Type 0} (xs : List X) (ys : List Y) → length xs ≡ length ys → length (zip xs ys) ≡ length ys
length_beside [] [] e = refl
length_beside [] (y ∷ ys) e = absurd (omega (arith, e))
length_beside (x ∷ xs) [] e = absurd (omega (arith, e))
length_beside (x ∷ xs) (y ∷ ys) e = ap suc (length_beside xs ys (omega (arith, e)))

module _ {X Y : Type 0} (xs : List X) (ys : List Y) (i : ℕ) where
  pub beside_within : length xs ≡ length ys → i < length ys → i < length (zip xs ys)
  beside_within e inside = let h = length_beside xs ys e in omega (arith, h, inside)

  pub beside_past : length xs ≡ length ys → length ys ≤ i → length (zip xs ys) ≤ i
  beside_past e past = let h = length_beside xs ys e in omega (arith, h, past)

  pub beside_at : (x : X) (y : Y) → length xs ≡ length ys → i < length ys → x ≡ get_or xs i x → y ≡ get_or ys i y
      → (x, y) ≡ get_or (zip xs ys) i (x, y)
  beside_at x y e inside p q = (λ j. (p j, q j)) ∙ sym (get_or-zip xs ys i (x, y) (omega (arith, e, inside)) inside)
