-- New attributes with their values, which may be refused, as columns (this project's own).
use Rattle.std.specs.Prelude.{◌≡◌, List, [], ◌∷◌, length}
use Rattle.td_algebra.specs.code.Columns.{NamedColumn}
use Rattle.td_algebra.specs.declared.extension.Column.{Column}
use Rattle.td_eval.specs.model.OperatorValues.{column_values}
use Rattle.td_tree.specs.model.Outcomes.{Outcome, Valued, gathered, with_value}
use Rattle.td_types.specs.model.Types.{Attribute}
use Rattle.td_types.specs.code.Views.{type_view}
use Rattle.td_value.specs.model.Values.{Val, Tuple}
use Rattle.std.specs.Prelude.{ℕ}

-- an attribute with the values that a column of it has
abbrev pub with_values : Attribute → Outcome (List Val) → Outcome NamedColumn
with_values a values = with_value values (λ vs. Valued (a.0, a.1, vs))

-- the columns of the attributes that are set to the values of these
abbrev pub named_columns : List Attribute → List (Tuple → Outcome Val) → List Tuple → List (Outcome NamedColumn)
named_columns [] fs tuples = []
named_columns (a ∷ attributes) [] tuples = []
named_columns (a ∷ attributes) (f ∷ fs) tuples = with_values a (column_values a.1 f tuples) ∷ named_columns attributes fs tuples

-- these are the columns of the attributes by some such values, one for each attribute
abbrev pub AreColumnsFor : List Attribute → List Tuple → List NamedColumn → Type 0
AreColumnsFor attributes tuples columns =
    (fs : List (Tuple → Outcome Val)) × (length attributes ≡ length fs) × (gathered (named_columns attributes fs tuples) ≡ Valued columns)

-- a column of the code with its name
abbrev pub column_view : List ℕ × Column → NamedColumn
column_view c = (c.0, type_view c.1.ty, c.1.values.items)
