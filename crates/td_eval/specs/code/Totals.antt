-- What the items of SUMMARIZE are of in the groups, as the code has it (this project's own).
use Rattle.std.specs.Prelude.{◌≡◌, true, List, [], ◌∷◌, map}
use Rattle.std.specs.Global.{Vec}
use Rattle.td_algebra.specs.code.Columns.{NamedColumn}
use Rattle.td_check.specs.model.OperatorTypes.{aggregate_type}
use Rattle.td_check.specs.model.Scopes.{Scope}
use Rattle.td_check.specs.model.StaticTypes.{type_of}
use Rattle.td_eval.specs.model.AggregateValues.{Summand, aggregate_of, asked_of, group_values}
use Rattle.td_eval.specs.code.NewColumns.{with_values}
use Rattle.td_eval.specs.model.OperatorValues.{of_truth, value_of_type}
use Rattle.td_eval.specs.model.TreeValues.{value_of}
use Rattle.td_eval.specs.model.Worlds.{World}
use Rattle.td_group.specs.model.Groups.{groups}
use Rattle.td_group.specs.declared.aggregates.Agg.{Agg}
use Rattle.td_group.specs.declared.aggregates.Agg.TheVariants as asked
use Rattle.td_tree.specs.declared.expression.Summary.{Summary}
use Rattle.td_tree.specs.declared.expression.Summary.TheVariants as summaries
use Rattle.td_tree.specs.model.Outcomes.{Outcome, Valued, gathered, with_value}
use Rattle.td_tree.specs.code.TreeViews.{tree_view}
use Rattle.td_types.specs.model.Types.{Attribute, Type'}
use Rattle.td_types.specs.model.Types as types
use Rattle.td_value.specs.model.Values.{Val, Relation, Tuple}

-- ---- the items of the code

-- which aggregate an item asks
abbrev pub asked_by : Summary → Agg
asked_by (summaries.Count name) = asked.Count
asked_by (summaries.Of op value name) = asked_of op

-- what that is of in a tuple; COUNT counts a term for each
abbrev pub term_in : World → List Tuple → Summary → Tuple → Outcome Val
term_in w s (summaries.Count name) t = of_truth true
term_in w s (summaries.Of op value name) t = value_of w (t ∷ s) (tree_view value)

-- the attribute that an item adds, with its type
abbrev pub attribute_found : Scope → Summary → Outcome Attribute
attribute_found scope (summaries.Count name) = Valued (name, types.integer)
attribute_found scope (summaries.Of op value name) =
    with_value (with_value (type_of scope (tree_view value)) (aggregate_type op)) (λ t. Valued (name, t))

-- ---- in groups

-- an aggregate with the values that it is of in each group
abbrev pub Total : Type 0
Total = Agg × List (List Val)

abbrev pub total_view : Agg × Vec (Vec Val) → Total
total_view t = (t.0, map (λ vs. vs.items) t.1.items)

abbrev pub total_of : List (Tuple × Relation) → Summand → Outcome Total
total_of gs item = with_value (group_values gs item) (λ vss. Valued (item.0, vss))

-- these are what some items are of in the groups of the tuples of a relation
abbrev pub AreTotalsFor : Relation → List Total → Type 0
AreTotalsFor per totals = (r : Relation) × (items : List Summand) × (gathered (map (total_of (groups r per)) items) ≡ Valued totals)

-- the values of a new attribute, which are of its type
abbrev pub total_values : Type' → Total → Outcome (List Val)
total_values t total = gathered (map (λ vs. with_value (aggregate_of total.0 vs) (value_of_type t)) total.1)

-- the columns of the new attributes
abbrev pub total_columns : List Attribute → List Total → List (Outcome NamedColumn)
total_columns [] totals = []
total_columns (a ∷ attributes) [] = []
total_columns (a ∷ attributes) (x ∷ totals) = with_values a (total_values a.1 x) ∷ total_columns attributes totals
