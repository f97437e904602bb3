-- The values of aggregates and of SUMMARIZE (Tutorial D's; the causes are this project's own).
use Rattle.std.specs.Prelude.{Bool, true, false, List, [], ◌∷◌, map}
use Rattle.std.specs.List.{list_all}
use Rattle.td_algebra.specs.model.Operators.{common_names, restriction}
use Rattle.td_check.specs.model.OperatorTypes.{aggregate_type}
use Rattle.td_check.specs.model.Scopes.{Scope}
use Rattle.td_check.specs.model.StaticTypes.{type_of}
use Rattle.td_eval.specs.model.OperatorValues.{extended_value, on_relations}
use Rattle.td_group.specs.model.Aggregates.{aggregate}
use Rattle.td_group.specs.model.Groups.{groups}
use Rattle.td_group.specs.declared.aggregates.Agg.{Agg}
use Rattle.td_group.specs.declared.aggregates.Agg.TheVariants as asked
use Rattle.td_tree.specs.declared.cause.Cause.TheVariants as causes
use Rattle.td_tree.specs.declared.operator.Aggregate.{Aggregate}
use Rattle.td_tree.specs.declared.operator.Aggregate.TheVariants as aggregates
use Rattle.td_tree.specs.model.Outcomes.{Outcome, Valued, gathered, value_if, with_both, with_value}
use Rattle.td_tree.specs.model.Trees.{Summaries, no_summaries, counted, summed}
use Rattle.td_types.specs.model.Headings.{is_part}
use Rattle.td_types.specs.model.Types.{Attribute, Heading}
use Rattle.td_types.specs.model.Types as types
use Rattle.td_value.specs.model.Agreement.{agree_on}
use Rattle.td_value.specs.model.Values.{Val, integer, char, Relation, Tuple}

-- ---- aggregates

-- what the aggregate of an expression asks of its values
abbrev pub asked_of : Aggregate → Agg
asked_of aggregates.Sum = asked.Sum
asked_of aggregates.Max = asked.Max
asked_of aggregates.Min = asked.Min

abbrev pub is_number : Val → Bool
is_number (integer z) = true
is_number _ = false

abbrev pub is_number_or_text : Val → Bool
is_number_or_text (integer z) = true
is_number_or_text (char s) = true
is_number_or_text _ = false

-- whether the value is one that the aggregate is of: SUM is of numbers, MAX and MIN of numbers or texts
abbrev pub takes : Agg → Val → Bool
takes asked.Count v = true
takes asked.Sum v = is_number v
takes asked.Max v = is_number_or_text v
takes asked.Min v = is_number_or_text v

-- the aggregate of values, one term for each of them
abbrev pub aggregate_of : Agg → List Val → Outcome Val
aggregate_of a vs = with_value (value_if (list_all (takes a) vs) vs causes.TypeMismatch) (aggregate a)

-- SUM(r, e) and its kin: where e has a value in each tuple, the aggregate of these, of equal values as often as they come.
-- What it refuses of its own counts only there
abbrev pub aggregated_value : Agg → (Tuple → Outcome Val) → Relation → Outcome Val
aggregated_value a f r = with_value (gathered (map f r.body)) (aggregate_of a)

-- ---- SUMMARIZE

-- an item of SUMMARIZE: its aggregate, and the value of its expression in a tuple
abbrev pub Summand : Type 0
Summand = Agg × (Tuple → Outcome Val)

-- the new attributes with their static types: INTEGER for COUNT, else what the aggregate gives of the type of its expression
abbrev pub summary_attributes : Scope → Summaries → Outcome (List Attribute)
summary_attributes scope no_summaries = Valued []
summary_attributes scope (counted n rest) =
    with_value (summary_attributes scope rest) (λ attributes. Valued ((n, types.integer) ∷ attributes))
summary_attributes scope (summed op value n rest) =
    with_both (with_value (type_of scope value) (aggregate_type op)) (summary_attributes scope rest) (λ t attributes. Valued ((n, t) ∷ attributes))

-- the tuples of r that agree with one of p on the common names
abbrev pub group_with : Relation → Relation → Tuple → Relation
group_with r p w = restriction (agree_on (common_names p r) w) r

-- the values of an item's expression in the tuples of groups
abbrev pub group_values : List (Tuple × Relation) → Summand → Outcome (List (List Val))
group_values gs item = gathered (map (λ g. gathered (map item.1 g.1.body)) gs)

-- the aggregate that an item gives for the group of a tuple of PER
abbrev pub summary_in : Relation → Relation → Summand → Tuple → Outcome Val
summary_in r p item w = aggregated_value item.0 item.1 (group_with r p w)

-- SUMMARIZE r PER (p) ADD (..): where the expression of each item has a value in each tuple of each group, the tuples of p, each
-- with what the items give of its group, also where that is empty. What the aggregates refuse of their own counts only there.
-- A heading of p that is no part of r's is HEADING
abbrev pub summarized_value : Outcome (List Attribute) → List Summand → Relation → Relation → Outcome Val
summarized_value attributes items r p =
    with_value (value_if (is_part p.heading r.heading) (groups r p) causes.Heading)
    (λ gs. with_value (gathered (map (group_values gs) items)) (λ values. extended_value attributes (map (summary_in r p) items) p))

-- SUMMARIZE of two values, which must be relations; the types are those in r's heading
abbrev pub summary_value : (Heading → Outcome (List Attribute)) → List Summand → Val → Val → Outcome Val
summary_value attributes items v u = on_relations v u (λ r p. summarized_value (attributes r.heading) items r p)
