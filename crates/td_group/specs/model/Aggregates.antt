-- Aggregates (Tutorial D's; the causes are this project's own).
use Rattle.std.specs.Prelude.{ℤ, pos, ◌+ℤ◌, List, [], ◌∷◌, length, if◌then◌else◌}
use Rattle.std.specs.Ordering.{is_lt}
use Rattle.td_group.specs.declared.aggregates.Agg.{Agg}
use Rattle.td_group.specs.declared.aggregates.Agg.TheVariants.{Count, Sum, Max, Min}
use Rattle.td_tree.specs.model.Outcomes.{Outcome, Valued, Refused, Only}
use Rattle.td_tree.specs.declared.cause.Cause.TheVariants as causes
use Rattle.td_value.specs.model.Values.{Val, integer, of_number, value_cmp}

-- the number that a value is; a value of another type is none and counts as zero
abbrev pub summand : Val → ℤ
summand (integer z) = z
summand v = pos 0

-- the mathematical sum, one term for each value
abbrev pub sum_of : List Val → ℤ
sum_of [] = pos 0
sum_of (v ∷ vs) = summand v +ℤ sum_of vs

-- the greater and the less of two values
abbrev pub greater : Val → Val → Val
greater v w = if is_lt (value_cmp v w) then w else v

abbrev pub less : Val → Val → Val
less v w = if is_lt (value_cmp w v) then w else v

-- the greatest and the least of a value and others
abbrev pub greatest_value : Val → List Val → Val
greatest_value v [] = v
greatest_value v (w ∷ ws) = greatest_value (greater v w) ws

abbrev pub least_value : Val → List Val → Val
least_value v [] = v
least_value v (w ∷ ws) = least_value (less v w) ws

abbrev pub aggregate : Agg → List Val → Outcome Val
-- COUNT: how many there are, OVERFLOW where that is out of range
aggregate Count vs = of_number (pos (length vs))
-- SUM: the mathematical sum, OVERFLOW only where that is out of range
aggregate Sum vs = of_number (sum_of vs)
-- MAX and MIN: the greatest and the least, EMPTY_AGGREGATE of nothing
aggregate Max [] = Refused (Only causes.EmptyAggregate)
aggregate Max (v ∷ vs) = Valued (greatest_value v vs)
aggregate Min [] = Refused (Only causes.EmptyAggregate)
aggregate Min (v ∷ vs) = Valued (least_value v vs)
