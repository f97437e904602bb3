-- Tuples of a relation that have partners in another, and what operators ask of them (this project's own).
use Rattle.std.specs.Prelude.{◌≡◌, ℕ, Bool, not, List, IsTrue, length}
use Rattle.std.specs.List.{list_all, list_any}
use Rattle.td_algebra.specs.model.Operators.{restriction}
use Rattle.td_eval.specs.model.OperatorValues.{of_relation, of_truth}
use Rattle.td_eval.specs.model.Worlds.{World}
use Rattle.td_plan.specs.declared.running.partners.Asked.{Asked}
use Rattle.td_plan.specs.declared.running.partners.Asked.TheVariants as asked
use Rattle.td_plan.specs.code.Plans.{Dyadic, PlanTree, Slots, dyadic_value, plan_value}
use Rattle.td_tree.specs.model.Outcomes.{Outcome, Valued, with_value}
use Rattle.td_types.specs.model.Headings.{has_attributes, projection}
use Rattle.td_types.specs.model.Types.{Heading}
use Rattle.td_value.specs.model.Agreement.{agree_on}
use Rattle.td_value.specs.model.Values.{Relation, Tuple, Val}

-- whether a tuple agrees on the names with a tuple of the relation
abbrev pub has_partner : List (List ℕ) → Relation → Tuple → Bool
has_partner names s t = list_any (agree_on names t) s.body

-- what is asked of the tuples of a relation, by a test of each
abbrev pub asked_value : Asked → (Tuple → Bool) → Relation → Outcome Val
asked_value asked.All p r = of_truth (list_all p r.body)
asked_value asked.Partnered p r = of_relation (restriction p r)
asked_value asked.Unpartnered p r = of_relation (restriction (λ t. not (p t)) r)

-- the part is the projection of the heading on the names, each of which it has
abbrev pub IsPartOn : List (List ℕ) → Heading → Heading → Type 0
IsPartOn names h part = IsTrue (has_attributes names h) × (projection names h ≡ part)

-- the value of an operator between a value and what a plan gives
abbrev pub value_beside : World → Slots → Val → Dyadic → PlanTree → Outcome Val
value_beside w s v op right = with_value (plan_value w s right) (dyadic_value op v)

-- that value, whatever stands in the slots
abbrev pub IsValueBeside : World → Val → Dyadic → PlanTree → Val → Type 0
IsValueBeside w left op right v = (s : Slots) → value_beside w s left op right ≡ Valued v

-- the plan gives a relation of so many tuples, whatever stands in the slots
abbrev pub HasTuples : World → PlanTree → ℕ → Type 0
HasTuples w p n = (s : Slots) → (r : Relation) × (plan_value w s p ≡ of_relation r) × (length r.body ≡ n)
