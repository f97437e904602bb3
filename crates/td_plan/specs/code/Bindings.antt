-- What comes of putting tuples into slots of their own, one after the other.
use Rattle.std.specs.Prelude.{◌≡◌, ℕ, List, Option, Result, Ok, Err, ⊤}
use Rattle.td_eval.specs.model.OperatorValues.{on_tuple}
use Rattle.td_eval.specs.model.Worlds.{World}
use Rattle.td_plan.specs.declared.plan.step.Step.{Step}
use Rattle.td_plan.specs.declared.running.hand.Inside.{Inside}
use Rattle.td_plan.specs.declared.running.memo.Memo.{Memo}
use Rattle.td_plan.specs.code.Plans.{PlanTree, PlanTrees, Slots, bound, plan_value, plan_where_bound, slots_before, with_slot}
use Rattle.td_plan.specs.code.Hands.{slots_in, slots_inside}
use Rattle.td_plan.specs.code.Memos.{AgreeBelow, AreWithinReach, IsMemo, Parts}
use Rattle.td_plan.specs.code.QuickInside.{IsMemoInside, value_inside}
use Rattle.td_plan.specs.code.Runs.{step_value}
use Rattle.td_tree.specs.declared.fault.Fault.{Fault}
use Rattle.td_tree.specs.model.Outcomes.{Answers, Outcome, with_value}
use Rattle.td_value.specs.code.Views.{values_of}
use Rattle.td_value.specs.model.Values.{Tuple, Val}

-- the outcome of what goes on where the tuple that a step has is in the slot
abbrev pub where_in_slot : World → Slots → ℕ → Step → (Slots → Outcome Val) → Outcome Val
where_in_slot w s slot step inside =
    with_value (step_value w s step) (λ v. on_tuple v (λ t. inside (with_slot slot (values_of t) s)))

-- the memo is right where other slots than these stand there from the slot on
abbrev pub IsMemoFrom : Parts → World → ℕ → Slots → Memo → Type 0
IsMemoFrom ps w slot s m = (t : Slots) × AgreeBelow slot s t × IsMemo ps w t m

-- the rows are such that what goes on has its outcome in them, with the memo right there; else the call answers what the outcome is
-- refused for
abbrev pub IsEntered : Parts → World → ℕ → Slots → ((Slots → Outcome Val) → Outcome Val) → Result ⊤ Fault → List (Option Tuple) → Memo → Type 0
IsEntered ps w slot s outcome (Ok u) rows m =
    ((inside : Slots → Outcome Val) → outcome inside ≡ inside (slots_in rows))
    × AgreeBelow slot s (slots_in rows) × IsMemo ps w (slots_in rows) m
IsEntered ps w slot s outcome (Err f) rows m =
    ((inside : Slots → Outcome Val) → Answers {X = Val} (λ v. v) (Err f) (outcome inside)) × IsMemoFrom ps w slot s m

-- the rows are such that what goes on has its outcome in them, and they agree with the slots before
abbrev pub AreEntered : Parts → World → ℕ → Slots → ((Slots → Outcome Val) → Outcome Val) → List (Option Tuple) → Memo → Type 0
AreEntered ps w slot s outcome rows m = IsEntered ps w slot s outcome (Ok tt) rows m

-- ---- where a loop goes over tuples behind them

-- the loop where the tuples that plans have are in scope
abbrev pub IsBehind : World → Inside → ℕ → PlanTrees → Inside → Type 0
IsBehind w inside slot items inner =
    (inner.slot ≡ inside.slot) × AgreeBelow inside.slot (slots_in inside.outer.items) (slots_in inner.outer.items)
    × ((outcome : Slots → Outcome Val)
    → plan_where_bound w (slots_before slot (slots_in inside.outer.items)) slot items outcome ≡ outcome (slots_in inner.outer.items))

-- in each tuple of the loop a step has the value that another has in the other loop over these tuples
pub record IsHoisted (w : World) (inside : Inside) (step : Step) (inner : Inside) (rest : Step) : Type 0 where
  pub slot : inner.slot ≡ inside.slot
  pub outer : AgreeBelow inside.slot (slots_in inside.outer.items) (slots_in inner.outer.items)
  pub same : (t : Tuple) → value_inside w inside step t ≡ value_inside w inner rest t

-- where the memo is right inside the loop, the plans are those of sound steps, and they do not reach the loop's tuples, it is right in
-- the other loop, in which what stands behind the plans has its value
abbrev pub IsBoundInside : Parts → World → Memo → Inside → ℕ → ℕ → PlanTrees → Type 0 → Inside → Type 0
IsBoundInside ps w m inside slot reach items are_sound inner =
    are_sound → AreWithinReach reach slot items → IsMemoInside ps w inside m
    → IsMemoInside ps w inner m
    × ((p : PlanTree) (t : Tuple) → plan_value w (slots_inside inside t) (bound slot items p) ≡ plan_value w (slots_inside inner t) p)
