-- What the tuples in scope, as the code has them, stand for (this project's own).
use Rattle.std.specs.Borrow.{Bor}
use Rattle.std.specs.Prelude.{List, [], Option, Some, None}
use Rattle.std.specs.List.{AllByRecursion, slice_get}
use Rattle.td_eval.specs.code.LentWorlds.{world_in}
use Rattle.td_eval.specs.model.Worlds.{World, known_outcome}
use Rattle.td_plan.specs.declared.running.hand.Hand.{Hand}
use Rattle.td_plan.specs.declared.running.hand.Inside.{Inside}
use Rattle.td_plan.specs.declared.running.plan_world.PlanWorld.{PlanWorld}
use Rattle.td_plan.specs.declared.running.plan_world.ValuedRelvar.{ValuedRelvar}
use Rattle.td_plan.specs.code.Plans.{Slots, with_slot}
use Rattle.td_tree.specs.model.Outcomes.{Answers}
use Rattle.td_value.specs.code.Views.{values_of}
use Rattle.td_value.specs.model.Values.{Tuple, Val}

-- ---- what a plan is run in

-- the world of the database
abbrev pub world_around : {B : Type 0} → PlanWorld B → World
world_around around = world_in around.env.now

-- the answer that is kept for a virtual relvar is that of its outcome in the world
abbrev pub IsValued : World → ValuedRelvar → Type 0
IsValued w r = Answers (λ v. v) r.answer (known_outcome (w.relvar r.name))

-- the relvars that have been evaluated have these outcomes there
abbrev pub AreValued : World → List ValuedRelvar → Type 0
AreValued w = AllByRecursion (IsValued w)

abbrev pub IsPlanWorld : {B : Type 0} → PlanWorld B → Type 0
IsPlanWorld around = AreValued (world_around around) around.valued.now

-- ---- tuples in scope

-- the values of a tuple, if there is one
abbrev pub cells_of : Option Tuple → List Val
cells_of (Some t) = values_of t
cells_of None = []

abbrev pub cells_lent : Option (Bor Tuple) → List Val
cells_lent (Some t) = values_of t.now
cells_lent None = []

abbrev pub cells_at : Option (Option Tuple) → List Val
cells_at (Some row) = cells_of row
cells_at None = []

-- tuples, each in the slot of its place
abbrev pub slots_in : List (Option Tuple) → Slots
slots_in rows = λ j. cells_at (slice_get rows j)

-- the tuples further out, and the innermost in its slot
abbrev pub slots_of : Hand → Slots
slots_of hand = with_slot hand.slot (cells_lent hand.tuple) (slots_in hand.outer.now)

-- where a tuple of a loop is in scope
abbrev pub slots_inside : Inside → Tuple → Slots
slots_inside inside t = with_slot inside.slot (values_of t) (slots_in inside.outer.items)

-- lent tuples, each in the slot of its place
abbrev pub slots_lent : List (Bor Tuple) → Slots
slots_lent ts = λ j. cells_lent (slice_get ts j)
