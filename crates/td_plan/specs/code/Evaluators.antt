-- What evaluators need of what is kept, and what they leave kept (this project's own).
use Rattle.std.specs.Borrow.{Bor, MutBor}
use Rattle.std.specs.Prelude.{ℕ, List, Option, Result, max, suc}
use Rattle.td_eval.specs.model.Worlds.{World}
use Rattle.td_plan.specs.declared.plan.step.Step.{Step}
use Rattle.td_plan.specs.declared.running.evaluator.Evaluator.{Evaluator}
use Rattle.td_plan.specs.declared.running.hand.Hand.{Hand}
use Rattle.td_plan.specs.declared.running.hand.Inside.{Inside}
use Rattle.td_plan.specs.declared.running.memo.Memo.{Memo}
use Rattle.td_plan.specs.code.Plans.{PlanTree, Slots, plan_value}
use Rattle.td_plan.specs.code.Hands.{slots_in, slots_of}
use Rattle.td_plan.specs.code.Memos.{AreSound, IsMemo, IsReady, IsReadyBelow, IsSound, Keeps, KeepsBelow, Parts}
use Rattle.td_plan.specs.code.StepHeights.{step_height, steps_height}
use Rattle.td_plan.specs.code.ValuesBelow.{ValuesBelow}
use Rattle.td_tree.specs.declared.fault.Fault.{Fault}
use Rattle.td_tree.specs.model.Outcomes.{Answers}
use Rattle.td_value.specs.model.Values.{Tuple, Val}

-- ---- heights above those of steps

abbrev pub height_over : Step → ℕ
height_over step = suc (step_height step)

abbrev pub height_over_all : List Step → ℕ
height_over_all steps = suc (steps_height steps)

abbrev pub height_over_both : Step → Step → ℕ
height_over_both first second = suc (max (step_height first) (step_height second))

abbrev pub height_over_one_and_all : Step → List Step → ℕ
height_over_one_and_all first steps = suc (max (step_height first) (steps_height steps))

abbrev pub height_over_bound : List Step → Step → ℕ
height_over_bound items value = suc (max (steps_height items) (step_height value))

-- the steps that are lower than this may be evaluated
abbrev pub RunsBelow : {A F : Type 0} → (A → World) → Evaluator A F
    → (F → Bor A → MutBor Memo → Bor Hand → Bor Step → Type 0)
    → (F → Bor A → MutBor Memo → Bor Hand → Bor Step → Result Val Fault → MutBor Memo → Type 0) → ℕ → Type 0
RunsBelow world e pre post height = ValuesBelow world e height pre post

-- ---- parts of which steps are sound

abbrev pub SoundFor : Step → Parts → Type 0
SoundFor step ps = IsSound ps step

abbrev pub SoundForAll : List Step → Parts → Type 0
SoundForAll steps ps = AreSound ps steps

abbrev pub SoundForBoth : Step → Step → Parts → Type 0
SoundForBoth first second ps = IsSound ps first × IsSound ps second

abbrev pub SoundForOneAndAll : Step → List Step → Parts → Type 0
SoundForOneAndAll first steps ps = IsSound ps first × AreSound ps steps

abbrev pub SoundForBound : List Step → Step → Parts → Type 0
SoundForBound items value ps = AreSound ps items × IsSound ps value

-- ---- what is kept

-- it is right where these tuples are in scope
abbrev pub IsReadyAt : {A F : Type 0} → (A → World) → Evaluator A F → Hand → Memo → (Parts → Type 0) → Type 0
IsReadyAt world e hand memo are = IsReady (world e.around.now) (slots_of hand) memo are

-- it is right where these tuples are in their slots
abbrev pub IsReadyInRows : {A F : Type 0} → (A → World) → Evaluator A F → List (Option Tuple) → Memo → (Parts → Type 0) → Type 0
IsReadyInRows world e rows memo are = IsReady (world e.around.now) (slots_in rows) memo are

-- it is right in each tuple of the loop
abbrev pub IsReadyInside : {A F : Type 0} → (A → World) → Evaluator A F → Inside → Memo → (Parts → Type 0) → Type 0
IsReadyInside world e inside memo are = IsReadyBelow (world e.around.now) inside.slot (slots_in inside.outer.items) memo are

-- it stays right, and this holds in the world with these slots
abbrev pub KeepsFor : {A F : Type 0} → (A → World) → Evaluator A F → Hand → Memo → Memo → (Parts → Type 0)
    → (World → Slots → Type 0) → Type 0
KeepsFor world e hand old new are claim =
    Keeps (world e.around.now) (slots_of hand) old new are (claim (world e.around.now) (slots_of hand))

-- it stays right, and the answer is what the plan gives there
abbrev pub Runs : {A F : Type 0} → (A → World) → Evaluator A F → Hand → Memo → Memo → (Parts → Type 0)
    → Result Val Fault → PlanTree → Type 0
Runs world e hand old new are answer plan =
    KeepsFor world e hand old new are (λ w s. Answers (λ v. v) answer (plan_value w s plan))

-- where it is right, and the steps are sound, this holds of what comes of putting tuples into slots
abbrev pub PutsInSlots : {A F : Type 0} → (A → World) → Evaluator A F → List (Option Tuple) → Memo → (Parts → Type 0)
    → (Parts → World → Slots → Type 0) → Type 0
PutsInSlots world e rows memo are claim =
    (ps : Parts) → are ps → IsMemo ps (world e.around.now) (slots_in rows) memo → claim ps (world e.around.now) (slots_in rows)

-- it stays right in each tuple of the loop, and this holds in the world with the slots outside of the loop and the loop's slot
abbrev pub KeepsInside : {A F : Type 0} → (A → World) → Evaluator A F → Inside → Memo → Memo → (Parts → Type 0)
    → (World → Slots → ℕ → Type 0) → Type 0
KeepsInside world e inside old new are claim =
    KeepsBelow (world e.around.now) inside.slot (slots_in inside.outer.items) old new are
    (claim (world e.around.now) (slots_in inside.outer.items) inside.slot)
