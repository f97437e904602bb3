-- What is kept of the parts of a plan while it is run.
use Rattle.std.specs.Prelude.{◌≡◌, ◌<◌, ◌≤◌, ◌⊎◌, ℕ, List, [], ◌∷◌, Option, Some, None, ⊤}
use Rattle.std.specs.List.{Contains, slice_get}
use Rattle.td_eval.specs.model.Worlds.{World}
use Rattle.td_plan.specs.declared.running.memo.Kept.{Kept}
use Rattle.td_plan.specs.declared.running.memo.Memo.{Memo}
use Rattle.td_plan.specs.declared.plan.step.Step.{Step, Row_of-Step, end_of-Step, more_of-Step}
use Rattle.td_plan.specs.declared.plan.step.Step.TheVariants as p
use Rattle.td_plan.specs.code.Plans.{PlanTree, PlanTrees, Slots, plan_value, plan_values}
use Rattle.td_plan.specs.code.StepViews.{step_view, steps_row}
use Rattle.td_tree.specs.model.Outcomes.{Answers}

-- ---- what plans name

abbrev pub AgreeBelow : ℕ → Slots → Slots → Type 0
AgreeBelow k s t = (j : ℕ) → j < k → s j ≡ t j

abbrev pub AgreeOn : List ℕ → Slots → Slots → Type 0
AgreeOn names s t = (j : ℕ) → Contains names j → s j ≡ t j

-- a plan that names no slot but these
abbrev pub IsOn : List ℕ → PlanTree → Type 0
IsOn names p = (w : World) (s t : Slots) → AgreeOn names s t → plan_value w s p ≡ plan_value w t p

abbrev pub AreOn : List ℕ → PlanTrees → Type 0
AreOn names ps = (w : World) (s t : Slots) → AgreeOn names s t → plan_values w s ps ≡ plan_values w t ps

-- a plan that names no slot from this one on
abbrev pub IsWithin : ℕ → PlanTree → Type 0
IsWithin k p = (w : World) (s t : Slots) → AgreeBelow k s t → plan_value w s p ≡ plan_value w t p

-- slots that agree but for those from the first number up to the second
abbrev pub AgreeBeside : ℕ → ℕ → Slots → Slots → Type 0
AgreeBeside k n s t = (j : ℕ) → (j < k) ⊎ (n ≤ j) → s j ≡ t j

-- plans that name no slot from the first number up to the second
abbrev pub AreWithinReach : ℕ → ℕ → PlanTrees → Type 0
AreWithinReach k n ps = k < n → (w : World) (s t : Slots) → AgreeBeside k n s t → plan_values w s ps ≡ plan_values w t ps

-- ---- parts whose answers are kept, by their places

abbrev pub Parts : Type 0
Parts = ℕ → PlanTree

pub record IsPart (ps : Parts) (place : ℕ) (reach : ℕ) (q : PlanTree) : Type 0 where
  pub at : ps place ≡ q
  pub within : IsWithin reach q

-- each part of the step is the one at its place, and within its reach
abbrev mutual
  pub IsSound : Parts → Step → Type 0
  IsSound ps (p.Constant v) = ⊤
  IsSound ps (p.Refused c) = ⊤
  IsSound ps (p.Attribute slot place) = ⊤
  IsSound ps (p.Relvar name) = ⊤
  IsSound ps (p.LookUp' name key _ part) = IsSound ps part
  IsSound ps (p.Monadic' op _ operand) = IsSound ps operand
  IsSound ps (p.Dyadic' _ left op _ right) = IsSound ps left × IsSound ps right
  IsSound ps (p.Select' selector _ parts) = IsSoundRow ps parts
  IsSound ps (p.Restriction' _ operand slot _ condition origin) = IsSound ps operand × IsSound ps condition
  IsSound ps (p.Extend' _ operand attributes slot _ values) = IsSound ps operand × IsSoundRow ps values
  IsSound ps (p.Aggregate' op _ operand slot _ value) = IsSound ps operand × IsSound ps value
  IsSound ps (p.SummarizePer' _ operand _ per attributes aggregates slot _ values) =
      IsSound ps operand × IsSound ps per × IsSoundRow ps values
  IsSound ps (p.SummarizeBy' _ operand by attributes aggregates slot _ values) = IsSound ps operand × IsSoundRow ps values
  IsSound ps (p.If' _ condition _ consequent _ alternative) =
      IsSound ps condition × IsSound ps consequent × IsSound ps alternative
  IsSound ps (p.Bound' slot reach _ items _ result) =
      IsSoundRow ps items × IsSound ps result × AreWithinReach reach slot (steps_row items)
  IsSound ps (p.Once' place reach _ part) = IsPart ps place reach (step_view part) × IsSound ps part

  pub IsSoundRow : Parts → {m : _} → Row_of-Step m → Type 0
  IsSoundRow ps end_of-Step = ⊤
  IsSoundRow ps (more_of-Step first rest) = IsSound ps first × IsSoundRow ps rest

abbrev pub AreSound : Parts → List Step → Type 0
AreSound ps [] = ⊤
AreSound ps (first ∷ rest) = IsSound ps first × AreSound ps rest

-- a step that can be run: there are such parts
abbrev pub IsRunnable : Step → Type 0
IsRunnable step = (ps : Parts) × IsSound ps step

-- parts that are the same at the places before this one
abbrev pub SameBelow : ℕ → Parts → Parts → Type 0
SameBelow k ps qs = (j : ℕ) → j < k → ps j ≡ qs j

-- there are parts for the places from the first up to the second, whatever stands at those before, with which this holds,
-- whatever stands at those after
abbrev pub Placed : ℕ → ℕ → (Parts → Type 0) → Type 0
Placed a b claim = (a ≤ b) × ((qs : Parts) → (ps : Parts) × SameBelow a qs ps × ((rs : Parts) → SameBelow b ps rs → claim rs))

-- ---- answers that are kept

-- what is kept is the part's answer in these slots
abbrev pub IsKept : World → Slots → PlanTree → Option (Option Kept) → Type 0
IsKept w s q (Some (Some k)) = Answers (λ v. v) k.answer (plan_value w s q) × IsWithin k.reach q
IsKept w s q (Some None) = ⊤
IsKept w s q None = ⊤

abbrev pub Reaches : ℕ → Option (Option Kept) → Type 0
Reaches d (Some (Some k)) = k.reach ≤ d
Reaches d (Some None) = ⊤
Reaches d None = ⊤

abbrev pub AreKept : Parts → World → Slots → List (Option Kept) → Type 0
AreKept ps w s kept = (place : ℕ) → IsKept w s (ps place) (slice_get kept place)

abbrev pub AreWithin : ℕ → List (Option Kept) → Type 0
AreWithin d kept = (place : ℕ) → Reaches d (slice_get kept place)

abbrev pub IsMemo : Parts → World → Slots → Memo → Type 0
IsMemo ps w s m = AreKept ps w s m.kept.items × AreWithin m.deepest m.kept.items

-- so it is whatever stands in the slot and those further in
abbrev pub IsMemoBelow : Parts → World → ℕ → Slots → Memo → Type 0
IsMemoBelow ps w slot s m = (t : Slots) → AgreeBelow slot s t → IsMemo ps w t m

-- where the memo is right and the parts are sound, what is claimed holds, and the memo is right afterwards
abbrev pub Keeps : World → Slots → Memo → Memo → (Parts → Type 0) → Type 0 → Type 0
Keeps w s old new sound claim = (ps : Parts) → sound ps → IsMemo ps w s old → claim × IsMemo ps w s new

-- the same, whatever stands in the slot and those further in
abbrev pub KeepsBelow : World → ℕ → Slots → Memo → Memo → (Parts → Type 0) → Type 0 → Type 0
KeepsBelow w slot s old new sound claim =
    (ps : Parts) → sound ps → IsMemoBelow ps w slot s old → claim × IsMemoBelow ps w slot s new

-- there are parts of which the memo is right
pub record IsReady (w : World) (s : Slots) (m : Memo) (are : Parts → Type 0) : Type 0 where
  pub parts : Parts
  pub sound : are parts
  pub memo : IsMemo parts w s m

-- and stays so whatever comes into the slot and those further in
pub record IsReadyBelow (w : World) (slot : ℕ) (s : Slots) (m : Memo) (are : Parts → Type 0) : Type 0 where
  pub parts : Parts
  pub sound : are parts
  pub memo : IsMemoBelow parts w slot s m
