-- A step whose parts are kept once it is made.
use Rattle.std.specs.Prelude.{◌≡◌, ◌⊎◌, ◌<◌, ◌≤◌, ℕ, suc, List, [], ◌∷◌, ⊤}
use Rattle.std.specs.List.{Contains}
use Rattle.td_plan.specs.declared.plan.step.Step.{Step}
use Rattle.td_plan.specs.code.Memos.{AreWithinReach, AreOn, AreSound, IsOn, IsSound, Parts, Placed}
use Rattle.td_plan.specs.code.StepViews.{step_view, steps_view}

-- ---- slots that are named

-- all before the reach
abbrev pub AreBefore : ℕ → List ℕ → Type 0
AreBefore reach names = (j : ℕ) → Contains names j → j < reach

abbrev pub AreAmong : List ℕ → List ℕ → Type 0
AreAmong names others = (j : ℕ) → Contains names j → Contains others j

-- all but that of a slot are among the others
abbrev pub AreAmongBut : ℕ → List ℕ → List ℕ → Type 0
AreAmongBut slot names others = (j : ℕ) → Contains names j → (j ≡ slot) ⊎ Contains others j

-- all that are before the slot are among the others
abbrev pub AreAmongBefore : ℕ → List ℕ → List ℕ → Type 0
AreAmongBefore slot names others = (j : ℕ) → Contains names j → j < slot → Contains others j

abbrev pub AreAllAmong : List (List ℕ) → List ℕ → Type 0
AreAllAmong [] others = ⊤
AreAllAmong (names ∷ rest) others = AreAmong names others × AreAllAmong rest others

-- ---- one step

-- the step has the same value, names no other slots than these, and the places of its parts are those from the first number up
-- to the second
pub record IsRemembered (a b : ℕ) (names : List ℕ) (old new : Step) : Type 0 where
  pub view : step_view new ≡ step_view old
  pub on : IsOn names (step_view old)
  pub placed : Placed a b (λ ps. IsSound ps new)

-- the step, which names these slots, or the part that it becomes at the next place
abbrev pub KeepsPart : ℕ → ℕ → List ℕ → Step → Step → Type 0
KeepsPart a b names old new =
    ((b ≡ a) × (new ≡ old))
    ⊎ ((b ≡ suc a) × (step_view new ≡ step_view old)
    × ((ps : Parts) → IsOn names (step_view old) → ps a ≡ step_view old → IsSound ps old → IsSound ps new))

-- ---- two steps, and three

-- each so, where this is said of the slots that they name
pub record AreRemembered (a b : ℕ) (claim : List ℕ → List ℕ → Type 0) (l r new_l new_r : Step) : Type 0 where
  pub left : step_view new_l ≡ step_view l
  pub right : step_view new_r ≡ step_view r
  pub on : (x y : List ℕ) × IsOn x (step_view l) × IsOn y (step_view r) × claim x y
  pub placed : Placed a b (λ ps. IsSound ps new_l × IsSound ps new_r)

pub record AreThreeRemembered (a b : ℕ) (names : List ℕ) (f s t new_f new_s new_t : Step) : Type 0 where
  pub first : step_view new_f ≡ step_view f
  pub second : step_view new_s ≡ step_view s
  pub third : step_view new_t ≡ step_view t
  pub first_on : IsOn names (step_view f)
  pub second_on : IsOn names (step_view s)
  pub third_on : IsOn names (step_view t)
  pub placed : Placed a b (λ ps. IsSound ps new_f × IsSound ps new_s × IsSound ps new_t)

-- ---- lists of steps

-- this holds of each, with the slots beside it; the places of each come after those of the steps before it
abbrev pub AreEach : (ℕ → ℕ → List ℕ → Step → Step → Type 0) → ℕ → ℕ → List (List ℕ) → List Step → List Step → Type 0
AreEach Claim a b [] [] [] = a ≡ b
AreEach Claim a b (names ∷ rest) (old ∷ olds) (new ∷ news) =
    (m : ℕ) × Claim a m names old new × AreEach Claim m b rest olds news
AreEach Claim a b _ _ _ = ⊥

abbrev pub AreEachRemembered : ℕ → ℕ → List (List ℕ) → List Step → List Step → Type 0
AreEachRemembered = AreEach (λ a b names old new. IsRemembered a b names old new)

abbrev pub AreEachKept : ℕ → ℕ → List (List ℕ) → List Step → List Step → Type 0
AreEachKept = AreEach (λ a b names old new. KeepsPart a b names old new)

pub record AreAllRemembered (a b : ℕ) (names : List ℕ) (olds news : List Step) : Type 0 where
  pub views : steps_view news ≡ steps_view olds
  pub on : AreOn names (steps_view olds)
  pub placed : Placed a b (λ ps. AreSound ps news)

-- an operand, and steps in the tuples of a slot: together they name these slots beside it
pub record AreRememberedInside (a b : ℕ) (slot : ℕ) (names : List ℕ) (old : Step) (olds : List Step) (new : Step) (news : List Step) : Type 0 where
  pub operand : step_view new ≡ step_view old
  pub views : steps_view news ≡ steps_view olds
  pub operand_on : IsOn names (step_view old)
  pub on : (inner : List ℕ) × AreOn inner (steps_view olds) × AreAmongBut slot inner names
  pub placed : Placed a b (λ ps. IsSound ps new × AreSound ps news)

-- two operands
pub record AreRememberedInsideBoth (a b : ℕ) (slot : ℕ) (names : List ℕ) (l r : Step) (olds : List Step) (new_l new_r : Step) (news : List Step) : Type 0 where
  pub left : step_view new_l ≡ step_view l
  pub right : step_view new_r ≡ step_view r
  pub views : steps_view news ≡ steps_view olds
  pub left_on : IsOn names (step_view l)
  pub right_on : IsOn names (step_view r)
  pub on : (inner : List ℕ) × AreOn inner (steps_view olds) × AreAmongBut slot inner names
  pub placed : Placed a b (λ ps. IsSound ps new_l × IsSound ps new_r × AreSound ps news)

-- those from the reach on are from the slot on, where the reach is before it
abbrev pub AreOutside : ℕ → ℕ → List ℕ → Type 0
AreOutside reach slot names = reach < slot → (j : ℕ) → Contains names j → (j < reach) ⊎ (slot ≤ j)

-- of tuples in slots from this one on, which name these slots each, and of a step behind them, which names its own: those
-- before the slot, and how far those of the tuples reach
pub record AreBoundNames (slot : ℕ) (each : List (List ℕ)) (own names : List ℕ) (reach : ℕ) : Type 0 where
  pub together : (inner : List ℕ) × AreAllAmong each inner × AreAmong own inner × AreAmongBefore slot inner names
  pub apart : (all : List ℕ) × AreAllAmong each all × AreOutside reach slot all

-- tuples in slots from this one on, and a step where they are in scope: together they name these slots before it, and the tuples
-- none from the reach on
pub record AreRememberedBound (a b : ℕ) (slot reach : ℕ) (names : List ℕ) (old : Step) (olds : List Step) (new : Step) (news : List Step) : Type 0 where
  pub value : step_view new ≡ step_view old
  pub views : steps_view news ≡ steps_view olds
  pub on : (inner : List ℕ) × IsOn inner (step_view old) × AreOn inner (steps_view olds) × AreAmongBefore slot inner names
  pub apart : AreWithinReach reach slot (steps_view olds)
  pub placed : Placed a b (λ ps. AreSound ps news × IsSound ps new)
