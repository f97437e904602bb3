-- Sets of causes, and what has a value or such a set (this project's own).
use Rattle.std.specs.Prelude.{◌≡◌, nat_le, Bool, List, [], ◌∷◌, Option, None, Some, Result, Ok, Err, if◌then◌else◌, ◌⊎◌, ⊤}
use Rattle.td_tree.specs.model.Causes.{number_of}
use Rattle.td_tree.specs.declared.cause.Cause.{Cause}
use Rattle.td_tree.specs.declared.fault.Fault.{Fault}
use Rattle.td_tree.specs.declared.fault.Fault.TheVariants as faults

-- a nonempty set of causes: one, or the union of two such sets
pub data Causes : Type 0 where
  Only : Cause → Causes
  Union : Causes → Causes → Causes

abbrev pub Has : Causes → Cause → Type 0
Has (Only c) d = d ≡ c
Has (Union a b) d = Has a d ⊎ Has b d

abbrev pub lesser : Cause → Cause → Cause
lesser c d = if nat_le (number_of c) (number_of d) then c else d

-- the member with the least number: it is the one that is named
abbrev pub least : Causes → Cause
least (Only c) = c
least (Union a b) = lesser (least a) (least b)

-- a value, or the set of the causes for which there is none
pub data Outcome (A : Type 0) : Type 0 where
  Valued : A → Outcome A
  Refused : Causes → Outcome A

-- the cause that is named where there is no value
abbrev pub named_cause : {A : Type 0} → Outcome A → Option Cause
named_cause (Valued x) = None
named_cause (Refused cs) = Some (least cs)

-- the function's outcome for the value; the causes, where there is no value
abbrev pub with_value : {A B : Type 0} → Outcome A → (A → Outcome B) → Outcome B
with_value (Valued x) f = f x
with_value (Refused cs) f = Refused cs

-- the function's outcome for two values; where one is missing, the causes of both
abbrev pub with_both : {A B C : Type 0} → Outcome A → Outcome B → (A → B → Outcome C) → Outcome C
with_both (Valued x) (Valued y) f = f x y
with_both (Valued x) (Refused ds) f = Refused ds
with_both (Refused cs) (Valued y) f = Refused cs
with_both (Refused cs) (Refused ds) f = Refused (Union cs ds)

-- the values of a list of outcomes; the causes of all count
abbrev pub gathered : {A : Type 0} → List (Outcome A) → Outcome (List A)
gathered [] = Valued []
gathered (o ∷ os) = with_both o (gathered os) (λ x xs. Valued (x ∷ xs))

-- the function's outcome for the values of a list; where one is missing, the causes of all
abbrev pub with_all : {A B : Type 0} → List (Outcome A) → (List A → Outcome B) → Outcome B
with_all os f = with_value (gathered os) f

-- the value where the test holds, else that cause
abbrev pub value_if : {A : Type 0} → Bool → A → Cause → Outcome A
value_if test x cause = if test then Valued x else Refused (Only cause)

-- what a call answers of an outcome: the value, as the view shows it, or the least of the causes; want of memory says
-- nothing
abbrev pub Answers : {X A : Type 0} → (X → A) → Result X Fault → Outcome A → Type 0
Answers view (Ok x) o = o ≡ Valued (view x)
Answers view (Err (faults.Refused cause)) o = named_cause o ≡ Some cause
Answers view (Err faults.Memory) o = ⊤

-- a call that is not refused: it has a value, or wants memory
abbrev pub IsUnrefused : {X : Type 0} → Result X Fault → Type 0
IsUnrefused (Ok x) = ⊤
IsUnrefused (Err (faults.Refused cause)) = ⊥
IsUnrefused (Err faults.Memory) = ⊤
