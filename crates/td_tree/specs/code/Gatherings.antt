-- The causes of several answers, gathered one answer after another (this project's own).
use Rattle.std.specs.Prelude.{◌≡◌, ◌++◌, ◌∷◌, List, [], Option, Some, None, Result, Ok, Err, ⊤}
use Rattle.td_tree.specs.model.Outcomes.{Outcome, Valued, gathered, lesser, named_cause}
use Rattle.td_tree.specs.declared.cause.Cause.{Cause}
use Rattle.td_tree.specs.declared.fault.Fault.{Fault}
use Rattle.td_tree.specs.declared.fault.Fault.TheVariants as faults

-- the least of what two may name
abbrev pub lesser_cause : Option Cause → Option Cause → Option Cause
lesser_cause None d = d
lesser_cause (Some c) None = Some c
lesser_cause (Some c) (Some d) = Some (lesser c d)

-- the cause that an answer names
abbrev pub cause_of : {X : Type 0} → Result X Fault → Option Cause
cause_of (Ok x) = None
cause_of (Err (faults.Refused cause)) = Some cause
cause_of (Err faults.Memory) = None

-- what is left of an answer when its cause is gathered: its value, if it has one, or want of memory
abbrev pub IsRest : {X E : Type 0} → Result X Fault → Result (Option X) E → Type 0
IsRest (Ok x) rest = rest ≡ Ok (Some x)
IsRest (Err (faults.Refused cause)) rest = rest ≡ Ok None
IsRest (Err faults.Memory) (Ok x) = ⊥
IsRest (Err faults.Memory) (Err e) = ⊤

-- what the values are where an answer's, if it has one, is put to them
abbrev pub HasValue : {X : Type 0} → Result X Fault → List X → List X → Type 0
HasValue (Ok x) xs more = more ≡ xs ++ x ∷ []
HasValue (Err (faults.Refused cause)) xs more = more ≡ xs
HasValue (Err faults.Memory) xs more = ⊥

-- an answer is collected: its cause counts with the least one before, its value stands after the values before
pub record IsCollected {X : Type 0} (r : Result X Fault) (least : Option Cause) (xs : List X) (new : Option Cause) (more : List X) : Type 0 where
  pub cause : new ≡ lesser_cause least (cause_of r)
  pub values : HasValue r xs more

-- what is answered at the end: the value, where no cause was gathered
abbrev pub answer_of : {X : Type 0} → Option Cause → X → Result X Fault
answer_of None x = Ok x
answer_of (Some cause) x = Err (faults.Refused cause)

-- the least cause of these outcomes; where they have none, these are their values
abbrev pub IsGathered : {A : Type 0} → Option Cause → List A → List (Outcome A) → Type 0
IsGathered None xs os = gathered os ≡ Valued xs
IsGathered (Some cause) xs os = named_cause (gathered os) ≡ Some cause

-- ---- two answers

-- of two faults; want of memory says nothing of causes
abbrev pub lesser_fault : Fault → Fault → Fault
lesser_fault (faults.Refused c) (faults.Refused d) = faults.Refused (lesser c d)
lesser_fault (faults.Refused c) faults.Memory = faults.Memory
lesser_fault faults.Memory (faults.Refused d) = faults.Memory
lesser_fault faults.Memory faults.Memory = faults.Memory

-- what is answered of two answers: both values, or the least of the causes
abbrev pub both_answers : {X Y : Type 0} → Result X Fault → Result Y Fault → Result (X × Y) Fault
both_answers (Ok x) (Ok y) = Ok (x, y)
both_answers (Ok x) (Err e) = Err e
both_answers (Err e) (Ok y) = Err e
both_answers (Err e) (Err f) = Err (lesser_fault e f)
