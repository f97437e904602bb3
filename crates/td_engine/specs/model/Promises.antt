-- What a run promises (this project's own, in the words of the set machine).
use Rattle.std.specs.Prelude.{ℕ, ◌&&◌, Bool, nat_lt, List, Option, Result, IfErr, IfOk, IsFalse, IsOk, IsTrue, OnOk}
use Rattle.td_engine.specs.declared.run.Report.{Report}
use Rattle.td_engine.specs.declared.run.RunFault.{RunFault}
use Rattle.td_engine.specs.model.Faults.{IfMemory, IfNotMemory, IfRead, IfReadLimit, IfWrite}
use Rattle.td_engine.specs.model.Legality.{IsLegalState, IsLegalThroughout}
use Rattle.td_engine.specs.model.Machine.{State}
use Rattle.td_engine.specs.model.Scripts.{OfBroken, OfFront, OfScript, OfTooMuch}
use Rattle.td_engine.specs.model.Standing.{HasRun, HasRunCut, IsLeft, IsOngoing, Standing, run_of, standing}
use Rattle.td_engine.specs.model.Told.{GaveAtMost, StaysWhole}

-- what is seen of an engine, a reader and a writer: the state and what the writer has taken, what
-- the reader has left to give, and which of the two is broken
pub record Seen : Type 0 where
  pub stands : Standing
  pub left : Option (List ℕ)
  pub is_reader_broken : Bool
  pub is_writer_broken : Bool

abbrev pub seen : State → Option (List ℕ) → Bool → Option (List ℕ) → Bool → Seen
seen state left is_reader_broken taken is_writer_broken = record {
  stands = standing state taken;
  left = left;
  is_reader_broken = is_reader_broken;
  is_writer_broken = is_writer_broken;
}

-- the script was run to its end
abbrev pub IsRun : Bool → ℕ → Seen → Seen → Report → Type 0
IsRun stop limit old new report =
    OfScript limit report.statements (stop && nat_lt 0 report.refused) old.left new.left
    (λ script. IsLeft (run_of stop old.stands script) new.stands report)

-- memory was refused: the first `done` statements were run
abbrev pub IsRunTo : Bool → Seen → Seen → ℕ → Type 0
IsRunTo stop old new done =
    OfFront done old.left new.left (λ script. HasRun (run_of stop old.stands script) done new.stands)

-- the reader broke: of what it gave, each statement that a `;` ends was run
abbrev pub IsBrokenOff : Bool → Seen → Seen → ℕ → Type 0
IsBrokenOff stop old new done =
    IsTrue new.is_reader_broken × OfBroken done old.left new.left
    (λ script. IsOngoing (run_of stop old.stands script) done new.stands)

-- the reader gave more than a script may have: the first `done` statements were run
abbrev pub IsTooLong : Bool → ℕ → Seen → Seen → ℕ → Type 0
IsTooLong stop limit old new done =
    OfTooMuch limit done old.left new.left
    (λ script. IsOngoing (run_of stop old.stands script) done new.stands)

-- the writer broke: the first `done` statements were run, the last one's answer written in part
abbrev pub IsCut : Bool → Seen → Seen → ℕ → Type 0
IsCut stop old new done =
    IsTrue new.is_writer_broken × OfFront done old.left new.left
    (λ script. HasRunCut (run_of stop old.stands script) done new.stands)

-- what is promised of a run that answers this result, where this is seen before it and after it
pub record RunPromise (stop : Bool) (limit : ℕ) (old new : Seen)
    (result : Result Report RunFault) : Type 0 where
  -- where memory is not refused, reader and writer do not fail, and no more than `limit` bytes come,
  -- it answers a report
  pub headline : IfNotMemory result
      (IsFalse new.is_reader_broken → IsFalse new.is_writer_broken
      → GaveAtMost limit old.left new.left → IsOk result)
  -- at a report the bytes, the state and the numbers are the machine's
  pub answers : IfOk result (IsRun stop limit old new)
  -- at a report a side that was not broken is not broken
  pub whole : OnOk result (StaysWhole old.is_reader_broken new.is_reader_broken
      × StaysWhole old.is_writer_broken new.is_writer_broken)
  -- at a fault what was done is a front of the machine's run
  pub memory : IfErr result (IfMemory (IsRunTo stop old new))
  pub read : IfErr result (IfRead (IsBrokenOff stop old new))
  pub too_long : IfErr result (IfReadLimit (IsTooLong stop limit old new))
  pub write : IfErr result (IfWrite (IsCut stop old new))
  -- keys, constraints and type constraints hold after it, and between any two statements
  pub legal : IsLegalState new.stands.state
  pub between : IsLegalThroughout stop old.stands.state
