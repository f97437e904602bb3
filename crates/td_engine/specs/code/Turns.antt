-- One statement of a run, and how far a run has come (the code's own way; it is said in the words of the set machine).
use Rattle.std.specs.Prelude.{◌≡◌, ℕ, ◌+◌, ◌<◌, ◌≤◌, ◌&&◌, Bool, true, false, nat_lt, List, [], ◌++◌, length, take, Option, Some, None, Result}
use Rattle.std.specs.Io.KnownBytes.{Appends, Consumes, IsAtEnd}
use Rattle.td_engine.specs.model.Machine.{State, Step, Steps, refusals_of}
use Rattle.td_engine.specs.model.Scripts.{AreEnded}
use Rattle.td_engine.specs.model.Standing.{IsLeft, Standing}
use Rattle.td_engine.specs.code.Steps.{IsParsed}
use Rattle.td_engine.specs.model.Told.{AppendsIfTold}
use Rattle.td_engine.specs.declared.run.Report.{Report}
use Rattle.td_tree.specs.model.Statements.{PlacedToken, Held, after, behind, first_statement, statements}
use Rattle.td_tree.specs.declared.fault.Fault.{Fault}
use Rattle.td_tree.specs.declared.statement.Statement.{Statement}

-- where a run is between two statements: what is still held of the script, what stands, and the counts
pub record RunPlace : Type 0 where
  pub held : Held
  pub standing : Standing
  pub report : Report

abbrev pub place_at : Held → Standing → Report → RunPlace
place_at held standing report = record { held = held; standing = standing; report = report }

-- the first of the statements held was read, and it ends here
pub record IsReading (held : Held) (parsed : Result Statement Fault) (end : ℕ) : Type 0 where
  pub statement : List PlacedToken
  pub is : first_statement held ≡ Some statement
  pub means : IsParsed statement parsed
  pub ends : end ≡ behind held

-- what the first of the statements held does to the state
pub record FirstStep (held : Held) (old new : Standing) : Type 0 where
  pub statement : List PlacedToken
  pub is : first_statement held ≡ Some statement
  pub step : Step State
  pub steps : Steps old.state statement step
  pub state_is : new.state ≡ step.after

-- the first of the statements held was run and taken off, its text was written whole, and it is counted
pub record HasTurned (old new : RunPlace) : Type 0 where
  pub first : FirstStep old.held old.standing new.standing
  pub held_is : new.held ≡ after old.held
  pub written : Appends old.standing.taken new.standing.taken first.step.text
  pub statements_are : new.report.statements ≡ old.report.statements + 1
  pub refused_are : new.report.refused ≡ old.report.refused + refusals_of first.step.cause

-- the first of the statements held was run, and its text is cut
pub record HasTurnedCut (old : RunPlace) (new : Standing) : Type 0 where
  pub first : FirstStep old.held old.standing new
  pub count : ℕ
  pub cut : AppendsIfTold old.standing.taken new.taken (take count first.step.text)

-- whether there was a statement: with none nothing changes
abbrev pub Turned : RunPlace → RunPlace → Bool → Type 0
Turned old new true = HasTurned old new
Turned old new false = (first_statement old.held ≡ None) × (new ≡ old)

-- so many bytes that the source gave were fed; where there is none, it is at its end, and all was fed
pub record IsFed (old new : Held) (before after : Option (List ℕ)) (count : ℕ) : Type 0 where
  pub piece : List ℕ
  pub given : Consumes before after piece
  pub size : length piece ≡ count
  pub bytes_are : new.bytes ≡ old.bytes ++ piece
  pub offset_is : new.offset ≡ old.offset
  pub more : 0 < count → new.finished ≡ false
  pub none : count ≡ 0 → (new.finished ≡ true) × IsAtEnd after

-- of the bytes given so far the first statements were run, in every continuation, and those that more bytes can follow end
-- with `;`; the others are those of the bytes that are still held
pub record Reached (stop : Bool) (old : Standing) (given : List ℕ) (place : RunPlace) : Type 0 where
  pub done : List (List PlacedToken)
  pub cut : (rest : List ℕ) → (place.held.finished ≡ true → rest ≡ [])
      → statements 0 (given ++ rest) ≡ done ++ statements place.held.offset (place.held.bytes ++ rest)
  pub left : IsLeft (record { stop = stop; old = old; script = done }) place.standing place.report
  pub each : length done ≡ place.report.statements
  pub ended : place.held.finished ≡ false → AreEnded done

-- from one place statements that are held were run up to another
pub record Advanced (stop : Bool) (old new : RunPlace) : Type 0 where
  pub finished_is : new.held.finished ≡ old.held.finished
  pub end_is : new.held.offset + length new.held.bytes ≡ old.held.offset + length old.held.bytes
  pub counted : new.report.statements + length new.held.bytes ≤ old.report.statements + length old.held.bytes
  pub refused : old.report.refused ≤ old.report.statements → new.report.refused ≤ new.report.statements
  pub reached : (before : Standing) (given : List ℕ) → Reached stop before given old → Reached stop before given new

-- a run ended at a place between two statements, of which so many were run
pub record EndedAt (stop : Bool) (old : RunPlace) (done : ℕ) (new : Standing) : Type 0 where
  pub place : RunPlace
  pub advanced : Advanced stop old place
  pub done_is : done ≡ place.report.statements
  pub same : new ≡ place.standing

-- a run ended within the text of one statement more
pub record EndedIn (stop : Bool) (old : RunPlace) (done : ℕ) (new : Standing) : Type 0 where
  pub place : RunPlace
  pub advanced : Advanced stop old place
  pub done_is : done ≡ place.report.statements + 1
  pub goes_on : (stop && nat_lt 0 place.report.refused) ≡ false
  pub turned : HasTurnedCut place new
