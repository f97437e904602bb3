-- What a session writes and answers (this project's own).
use Rattle.std.specs.Prelude.{◌≡◌, ℕ, ◌&&◌, Bool, List, [], Option, None, Some, Result, Ok, Err, IfErr, IfOk, IsFalse, IsOk, IsTrue, OnOk, false, nat_lt, take, if◌then◌else◌}
use Rattle.std.specs.Io.KnownBytes.{Appends}
use Rattle.td.specs.declared.line.Mode.{Mode}
use Rattle.td.specs.declared.line.Mode.TheVariants.{Run, Dump}
use Rattle.td_catalog.specs.model.Dumps.{dump_text}
use Rattle.td_engine.specs.declared.run.Report.{Report}
use Rattle.td_engine.specs.declared.run.RunFault.{RunFault}
use Rattle.td_engine.specs.model.Faults.{IfMemory, IfNotMemory, IfRead, IfReadLimit, IfWrite}
use Rattle.td_engine.specs.model.Legality.{IsLegalState, IsLegalThroughout}
use Rattle.td_engine.specs.model.Machine.{Progress, State, has_stopped}
use Rattle.td_engine.specs.model.Promises.{Seen}
use Rattle.td_engine.specs.model.Scripts.{OfBroken, OfFront, OfScript, OfTooMuch, script_limit}
use Rattle.td_engine.specs.model.Standing.{HasRunCut, RunsTo, Standing, run_of, standing}
use Rattle.td_engine.specs.model.Standing as runs
use Rattle.td_engine.specs.model.Told.{AppendsIfTold, GaveAtMost, StaysWhole}

-- 0 where nothing was refused, else 1
abbrev pub status_of : ℕ → ℕ
status_of refusals = if nat_lt 0 refusals then 1 else 0

-- what is written of a run: its answers, or the dump of the database that it leaves
abbrev pub output_of : Mode → Progress → List ℕ
output_of Run progress = progress.text
output_of Dump progress = dump_text progress.state.database

-- the run was run to its end, the sink has taken what is written of it, and the databases are legal
pub record HasAnswered (mode : Mode) (run : runs.Run) (status : ℕ) (taken : Option (List ℕ)) : Type 0 where
  pub progress : Progress
  pub runs : RunsTo run run.script progress
  pub written : Appends run.old.taken taken (output_of mode progress)
  pub status_is : status ≡ status_of progress.refusals
  pub legal : IsLegalState progress.state

-- the script that a session was given, of which the fact holds: the whole of it, unless the first refusal ended the run
abbrev pub OfSession : Bool → ℕ → Option (List ℕ) → Option (List ℕ) → (List ℕ → Type 0) → Type 0
OfSession stop status before after P =
    (done : ℕ) × OfScript script_limit done (stop && nat_lt 0 status) before after P

-- what is written before a fault of the run: the answers so far, and nothing of a dump
abbrev pub output_so_far : Mode → Progress → List ℕ
output_so_far Run progress = progress.text
output_so_far Dump progress = []

-- the first `done` statements were run, each of them, the sink has taken what is written so far, and the databases are legal
pub record HasBegun (mode : Mode) (run : runs.Run) (done : ℕ) (taken : Option (List ℕ)) : Type 0 where
  pub progress : Progress
  pub runs : RunsTo run (take done run.script) progress
  pub each_run : progress.statements ≡ done
  pub written : Appends run.old.taken taken (output_so_far mode progress)
  pub legal : IsLegalState progress.state

-- as in `HasBegun`, where this stands then
pub record HasBegunTo (mode : Mode) (run : runs.Run) (done : ℕ) (new : Standing) : Type 0 where
  pub has_begun : HasBegun mode run done new.taken
  pub state_is : new.state ≡ has_begun.progress.state

-- as in `HasBegun`, and no refusal ended the run there
pub record IsUnderWay (mode : Mode) (run : runs.Run) (done : ℕ) (taken : Option (List ℕ)) : Type 0 where
  pub has_begun : HasBegun mode run done taken
  pub goes_on : has_stopped run.stop has_begun.progress ≡ false

-- the run was run to its end, `done` statements, and the dump is cut
pub record HasDumpedCut (run : runs.Run) (done : ℕ) (taken : Option (List ℕ)) : Type 0 where
  pub progress : Progress
  pub runs : RunsTo run run.script progress
  pub each_run : progress.statements ≡ done
  pub count : ℕ
  pub cut : AppendsIfTold run.old.taken taken (take count (dump_text progress.state.database))
  pub legal : IsLegalState progress.state

-- what was written is cut: the text of the last of the first `done` statements, or the dump
abbrev pub HasBegunCut : Mode → runs.Run → ℕ → Option (List ℕ) → Type 0
HasBegunCut Run run done taken = (s : State) × HasRunCut run done (standing s taken) × IsLegalState s
HasBegunCut Dump run done taken = HasDumpedCut run done taken

-- the script was run to its end, and what is written of it was taken
abbrev pub IsAnswered : Mode → Bool → Seen → Seen → Report → Type 0
IsAnswered mode stop old new report =
    OfSession stop (status_of report.refused) old.left new.left
    (λ script. HasAnswered mode (run_of stop old.stands script) (status_of report.refused)
    new.stands.taken)

-- memory was refused: the first `done` statements were run
abbrev pub IsBegunTo : Mode → Bool → Seen → Seen → ℕ → Type 0
IsBegunTo mode stop old new done =
    OfFront done old.left new.left
    (λ script. HasBegunTo mode (run_of stop old.stands script) done new.stands)

-- the reader broke: of what it gave, each statement that a `;` ends was run
abbrev pub IsBegunUntilBroken : Mode → Bool → Seen → Seen → ℕ → Type 0
IsBegunUntilBroken mode stop old new done =
    IsTrue new.is_reader_broken
    × OfBroken done old.left new.left
    (λ script. IsUnderWay mode (run_of stop old.stands script) done new.stands.taken)

-- the reader gave more than a script may have: the first `done` statements were run
abbrev pub IsBegunOfTooMuch : Mode → Bool → Seen → Seen → ℕ → Type 0
IsBegunOfTooMuch mode stop old new done =
    OfTooMuch script_limit done old.left new.left
    (λ script. IsUnderWay mode (run_of stop old.stands script) done new.stands.taken)

-- the writer broke: what it took is cut
abbrev pub IsBegunCut : Mode → Bool → Seen → Seen → ℕ → Type 0
IsBegunCut mode stop old new done =
    IsTrue new.is_writer_broken
    × OfFront done old.left new.left
    (λ script. HasBegunCut mode (run_of stop old.stands script) done new.stands.taken)

-- what is promised of a run that answers this result, of which is written what the mode wants: field
-- by field as of a run alone
pub record ScriptPromise (mode : Mode) (stop : Bool) (old new : Seen)
    (result : Result Report RunFault) : Type 0 where
  pub headline : IfNotMemory result
      (IsFalse new.is_reader_broken → IsFalse new.is_writer_broken
      → GaveAtMost script_limit old.left new.left → IsOk result)
  pub answers : IfOk result (IsAnswered mode stop old new)
  pub whole : OnOk result (StaysWhole old.is_reader_broken new.is_reader_broken
      × StaysWhole old.is_writer_broken new.is_writer_broken)
  pub memory : IfErr result (IfMemory (IsBegunTo mode stop old new))
  pub read : IfErr result (IfRead (IsBegunUntilBroken mode stop old new))
  pub too_long : IfErr result (IfReadLimit (IsBegunOfTooMuch mode stop old new))
  pub write : IfErr result (IfWrite (IsBegunCut mode stop old new))

-- the status that the program ends with, and why the script was not run to its end
abbrev pub status_in : Result Report RunFault → ℕ
status_in (Ok report) = status_of report.refused
status_in (Err fault) = 3

abbrev pub fault_in : Result Report RunFault → Option RunFault
fault_in (Ok report) = None
fault_in (Err fault) = Some fault

-- what is promised of a session that comes to this status and fault: its engine came to some state
-- by a run of which the above is promised
pub record SessionPromise (mode : Mode) (stop : Bool) (old : Seen) (after : State → Seen)
    (status : ℕ) (fault : Option RunFault) : Type 0 where
  pub state : State
  pub result : Result Report RunFault
  pub script : ScriptPromise mode stop old (after state) result
  pub status_is : status ≡ status_in result
  pub fault_is : fault ≡ fault_in result
  pub between : IsLegalThroughout stop old.stands.state
