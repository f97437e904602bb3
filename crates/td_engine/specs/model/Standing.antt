-- What a run leaves (this project's own, in the words of the set machine).
use Rattle.std.specs.Prelude.{◌≡◌, ℕ, ◌-◌, ◌<◌, ◌≤◌, Bool, false, List, length, take, Option}
use Rattle.std.specs.Io.KnownBytes.{Appends}
use Rattle.td_engine.specs.model.Machine.{Progress, Runs, State, progress_at_first, has_stopped}
use Rattle.td_engine.specs.model.Told.{AppendsIfTold}
use Rattle.td_engine.specs.declared.run.Report.{Report}
use Rattle.td_tree.specs.model.Statements.{PlacedToken, statements}

-- what stands between two statements: the state, and what the sink tells that it has taken
pub record Standing : Type 0 where
  pub state : State
  pub taken : Option (List ℕ)

abbrev pub standing : State → Option (List ℕ) → Standing
standing state taken = record { state = state; taken = taken }

-- a run: whether the first refusal ends it, what stood before it, and its statements
pub record Run : Type 0 where
  pub stop : Bool
  pub old : Standing
  pub script : List (List PlacedToken)

-- the run of a script of these bytes
abbrev pub run_of : Bool → Standing → List ℕ → Run
run_of stop old bytes = record { stop = stop; old = old; script = statements 0 bytes }

-- the machine comes so far by these statements of the run
abbrev pub RunsTo : Run → List (List PlacedToken) → Progress → Type 0
RunsTo run script progress = Runs run.stop (progress_at_first run.old.state) script progress

-- after what stood, this is what the machine's progress leaves: its state, and its text behind what was taken
pub record Stands (old : Standing) (progress : Progress) (new : Standing) : Type 0 where
  pub state_is : new.state ≡ progress.state
  pub written : Appends old.taken new.taken progress.text

-- the statements were run: what stands is what the machine leaves, and the report has its two numbers
pub record IsLeft (run : Run) (new : Standing) (report : Report) : Type 0 where
  pub progress : Progress
  pub runs : RunsTo run run.script progress
  pub stands : Stands run.old progress new
  pub statements_are : report.statements ≡ progress.statements
  pub refused_are : report.refused ≡ progress.refusals

-- the first `done` statements were run, each of them, and their texts are written whole
pub record HasRun (run : Run) (done : ℕ) (new : Standing) : Type 0 where
  pub progress : Progress
  pub runs : RunsTo run (take done run.script) progress
  pub each_run : progress.statements ≡ done
  pub stands : Stands run.old progress new

-- as in `HasRun`, and no refusal ended the run there
pub record IsOngoing (run : Run) (done : ℕ) (new : Standing) : Type 0 where
  pub has_run : HasRun run done new
  pub goes_on : has_stopped run.stop has_run.progress ≡ false

-- the first `done` statements were run, each of them, and their texts are written but for a part of the last one's
pub record HasRunCut (run : Run) (done : ℕ) (new : Standing) : Type 0 where
  pub progress : Progress
  pub runs : RunsTo run (take done run.script) progress
  pub some : 0 < done
  pub each_run : progress.statements ≡ done
  pub state_is : new.state ≡ progress.state
  pub others : Progress
  pub runs_of_others : RunsTo run (take (done - 1) run.script) others
  pub count : ℕ
  pub whole : length others.text ≤ count
  pub cut : AppendsIfTold run.old.taken new.taken (take count progress.text)
