-- What a run leaves after one statement more, at its end, and at a fault.
use Rattle.std.proofs.Common.{◌≡◌, ℕ, ◌+◌, ◌<◌, ◌≤◌, ◌&&◌, Bool, true, false, nat_lt, if◌then◌else◌, List, [], ◌∷◌, ◌++◌, length, take, Option, Some, None, Result, Ok, Err, IfOk, refl, sym, ap, ◌∙◌, subst, arith, is_none}
use Rattle.std.proofs.KnownBytes.{Appends-trans}
use Rattle.std.specs.Io.KnownBytes.{Appends}
use Rattle.std.specs.String.{string_bytes}
use Rattle.td_engine.proofs.law_lemmas.Runs.{runs_append}
use Rattle.td_engine.specs.model.Faults.{IfMemory, IfRead, IfReadLimit, IfWrite}
use Rattle.td_engine.specs.model.Machine.{Progress, State, Step, Steps, nothing, next, and_then, progress_at_first, has_stopped, refusals_of}
use Rattle.td_engine.specs.model.Standing.{IsLeft, Run, RunsTo, Standing}
use Rattle.td_engine.specs.code.Steps.{IsParsed, IsStep, step_view}
use Rattle.td_engine.specs.model.Told.{AppendsIfTold}
use Rattle.td_engine.specs.code.Turns.{FirstStep, HasTurned, HasTurnedCut, IsReading, RunPlace, Turned}
use Rattle.td_engine.specs.declared.answer.Answer as code
use Rattle.td_engine.specs.declared.run.RunFault.TheVariants.{Memory, Read, ReadLimit, Write}
use Rattle.td_engine.specs.declared.run.RunFault.{RunFault}
use Rattle.td_scan.proofs.TakenLaws.{fewer_bytes}
use Rattle.td_tree.specs.model.Statements.{PlacedToken, Held, after}
use Rattle.td_tree.specs.declared.cause.Cause.{Cause}
use Rattle.td_tree.specs.declared.fault.Fault.{Fault}
use Rattle.td_tree.specs.declared.statement.Statement.{Statement}

-- ---- one statement

-- it was read, and what it was read as was carried out
pub first_step : (held : Held) (old new : Standing) (parsed : Result Statement Fault) (end : ℕ) (answer : code.Answer) → IsReading held parsed end
    → ((tokens : List PlacedToken) → IsParsed tokens parsed → IsStep old.state tokens answer new.state) → FirstStep held old new
first_step held old new parsed end answer r does = record {
  statement = r.statement;
  is = r.is;
  step = step_view answer new.state;
  steps = (does r.statement r.means).step;
  state_is = refl;
}

-- the counts of refusals agree
refused_more : (cause : Option Cause) (accepted : Bool) (refused more : ℕ) → accepted ≡ is_none cause → more ≡ refused + (if accepted then 0 else 1) → more ≡ refused + refusals_of cause
refused_more None accepted refused more h e = e ∙ ap (λ b. refused + (if b then 0 else 1)) h
refused_more (Some cause) accepted refused more h e = e ∙ ap (λ b. refused + (if b then 0 else 1)) h

pub turned : (old new : RunPlace) (parsed : Result Statement Fault) (end : ℕ) (answer : code.Answer) → IsReading old.held parsed end
    → ((tokens : List PlacedToken) → IsParsed tokens parsed → IsStep old.standing.state tokens answer new.standing.state)
    → new.held ≡ after old.held → Appends old.standing.taken new.standing.taken (string_bytes answer.text)
    → new.report.statements ≡ old.report.statements + 1 → new.report.refused ≡ old.report.refused + (if answer.accepted then 0 else 1)
    → HasTurned old new
unfolding first_step
turned old new parsed end answer r does held wrote counted refusals = record {
  first = first_step old.held old.standing new.standing parsed end answer r does;
  held_is = held;
  written = wrote;
  statements_are = counted;
  refused_are = refused_more answer.cause answer.accepted old.report.refused new.report.refused (does r.statement r.means).accepted refusals;
}

pub turned_cut : (old : RunPlace) (new : Standing) (parsed : Result Statement Fault) (end : ℕ) (answer : code.Answer) (count : ℕ) → IsReading old.held parsed end
    → ((tokens : List PlacedToken) → IsParsed tokens parsed → IsStep old.standing.state tokens answer new.state)
    → AppendsIfTold old.standing.taken new.taken (take count (string_bytes answer.text)) → HasTurnedCut old new
unfolding first_step
turned_cut old new parsed end answer count r does wrote = record {
  first = first_step old.held old.standing new parsed end answer r does;
  count = count;
  cut = wrote;
}

-- where there was a statement, it was run
pub was_turned : (old new : RunPlace) (found : Bool) → Turned old new found → found ≡ true → HasTurned old new
was_turned old new true t e = t
was_turned old new false t e = cc

-- what is taken off takes bytes off
pub turned_fewer : (old new : RunPlace) → HasTurned old new → length new.held.bytes < length old.held.bytes
turned_fewer old new t = omega (arith, fewer_bytes old.held t.first.statement t.first.is, ap (λ (h : Held). length h.bytes) t.held_is)

-- the cutter was fed all before and is so after
pub turned_finished : (old new : RunPlace) → HasTurned old new → old.held.finished ≡ true → new.held.finished ≡ true
turned_finished old new t h = ap (λ (h : Held). h.finished) t.held_is ∙ h

-- no more refusals than statements
pub turned_refused : (old new : RunPlace) → HasTurned old new → old.report.refused ≤ old.report.statements → new.report.refused ≤ new.report.statements
turned_refused old new t h = by_cause t.first.step.cause t.refused_are
  where
    by_cause : (cause : Option Cause) → new.report.refused ≡ old.report.refused + refusals_of cause → new.report.refused ≤ new.report.statements
    by_cause None e = omega (arith, e, h, t.statements_are)
    by_cause (Some cause) e = omega (arith, e, h, t.statements_are)

-- ---- one statement more

pub goes_on : (stop : Bool) (p : Progress) (refused : ℕ) → refused ≡ p.refusals → (stop && nat_lt 0 refused) ≡ false → has_stopped stop p ≡ false
goes_on stop p refused is h = ap (λ n. stop && nat_lt 0 n) (sym is) ∙ h

pub runs_more : (run : Run) (done : List (List PlacedToken)) (p : Progress) (old : State) (x : List PlacedToken) (step : Step State)
    → RunsTo run done p → has_stopped run.stop p ≡ false → old ≡ p.state → Steps old x step → RunsTo run (done ++ (x ∷ [])) (and_then p step)
runs_more run done p old x step runs goes is steps =
    runs_append run.stop (progress_at_first run.old.state) done p (x ∷ []) (and_then p step) runs (next step goes (subst (λ (d : State). Steps d x step) is steps) nothing)

pub left_more : (run : Run) (done : List (List PlacedToken)) (old new : RunPlace) → (run.stop && nat_lt 0 old.report.refused) ≡ false
    → IsLeft (record run { script = done }) old.standing old.report → (t : HasTurned old new)
    → IsLeft (record run { script = done ++ (t.first.statement ∷ []) }) new.standing new.report
left_more run done old new goes left t =
    let p : Progress = left.progress in
    let step : Step State = t.first.step in
    record {
      progress = and_then p step;
      runs = runs_more run done p old.standing.state t.first.statement step left.runs (goes_on run.stop p old.report.refused left.refused_are goes) left.stands.state_is t.first.steps;
      stands = record {
        state_is = t.first.state_is;
        written = Appends-trans run.old.taken old.standing.taken new.standing.taken p.text step.text left.stands.written t.written;
      };
      statements_are = t.statements_are ∙ ap (λ n. n + 1) left.statements_are;
      refused_are = t.refused_are ∙ ap (λ n. n + refusals_of step.cause) left.refused_are;
    }

-- ---- a fact of a result from another

pub ok_map : {A E : Type 0} (P Q : A → Type 0) → ((x : A) → P x → Q x) → (r : Result A E) → IfOk r P → IfOk r Q
ok_map P Q f (Ok x) h = f x h
ok_map P Q f (Err e) h = tt

pub memory_map : (P Q : ℕ → Type 0) → ((done : ℕ) → P done → Q done) → (fault : RunFault) → IfMemory P fault → IfMemory Q fault
memory_map P Q f (Memory done) h = f done h
memory_map P Q f (Read done) h = tt
memory_map P Q f (ReadLimit done) h = tt
memory_map P Q f (Write done) h = tt

pub write_map : (P Q : ℕ → Type 0) → ((done : ℕ) → P done → Q done) → (fault : RunFault) → IfWrite P fault → IfWrite Q fault
write_map P Q f (Memory done) h = tt
write_map P Q f (Read done) h = tt
write_map P Q f (ReadLimit done) h = tt
write_map P Q f (Write done) h = f done h

pub read_map : (P Q : ℕ → Type 0) → ((done : ℕ) → P done → Q done) → (fault : RunFault) → IfRead P fault → IfRead Q fault
read_map P Q f (Memory done) h = tt
read_map P Q f (Read done) h = f done h
read_map P Q f (ReadLimit done) h = tt
read_map P Q f (Write done) h = tt

pub limit_map : (P Q : ℕ → Type 0) → ((done : ℕ) → P done → Q done) → (fault : RunFault) → IfReadLimit P fault → IfReadLimit Q fault
limit_map P Q f (Memory done) h = tt
limit_map P Q f (Read done) h = tt
limit_map P Q f (ReadLimit done) h = f done h
limit_map P Q f (Write done) h = tt
