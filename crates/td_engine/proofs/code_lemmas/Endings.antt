-- What a run leaves at each of its endings.
use Rattle.std.proofs.Common.{◌≡◌, ℕ, ◌+◌, ◌-◌, ◌<◌, ◌≤◌, ◌&&◌, Bool, true, false, nat_lt, List, [], ◌∷◌, ◌++◌, length, take, drop, Option, Some, None, refl, sym, ap, ◌∙◌, subst, arith, append_assoc, append-nil, length-append, ◌⊎◌, inl, inr, zero, suc, Ok, Err}
use Rattle.std.specs.Prelude.{IsFalse, IsTrue}
use Rattle.std.proofs.KnownBytes.{Consumes-nil, Consumes-trans}
use Rattle.std.proofs.Math.Seq.{take-append_seam, take-append-add}
use Rattle.std.specs.Io.KnownBytes.{Consumes, IsAtEnd}
use Rattle.td_engine.proofs.code_lemmas.Advances.{ended_more, first_ended, none_ended, reached_fed, reached_first}
use Rattle.td_engine.proofs.law_lemmas.Runs.{runs_append, runs_stopped}
use Rattle.td_engine.proofs.code_lemmas.ToldLaws.{told_after}
use Rattle.td_engine.proofs.code_lemmas.Turning.{goes_on, runs_more}
use Rattle.td_engine.specs.model.Faults.{IfMemory, IfRead, IfReadLimit, IfWrite}
use Rattle.td_engine.specs.model.Legality.{IsLegalState, IsLegalThroughout}
use Rattle.td_engine.specs.model.Machine.{Progress, Runs, State, Step, and_then, progress_at_first, has_stopped, nothing}
use Rattle.td_engine.specs.model.Promises.{IsRun, RunPromise, Seen}
use Rattle.td_engine.specs.model.Scripts.{AreEnded, Continued, AreLeft, OfBroken, OfFront, OfScript, OfTooMuch}
use Rattle.td_engine.specs.model.Standing.{HasRun, HasRunCut, IsLeft, IsOngoing, Run, RunsTo, Standing, Stands, run_of}
use Rattle.td_engine.specs.model.Told.{AppendsIfTold, ConsumesIfTold, GaveAtMost, KeepsIfTold, StaysWhole}
use Rattle.td_engine.specs.code.Turns.{EndedAt, EndedIn, HasTurnedCut, IsFed, RunPlace, Reached, Advanced, place_at}
use Rattle.td_engine.specs.declared.run.Report.{Report}
use Rattle.td_engine.specs.declared.run.RunFault.{RunFault}
use Rattle.td_engine.specs.declared.run.RunFault.TheVariants as faults
use Rattle.td_scan.proofs.TakenLaws.{first_and_after, first_and_later, no_statement}
use Rattle.td_tree.specs.model.Statements.{Held, PlacedToken, after, first_statement, statements}

-- ---- the statements that were run are the first

-- those at the front, by their number
front_of : (all done others : List (List PlacedToken)) (count : ℕ) → all ≡ done ++ others → length done ≡ count → take count all ≡ done
front_of all done others count h e = rw (h, ← e) (take-append_seam done others)

others_of : (all done others : List (List PlacedToken)) (count : ℕ) → all ≡ done ++ others → length done ≡ count → drop count all ≡ others
others_of all done others count h e = rw (h, ← e) (drop_seam done others)
  where
    drop_seam : (xs ys : List (List PlacedToken)) → drop (length xs) (xs ++ ys) ≡ ys
    drop_seam [] ys = refl
    drop_seam (x ∷ xs) ys = drop_seam xs ys

module _ (stop : Bool) (before : Standing) (given : List ℕ) (place : RunPlace) (r : Reached stop before given place) where
  -- with nothing behind them the statements of what was given
  cut_now : statements 0 given ≡ r.done ++ statements place.held.offset place.held.bytes
  cut_now =
      sym (ap (statements 0) (append-nil given)) ∙ r.cut [] (λ f. refl)
      ∙ ap (λ b. r.done ++ statements place.held.offset b) (append-nil place.held.bytes)

  pub front_ended : (count : ℕ) → count ≡ place.report.statements → place.held.finished ≡ false → AreEnded (take count (statements 0 given))
  front_ended count is more =
      subst AreEnded (sym (front_of (statements 0 given) r.done (statements place.held.offset place.held.bytes) count cut_now (r.each ∙ sym is))) (r.ended more)

  -- the same of more that was given
  pub front_ended_more : (piece : List ℕ) (count : ℕ) → count ≡ place.report.statements → place.held.finished ≡ false → AreEnded (take count (statements 0 (given ++ piece)))
  front_ended_more piece count is more =
      subst AreEnded (sym (front_of (statements 0 (given ++ piece)) r.done (statements place.held.offset (place.held.bytes ++ piece)) count
      (r.cut piece (λ f. absurd (let wrong : false ≡ true = sym more ∙ f in cc))) (r.each ∙ sym is))) (r.ended more)

  pub has_run : (count : ℕ) (new : Standing) (rest : List ℕ) → count ≡ place.report.statements → new ≡ place.standing → (place.held.finished ≡ true → rest ≡ [])
      → HasRun (run_of stop before (given ++ rest)) count new
  has_run count new rest is same may =
      let all : List (List PlacedToken) = statements 0 (given ++ rest) in
      record {
        progress = r.left.progress;
        runs = subst (λ (ss : List (List PlacedToken)). Runs stop (progress_at_first before.state) ss r.left.progress)
            (sym (front_of all r.done (statements place.held.offset (place.held.bytes ++ rest)) count (r.cut rest may) (r.each ∙ sym is))) r.left.runs;
        each_run = sym r.left.statements_are ∙ sym is;
        stands = subst (λ (s : Standing). Stands before r.left.progress s) (sym same) r.left.stands;
      }

  -- the same in a continuation of more that was given
  pub has_run_more : (piece : List ℕ) (count : ℕ) (new : Standing) (rest : List ℕ) → count ≡ place.report.statements → new ≡ place.standing → place.held.finished ≡ false
      → HasRun (run_of stop before ((given ++ piece) ++ rest)) count new
  has_run_more piece count new rest is same more =
      subst (λ (bytes : List ℕ). HasRun (run_of stop before bytes) count new) (sym (append_assoc given piece rest))
      (has_run count new (piece ++ rest) is same (λ f. absurd (let wrong : false ≡ true = sym more ∙ f in cc)))

  -- nothing is left, or the run is over: all was run
  pub is_left : (rest : List ℕ) → (place.held.finished ≡ true → rest ≡ [])
      → (statements place.held.offset (place.held.bytes ++ rest) ≡ []) ⊎ ((stop && nat_lt 0 place.report.refused) ≡ true)
      → IsLeft (run_of stop before (given ++ rest)) place.standing place.report
  is_left rest may over =
      let p : Progress = r.left.progress in
      let others : List (List PlacedToken) = statements place.held.offset (place.held.bytes ++ rest) in
      record {
        progress = p;
        runs = subst (λ (ss : List (List PlacedToken)). Runs stop (progress_at_first before.state) ss p) (sym (r.cut rest may))
            (runs_append stop (progress_at_first before.state) r.done p others p r.left.runs
            (elim over as (λ _. Runs stop p others p) [
              | inl none ↦ subst (λ (ss : List (List PlacedToken)). Runs stop p ss p) (sym none) nothing
              | inr stopped ↦ runs_stopped stop p others (ap (λ n. stop && nat_lt 0 n) (sym r.left.refused_are) ∙ stopped)
            ]));
        stands = r.left.stands;
        statements_are = r.left.statements_are;
        refused_are = r.left.refused_are;
      }

-- ---- one statement more, whose text is cut

next_in : (given : List ℕ) (done : List (List PlacedToken)) (held : Held) (x : List PlacedToken) (rest : List ℕ) (finished : Bool) → held.finished ≡ finished
    → statements 0 (given ++ rest) ≡ done ++ statements held.offset (held.bytes ++ rest) → (finished ≡ true → rest ≡ []) → first_statement held ≡ Some x
    → statements 0 (given ++ rest) ≡ done ++ (x ∷ statements (after held).offset ((after held).bytes ++ rest))
next_in given done held x rest true is cut none first =
    cut ∙ ap (λ t. done ++ t) (ap (λ r. statements held.offset (held.bytes ++ r)) (none refl) ∙ ap (statements held.offset) (append-nil held.bytes) ∙ first_and_after held x first
    ∙ ap (λ t. x ∷ t) (sym (ap (λ r. statements (after held).offset ((after held).bytes ++ r)) (none refl) ∙ ap (statements (after held).offset) (append-nil (after held).bytes))))
next_in given done held x rest false is cut none first = cut ∙ ap (λ t. done ++ t) (first_and_later held x first is rest)

module _ (stop : Bool) (before : Standing) (given : List ℕ) (place : RunPlace) (r : Reached stop before given place) (new : Standing) (count : ℕ)
    (is : count ≡ place.report.statements + 1) (goes : (stop && nat_lt 0 place.report.refused) ≡ false) (t : HasTurnedCut place new) where
  abbrev x : List PlacedToken
  x = t.first.statement

  abbrev others : List ℕ → List (List PlacedToken)
  others rest = statements (after place.held).offset ((after place.held).bytes ++ rest)

  all_of : (rest : List ℕ) → (place.held.finished ≡ true → rest ≡ []) → statements 0 (given ++ rest) ≡ r.done ++ (x ∷ others rest)
  all_of rest may = next_in given r.done place.held x rest place.held.finished refl (r.cut rest may) may t.first.is

  all_joined : (rest : List ℕ) → (place.held.finished ≡ true → rest ≡ []) → statements 0 (given ++ rest) ≡ (r.done ++ (x ∷ [])) ++ others rest
  all_joined rest may = all_of rest may ∙ sym (append_assoc r.done (x ∷ []) (others rest))

  longer : length (r.done ++ (x ∷ [])) ≡ count
  longer = length-append r.done (x ∷ []) ∙ (ap (λ k. k + 1) r.each ∙ sym is)

  pub cut_front_ended : place.held.finished ≡ false → AreEnded (take count (statements 0 given))
  cut_front_ended more =
      let now : statements 0 given ≡ (r.done ++ (x ∷ [])) ++ others [] = sym (ap (statements 0) (append-nil given)) ∙ all_joined [] (λ f. refl) in
      subst AreEnded (sym (front_of (statements 0 given) (r.done ++ (x ∷ [])) (others []) count now longer))
      (ended_more r.done x (r.ended more) (first_ended place.held x t.first.is more))

  pub has_run_cut : (rest : List ℕ) → (place.held.finished ≡ true → rest ≡ []) → HasRunCut (run_of stop before (given ++ rest)) count new
  has_run_cut rest may =
      let run : Run = run_of stop before (given ++ rest) in
      let p : Progress = r.left.progress in
      let step : Step State = t.first.step in
      let fewer : length r.done ≡ count - 1 = omega (arith, r.each, is) in
      record {
        progress = and_then p step;
        runs = subst (λ (ss : List (List PlacedToken)). RunsTo run ss (and_then p step))
            (sym (front_of (statements 0 (given ++ rest)) (r.done ++ (x ∷ [])) (others rest) count (all_joined rest may) longer))
            (runs_more run r.done p place.standing.state x step r.left.runs (goes_on stop p place.report.refused r.left.refused_are goes) r.left.stands.state_is t.first.steps);
        some = omega (arith, is);
        each_run = ap (λ k. k + 1) (sym r.left.statements_are) ∙ sym is;
        state_is = t.first.state_is;
        others = p;
        runs_of_others = subst (λ (ss : List (List PlacedToken)). RunsTo run ss p)
            (sym (front_of (statements 0 (given ++ rest)) r.done (x ∷ others rest) (count - 1) (all_of rest may) fewer)) r.left.runs;
        count = length p.text + t.count;
        whole = omega arith;
        cut = subst (λ (text : List ℕ). AppendsIfTold before.taken new.taken text) (sym (take-append-add p.text step.text t.count))
            (told_after before.taken place.standing.taken new.taken p.text (take t.count step.text) r.left.stands.written t.cut);
      }

-- ---- between two pieces

-- what was given so far, of which so many bytes may be more, and where the run is
pub record Streamed (limit room : ℕ) (stop : Bool) (before : Standing) (from to : Option (List ℕ)) (place : RunPlace) : Type 0 where
  pub given : List ℕ
  pub moved : Consumes from to given
  pub size : length given + room ≡ limit
  pub reached : Reached stop before given place
  pub held : place.held.offset + length place.held.bytes ≡ length given
  pub counted : place.report.statements + length place.held.bytes ≤ length given
  pub refused : place.report.refused ≤ place.report.statements

pub streamed_first : (limit : ℕ) (stop : Bool) (before : Standing) (from : Option (List ℕ))
    → Streamed limit limit stop before from from (place_at (record { bytes = []; offset = 0; finished = false }) before (record { statements = 0; refused = 0 }))
streamed_first limit stop before from = record {
  given = [];
  moved = Consumes-nil from;
  size = omega arith;
  reached = reached_first stop before;
  held = refl;
  counted = omega arith;
  refused = omega arith;
}

pub streamed_fed : (limit room : ℕ) (stop : Bool) (before : Standing) (from mid to : Option (List ℕ)) (old new : RunPlace) (count left : ℕ)
    → Streamed limit room stop before from mid old → old.held.finished ≡ false → IsFed old.held new.held mid to count → count ≤ room → left ≡ room - count
    → new.standing ≡ old.standing → new.report ≡ old.report → Streamed limit left stop before from to new
streamed_fed limit room stop before from mid to old new count left s more f fits is same counts =
    let longer : length (s.given ++ f.piece) ≡ length s.given + count = length-append s.given f.piece ∙ ap (λ n. length s.given + n) f.size in
    let bytes : length new.held.bytes ≡ length old.held.bytes + count =
    ap length f.bytes_are ∙ length-append old.held.bytes f.piece ∙ ap (λ n. length old.held.bytes + n) f.size in
    let statements_are : new.report.statements ≡ old.report.statements = ap (λ c. c.statements) counts in
    let refused_are : new.report.refused ≡ old.report.refused = ap (λ c. c.refused) counts in
    record {
      given = s.given ++ f.piece;
      moved = Consumes-trans from mid to s.given f.piece s.moved f.given;
      size = omega (arith, longer, s.size, fits, is);
      reached = reached_fed stop before s.given old new mid to count more s.reached f same counts;
      held = omega (arith, longer, bytes, s.held, f.offset_is);
      counted = omega (arith, longer, bytes, s.counted, statements_are);
      refused = omega (arith, statements_are, refused_are, s.refused);
    }

pub streamed_on : (limit room : ℕ) (stop : Bool) (before : Standing) (from to : Option (List ℕ)) (old new : RunPlace)
    → Streamed limit room stop before from to old → Advanced stop old new → Streamed limit room stop before from to new
streamed_on limit room stop before from to old new s a = record {
  given = s.given;
  moved = s.moved;
  size = s.size;
  reached = a.reached before s.given s.reached;
  held = a.end_is ∙ s.held;
  counted = omega (arith, a.counted, s.counted);
  refused = a.refused s.refused;
}

-- ---- endings

continued : (stop : Bool) (before : Standing) (given : List ℕ) (place : RunPlace) → Reached stop before given place → (count : ℕ) (new : Standing)
    → count ≡ place.report.statements → new ≡ place.standing → Continued place.held.finished given (λ script. HasRun (run_of stop before script) count new)
continued stop before given place r count new is same = λ rest may. has_run stop before given place r count new rest is same may

kept_told : (from mid to : Option (List ℕ)) (given : List ℕ) → Consumes from mid given → KeepsIfTold mid to → ConsumesIfTold from to given
kept_told None mid to given c k = tt
kept_told (Some xs) None to given c k = absurd c
kept_told (Some xs) (Some ys) None given c k = (ys, c)
kept_told (Some xs) (Some ys) (Some zs) given c k = c ∙ ap (λ t. given ++ t) (sym k)

module _ (limit room : ℕ) (stop : Bool) (before : Standing) (from mid to : Option (List ℕ)) (place : RunPlace) (s : Streamed limit room stop before from mid place)
    (more : place.held.finished ≡ false) (count : ℕ) (new : Standing) (is : count ≡ place.report.statements) (same : new ≡ place.standing) where
  ongoing : (stop && nat_lt 0 place.report.refused) ≡ false → (script : List ℕ) → (has : HasRun (run_of stop before script) count new)
      → has.progress ≡ s.reached.left.progress → IsOngoing (run_of stop before script) count new
  ongoing goes script has is_its = record {
    has_run = has;
    goes_on = ap (has_stopped stop) is_its ∙ goes_on stop s.reached.left.progress place.report.refused s.reached.left.refused_are goes;
  }

  -- the source failed
  pub at_read : (stop && nat_lt 0 place.report.refused) ≡ false → first_statement place.held ≡ None → KeepsIfTold mid to
      → OfBroken count from to (λ script. IsOngoing (run_of stop before script) count new)
  unfolding has_run
  at_read goes none kept = (
    s.given,
    kept_told from mid to s.given s.moved kept,
    record { at_end = λ f. absurd cc; each_ended = λ f. front_ended stop before s.given place s.reached count is more },
    λ rest may. ongoing goes (s.given ++ rest) (has_run stop before s.given place s.reached count new rest is same (λ f. absurd (let wrong : false ≡ true = sym more ∙ f in cc))) refl,
    subst AreLeft (sym (others_of (statements 0 s.given) s.reached.done (statements place.held.offset place.held.bytes) count
        (cut_now stop before s.given place s.reached) (s.reached.each ∙ sym is))) (none_ended place.held none),
  )

  -- a piece was given that was not fed
  pub at_piece : (piece : List ℕ) → Consumes mid to piece → OfFront count from to (λ script. HasRun (run_of stop before script) count new)
  at_piece piece moved = (
    s.given ++ piece,
    false,
    Consumes-trans from mid to s.given piece s.moved moved,
    record { at_end = λ f. absurd cc; each_ended = λ f. front_ended_more stop before s.given place s.reached piece count is more },
    λ rest may. has_run_more stop before s.given place s.reached piece count new rest is same more,
  )

  pub at_limit : (stop && nat_lt 0 place.report.refused) ≡ false → (piece : List ℕ) → Consumes mid to piece → room < length piece
      → OfTooMuch limit count from to (λ script. IsOngoing (run_of stop before script) count new)
  unfolding has_run
  at_limit goes piece moved much = (
    s.given ++ piece,
    Consumes-trans from mid to s.given piece s.moved moved,
    record { at_end = λ f. absurd cc; each_ended = λ f. front_ended_more stop before s.given place s.reached piece count is more },
    λ rest may.
        subst (λ (script : List ℕ). IsOngoing (run_of stop before script) count new) (sym (append_assoc s.given piece rest))
        (ongoing goes (s.given ++ (piece ++ rest)) (has_run stop before s.given place s.reached count new (piece ++ rest) is same (λ f. absurd (let wrong : false ≡ true = sym more ∙ f in cc))) refl),
    omega (arith, length-append s.given piece, s.size, much),
  )

module _ (limit room : ℕ) (stop : Bool) (before : Standing) (from to : Option (List ℕ)) (place : RunPlace) (s : Streamed limit room stop before from to place)
    (at_end : place.held.finished ≡ true → IsAtEnd to) where
  -- the statements held were run up to a place
  pub at_memory : (count : ℕ) (new : Standing) → EndedAt stop place count new → OfFront count from to (λ script. HasRun (run_of stop before script) count new)
  at_memory count new e =
      let r : Reached stop before s.given e.place = e.advanced.reached before s.given s.reached in (
        s.given,
        e.place.held.finished,
        s.moved,
        record {
          at_end = λ f. at_end (sym e.advanced.finished_is ∙ f);
          each_ended = λ f. front_ended stop before s.given e.place r count e.done_is f;
        },
        continued stop before s.given e.place r count new e.done_is e.same,
      )

  pub at_write : (count : ℕ) (new : Standing) → EndedIn stop place count new → OfFront count from to (λ script. HasRunCut (run_of stop before script) count new)
  at_write count new e =
      let r : Reached stop before s.given e.place = e.advanced.reached before s.given s.reached in (
        s.given,
        e.place.held.finished,
        s.moved,
        record {
          at_end = λ f. at_end (sym e.advanced.finished_is ∙ f);
          each_ended = λ f. cut_front_ended stop before s.given e.place r new count e.done_is e.goes_on e.turned f;
        },
        λ rest may. has_run_cut stop before s.given e.place r new count e.done_is e.goes_on e.turned rest may,
      )

  -- the source was read to its end, and all was run
  pub at_the_end : place.held.finished ≡ true → ((stop && nat_lt 0 place.report.refused) ≡ false → first_statement place.held ≡ None)
      → OfScript limit place.report.statements (stop && nat_lt 0 place.report.refused) from to
      (λ script. IsLeft (run_of stop before script) place.standing place.report)
  at_the_end finished all = (
    s.given,
    true,
    s.moved,
    record { at_end = λ f. at_end finished; each_ended = λ f. absurd cc },
    λ rest may. is_left stop before s.given place s.reached rest (λ f. may refl) (over rest (may refl) (stop && nat_lt 0 place.report.refused) refl),
    record { unless_over = λ f. refl; size = omega (arith, s.size) },
  )
    where
      over : (rest : List ℕ) → rest ≡ [] → (b : Bool) → (stop && nat_lt 0 place.report.refused) ≡ b
          → (statements place.held.offset (place.held.bytes ++ rest) ≡ []) ⊎ ((stop && nat_lt 0 place.report.refused) ≡ true)
      over rest none true e = inr e
      over rest none false e =
          inl (ap (λ r. statements place.held.offset (place.held.bytes ++ r)) none ∙ ap (statements place.held.offset) (append-nil place.held.bytes)
          ∙ no_statement place.held (all e) finished)

  -- the first refusal ended the run
  pub at_refusal : (stop && nat_lt 0 place.report.refused) ≡ true → place.held.finished ≡ false
      → OfScript limit place.report.statements (stop && nat_lt 0 place.report.refused) from to
      (λ script. IsLeft (run_of stop before script) place.standing place.report)
  at_refusal over more = (
    s.given,
    false,
    s.moved,
    record { at_end = λ f. absurd cc; each_ended = λ f. front_ended stop before s.given place s.reached place.report.statements refl more },
    λ rest may. is_left stop before s.given place s.reached rest (λ f. absurd (let wrong : false ≡ true = sym more ∙ f in cc)) (inr over),
    record { unless_over = λ f. absurd (let wrong : false ≡ true = sym f ∙ over in cc); size = omega (arith, s.size) },
  )

-- ---- pieces and faults

-- where all was fed, the source is at its end
pub fed_end : (old new : Held) (from to : Option (List ℕ)) (count : ℕ) → IsFed old new from to count → new.finished ≡ true → IsAtEnd to
fed_end old new from to zero f e = (f.none refl).1
fed_end old new from to (suc n) f e = absurd (let wrong : false ≡ true = sym (f.more (omega arith)) ∙ e in cc)

pub some_of : (n : ℕ) → (n ≡ 0 → ⊥) → 0 < n
some_of zero e = absurd (e refl)
some_of (suc n) e = omega arith

-- a source that gave more than the limit
too_many : (limit : ℕ) (from to : Option (List ℕ)) (front : List ℕ) → Consumes from to front → limit < length front → GaveAtMost limit from to → ⊥
too_many limit None to front c much gave = gave
too_many limit (Some xs) None front c much gave = gave
too_many limit (Some xs) (Some ys) front c much gave = omega (arith, gave, much, ap length c, length-append front ys)

-- ---- what is promised, ending by ending

-- the script was run to its end
pub ended_well : (limit : ℕ) (stop : Bool) (old new : Seen) (report : Report) → IsRun stop limit old new report
    → StaysWhole old.is_reader_broken new.is_reader_broken → StaysWhole old.is_writer_broken new.is_writer_broken
    → IsLegalState new.stands.state → IsLegalThroughout stop old.stands.state → RunPromise stop limit old new (Ok report)
ended_well limit stop old new report run reader writer legal between = record {
  headline = λ r w g. refl;
  answers = run;
  whole = (reader, writer);
  memory = tt;
  read = tt;
  too_long = tt;
  write = tt;
  legal = legal;
  between = between;
}

-- a piece was not given, or not fed
module _ (limit room : ℕ) (stop : Bool) (old new : Seen) (mid : Option (List ℕ)) (place : RunPlace)
    (s : Streamed limit room stop old.stands old.left mid place) (more : place.held.finished ≡ false) (same : new.stands ≡ place.standing)
    (goes : (stop && nat_lt 0 place.report.refused) ≡ false) (none : first_statement place.held ≡ None)
    (legal : IsLegalState new.stands.state) (between : IsLegalThroughout stop old.stands.state) where
  pub ended_in_piece : (fault : RunFault)
      → IfMemory (λ n. (n ≡ place.report.statements) × ((piece : List ℕ) × Consumes mid new.left piece)) fault
      → IfRead (λ n. (n ≡ place.report.statements) × IsTrue new.is_reader_broken × KeepsIfTold mid new.left) fault
      → IfReadLimit (λ n. (n ≡ place.report.statements) × ((piece : List ℕ) × Consumes mid new.left piece × (room < length piece))) fault
      → IfWrite (λ n. ⊥) fault → RunPromise stop limit old new (Err fault)
  ended_in_piece (faults.Memory n) m r l w = record {
    headline = tt;
    answers = tt;
    whole = tt;
    memory = at_piece limit room stop old.stands old.left mid new.left place s more n new.stands m.0 same m.1.0 m.1.1;
    read = tt;
    too_long = tt;
    write = tt;
    legal = legal;
    between = between;
  }
  ended_in_piece (faults.Read n) m r l w = record {
    headline = λ whole other gave. absurd (let wrong : false ≡ true = sym whole ∙ r.1 in cc);
    answers = tt;
    whole = tt;
    memory = tt;
    read = (r.1, at_read limit room stop old.stands old.left mid new.left place s more n new.stands r.0 same goes none r.2);
    too_long = tt;
    write = tt;
    legal = legal;
    between = between;
  }
  ended_in_piece (faults.ReadLimit n) m r l w = record {
    headline =
        λ whole other gave. absurd (too_many limit old.left new.left (s.given ++ l.1.0) (Consumes-trans old.left mid new.left s.given l.1.0 s.moved l.1.1)
        (let much : limit < length (s.given ++ l.1.0) = omega (arith, length-append s.given l.1.0, s.size, l.1.2) in much) gave);
    answers = tt;
    whole = tt;
    memory = tt;
    read = tt;
    too_long = at_limit limit room stop old.stands old.left mid new.left place s more n new.stands l.0 same goes l.1.0 l.1.1 l.1.2;
    write = tt;
    legal = legal;
    between = between;
  }
  ended_in_piece (faults.Write n) m r l w = absurd w

-- a statement that was held found no memory, or its answer was not written whole
module _ (limit room : ℕ) (stop : Bool) (old new : Seen) (place : RunPlace) (s : Streamed limit room stop old.stands old.left new.left place)
    (at_end : place.held.finished ≡ true → IsAtEnd new.left)
    (legal : IsLegalState new.stands.state) (between : IsLegalThroughout stop old.stands.state) where
  pub ended_in_held : (fault : RunFault) → IfMemory (λ n. EndedAt stop place n new.stands) fault → IfWrite (λ n. EndedIn stop place n new.stands) fault
      → IfWrite (λ n. IsTrue new.is_writer_broken) fault → IfRead (λ n. ⊥) fault → IfReadLimit (λ n. ⊥) fault → RunPromise stop limit old new (Err fault)
  ended_in_held (faults.Memory n) m w broken r l = record {
    headline = tt;
    answers = tt;
    whole = tt;
    memory = at_memory limit room stop old.stands old.left new.left place s at_end n new.stands m;
    read = tt;
    too_long = tt;
    write = tt;
    legal = legal;
    between = between;
  }
  ended_in_held (faults.Read n) m w broken r l = absurd r
  ended_in_held (faults.ReadLimit n) m w broken r l = absurd l
  ended_in_held (faults.Write n) m w broken r l = record {
    headline = λ reader whole gave. absurd (let wrong : false ≡ true = sym whole ∙ broken in cc);
    answers = tt;
    whole = tt;
    memory = tt;
    read = tt;
    too_long = tt;
    write = (broken, at_write limit room stop old.stands old.left new.left place s at_end n new.stands w);
    legal = legal;
    between = between;
  }
