-- What a run writes, as its answers or as the dump of what it leaves.
use Rattle.std.proofs.Common.{◌≡◌, ◌∙◌, ℕ, Bool, List, [], Option, Some, None, Result, Ok, Err, ap, refl, sym, subst, append-nil, arith}
use Rattle.std.specs.Prelude.{IfErr, IfOk, IsTrue, OnOk, take, nat_lt, if◌then◌else◌, ◌&&◌, ◌++◌, true, false}
use Rattle.std.specs.Io.KnownBytes.{Appends}
use Rattle.td.specs.model.Sessions.{HasAnswered, HasBegun, HasBegunTo, HasDumpedCut, IsUnderWay, OfSession, ScriptPromise, status_of}
use Rattle.td.specs.declared.line.Mode.TheVariants.{Dump, Run}
use Rattle.td_catalog.specs.model.Dumps.{dump_text}
use Rattle.td_engine.proofs.law_lemmas.Runs.{runs_front}
use Rattle.td_engine.specs.model.Faults.{IfMemory, IfRead, IfReadLimit, IfWrite}
use Rattle.td_engine.specs.model.Machine.{State, progress_at_first}
use Rattle.td_engine.specs.model.Promises.{RunPromise, Seen, seen}
use Rattle.td_engine.specs.model.Scripts.{IsFront, IsRead, OfFront, OfScript, script_limit}
use Rattle.td_engine.specs.model.Legality.{IsLegalState}
use Rattle.td_engine.specs.model.Standing.{HasRun, IsLeft, IsOngoing, Standing, run_of, standing}
use Rattle.td_engine.specs.model.Told.{AppendsIfTold, StaysWhole}
use Rattle.td_engine.specs.declared.run.Report.{Report}
use Rattle.td_engine.specs.declared.run.RunFault.{RunFault}
use Rattle.td_engine.specs.declared.run.RunFault.TheVariants as faults
use Rattle.td_tree.specs.model.Statements.{statements}

-- nothing was written
appends_nothing : (taken new : Option (List ℕ)) → new ≡ taken → Appends taken new []
appends_nothing None new e = tt
appends_nothing (Some bytes) (Some more) e = some_same more bytes e ∙ sym (append-nil bytes)
  where
    some_same : (xs ys : List ℕ) → Some xs ≡ Some ys → xs ≡ ys
    some_same xs ys e = cc
appends_nothing (Some bytes) None e = absurd (cc)

-- ---- answers

-- what a run says of its script, for a session
of_session : (stop : Bool) (report : Report) (before after : Option (List ℕ)) (P Q : List ℕ → Type 0) → ((script : List ℕ) → P script → Q script)
    → OfScript script_limit report.statements (stop && nat_lt 0 report.refused) before after P → OfSession stop (status_of report.refused) before after Q
of_session stop report before after P Q f h = (
  report.statements,
  (
    h.0,
    h.1,
    h.2,
    h.3,
    λ rest may. f (h.0 ++ rest) (h.4 rest may),
    subst (λ (over : Bool). IsRead script_limit over h.1 h.0) (ap (λ b. stop && b) (sym (same (nat_lt 0 report.refused)))) h.5,
  ),
)
  where
    same : (b : Bool) → nat_lt 0 (if b then 1 else 0) ≡ b
    same true = refl
    same false = refl

module _ (stop : Bool) (old new : Standing) (legal : IsLegalState new.state) where
  -- the run was run to its end
  ran : (script : List ℕ) (report : Report) → IsLeft (run_of stop old script) new report
      → HasAnswered Run (run_of stop old script) (status_of report.refused) new.taken
  ran script report left =
      record {
        progress = left.progress;
        runs = left.runs;
        written = left.stands.written;
        status_is = ap status_of left.refused_are;
        legal = subst IsLegalState left.stands.state_is legal;
      }

  -- a front of it was run
  abbrev begun : (script : List ℕ) (done : ℕ) → HasRun (run_of stop old script) done new → HasBegun Run (run_of stop old script) done new.taken
  begun script done has =
      record {
        progress = has.progress;
        runs = has.runs;
        each_run = has.each_run;
        written = has.stands.written;
        legal = subst IsLegalState has.stands.state_is legal;
      }

  ran_front : (script : List ℕ) (done : ℕ) → HasRun (run_of stop old script) done new → HasBegunTo Run (run_of stop old script) done new
  ran_front script done has = record { has_begun = begun script done has; state_is = has.stands.state_is }

  ran_on : (script : List ℕ) (done : ℕ) → IsOngoing (run_of stop old script) done new → IsUnderWay Run (run_of stop old script) done new.taken
  ran_on script done is = record { has_begun = begun script done is.has_run; goes_on = is.goes_on }

-- what is promised of a run, for what it writes
pub run_promised : (stop : Bool) (old new : Seen) (r : Result Report RunFault) → RunPromise stop script_limit old new r → ScriptPromise Run stop old new r
run_promised stop old new (Ok report) p = record {
  headline = p.headline;
  answers = of_session stop report old.left new.left _ _ (λ script left. ran stop old.stands new.stands p.legal script report left) p.answers;
  whole = p.whole;
  memory = tt;
  read = tt;
  too_long = tt;
  write = tt;
}
run_promised stop old new (Err (faults.Memory done)) p = record {
  headline = p.headline;
  answers = tt;
  whole = tt;
  memory = let h = p.memory in (h.0, h.1, h.2, h.3, λ rest may. ran_front stop old.stands new.stands p.legal (h.0 ++ rest) done (h.4 rest may));
  read = tt;
  too_long = tt;
  write = tt;
}
run_promised stop old new (Err (faults.Read done)) p = record {
  headline = p.headline;
  answers = tt;
  whole = tt;
  memory = tt;
  read = let w = p.read.1 in (p.read.0, (w.0, w.1, w.2, λ rest may. ran_on stop old.stands new.stands p.legal (w.0 ++ rest) done (w.3 rest may), w.4));
  too_long = tt;
  write = tt;
}
run_promised stop old new (Err (faults.ReadLimit done)) p = record {
  headline = p.headline;
  answers = tt;
  whole = tt;
  memory = tt;
  read = tt;
  too_long = let h = p.too_long in (h.0, h.1, h.2, λ rest may. ran_on stop old.stands new.stands p.legal (h.0 ++ rest) done (h.3 rest may), h.4);
  write = tt;
}
run_promised stop old new (Err (faults.Write done)) p = record {
  headline = p.headline;
  answers = tt;
  whole = tt;
  memory = tt;
  read = tt;
  too_long = tt;
  write = let w = p.write.1 in (p.write.0, (w.0, w.1, w.2, w.3, λ rest may. (new.stands.state, w.4 rest may, p.legal)));
}

-- ---- dumps

module _ (stop : Bool) (old new : State) (told nowhere : Option (List ℕ)) (legal : IsLegalState new) (script : List ℕ) (report : Report)
    (left : IsLeft (run_of stop (standing old nowhere) script) (standing new nowhere) report) where
  the_dump : dump_text new.database ≡ dump_text left.progress.state.database
  the_dump = ap (λ (s : State). dump_text s.database) left.stands.state_is

  legal_end : IsLegalState left.progress.state
  legal_end = subst IsLegalState left.stands.state_is legal

  all_done : (done : ℕ) → done ≡ report.statements → left.progress.statements ≡ done
  all_done done is = sym (is ∙ left.statements_are)

  -- the dump was written
  dumped : (taken : Option (List ℕ)) → Appends told taken (dump_text new.database)
      → HasAnswered Dump (run_of stop (standing old told) script) (status_of report.refused) taken
  dumped taken written =
      record {
        progress = left.progress;
        runs = left.runs;
        written = subst (λ bytes. Appends told taken bytes) the_dump written;
        status_is = ap status_of left.refused_are;
        legal = legal_end;
      }

  -- all was run, and no dump was made
  undumped : (done : ℕ) (taken : Option (List ℕ)) → done ≡ report.statements → taken ≡ told
      → HasBegunTo Dump (run_of stop (standing old told) script) done (standing new taken)
  undumped done taken is kept =
      record {
        has_begun =
            record {
              progress = left.progress;
              runs = runs_front stop (progress_at_first old) (statements 0 script) left.progress done left.runs (let same = all_done done is in omega (arith, same));
              each_run = all_done done is;
              written = appends_nothing told taken kept;
              legal = legal_end;
            };
        state_is = left.stands.state_is;
      }

  -- all was run, and the dump is cut
  dump_cut : (done : ℕ) (taken : Option (List ℕ)) (count : ℕ) → done ≡ report.statements
      → AppendsIfTold told taken (take count (dump_text new.database)) → HasDumpedCut (run_of stop (standing old told) script) done taken
  dump_cut done taken count is cut =
      record {
        progress = left.progress;
        runs = left.runs;
        each_run = all_done done is;
        count = count;
        cut = subst (λ bytes. AppendsIfTold told taken (take count bytes)) the_dump cut;
        legal = legal_end;
      }

-- a front of the script was run, and nothing is written
module _ (stop : Bool) (old new : State) (told : Option (List ℕ)) (script : List ℕ) (done : ℕ) (legal : IsLegalState new) where
  abbrev undumped_front : HasRun (run_of stop (standing old None) script) done (standing new None) → HasBegun Dump (run_of stop (standing old told) script) done told
  undumped_front has =
      record {
        progress = has.progress;
        runs = has.runs;
        each_run = has.each_run;
        written = appends_nothing told told refl;
        legal = subst IsLegalState has.stands.state_is legal;
      }

  dump_front : HasRun (run_of stop (standing old None) script) done (standing new None)
      → HasBegunTo Dump (run_of stop (standing old told) script) done (standing new told)
  dump_front has = record { has_begun = undumped_front has; state_is = has.stands.state_is }

  dump_on : IsOngoing (run_of stop (standing old None) script) done (standing new None) → IsUnderWay Dump (run_of stop (standing old told) script) done told
  dump_on is = record { has_begun = undumped_front is.has_run; goes_on = is.goes_on }

-- what a run to the end says of its script, where all of it was run
of_front : (stop : Bool) (report : Report) (before after : Option (List ℕ)) (P Q : List ℕ → Type 0) (done : ℕ) → done ≡ report.statements
    → ((script : List ℕ) → P script → Q script)
    → OfScript script_limit report.statements (stop && nat_lt 0 report.refused) before after P → OfFront done before after Q
of_front stop report before after P Q done is f h =
    (h.0, h.1, h.2, subst (λ n. IsFront n h.1 after h.0) (sym is) h.3, λ rest may. f (h.0 ++ rest) (h.4 rest may))

-- ---- what is promised of a dump

-- after a run that was not to its end, of whose answers nothing was written
pub fault_promised : (stop : Bool) (old new : State) (before after told : Option (List ℕ)) (reader_before reader_after writer : Bool) (fault : RunFault)
    → RunPromise stop script_limit (seen old before reader_before None false) (seen new after reader_after None false) (Err fault)
    → ScriptPromise Dump stop (seen old before reader_before told writer) (seen new after reader_after told writer) (Err fault)
fault_promised stop old new before after told reader_before reader_after writer (faults.Memory done) p = record {
  headline = tt;
  answers = tt;
  whole = tt;
  memory = let h = p.memory in (h.0, h.1, h.2, h.3, λ rest may. dump_front stop old new told (h.0 ++ rest) done p.legal (h.4 rest may));
  read = tt;
  too_long = tt;
  write = tt;
}
fault_promised stop old new before after told reader_before reader_after writer (faults.Read done) p = record {
  headline = λ reader whole gave. p.headline reader refl gave;
  answers = tt;
  whole = tt;
  memory = tt;
  read = let w = p.read.1 in (p.read.0, (w.0, w.1, w.2, λ rest may. dump_on stop old new told (w.0 ++ rest) done p.legal (w.3 rest may), w.4));
  too_long = tt;
  write = tt;
}
fault_promised stop old new before after told reader_before reader_after writer (faults.ReadLimit done) p = record {
  headline = λ reader whole gave. p.headline reader refl gave;
  answers = tt;
  whole = tt;
  memory = tt;
  read = tt;
  too_long = let h = p.too_long in (h.0, h.1, h.2, λ rest may. dump_on stop old new told (h.0 ++ rest) done p.legal (h.3 rest may), h.4);
  write = tt;
}
fault_promised stop old new before after told reader_before reader_after writer (faults.Write done) p =
    absurd (let wrong : false ≡ true = p.write.0 in cc)

-- after a run to its end, by what the writing of the dump comes to
module _ (stop : Bool) (old new : State) (before after told taken : Option (List ℕ)) (reader_before reader_after writer_before writer_after : Bool)
    (report : Report) (p : RunPromise stop script_limit (seen old before reader_before None false) (seen new after reader_after None false) (Ok report)) where
  pub dump_promised : (r : Result Report RunFault)
      → IfOk r (λ x. (x ≡ report) × Appends told taken (dump_text new.database))
      → OnOk r (StaysWhole writer_before writer_after)
      → IfErr r (IfMemory (λ done. (done ≡ report.statements) × (taken ≡ told)))
      → IfErr r (IfWrite (λ done. (done ≡ report.statements) × ((n : ℕ) × AppendsIfTold told taken (take n (dump_text new.database)))))
      → IfErr r (IfWrite (λ done. IsTrue writer_after)) → IfErr r (IfRead (λ done. ⊥)) → IfErr r (IfReadLimit (λ done. ⊥))
      → ScriptPromise Dump stop (seen old before reader_before told writer_before) (seen new after reader_after taken writer_after) r
  dump_promised (Ok x) w whole m cut broken r l = record {
    headline = λ reader writer gave. refl;
    answers =
        subst (λ (y : Report). OfSession stop (status_of y.refused) before after (λ script. HasAnswered Dump (run_of stop (standing old told) script) (status_of y.refused) taken))
        (sym w.0) (of_session stop report before after _ _ (λ script left. dumped stop old new told None p.legal script report left taken w.1) p.answers);
    whole = (p.whole.0, whole);
    memory = tt;
    read = tt;
    too_long = tt;
    write = tt;
  }
  dump_promised (Err (faults.Memory done)) w whole m cut broken r l = record {
    headline = tt;
    answers = tt;
    whole = tt;
    memory = of_front stop report before after _ _ done m.0 (λ script left. undumped stop old new told None p.legal script report left done taken m.0 m.1) p.answers;
    read = tt;
    too_long = tt;
    write = tt;
  }
  dump_promised (Err (faults.Read done)) w whole m cut broken r l = absurd r
  dump_promised (Err (faults.ReadLimit done)) w whole m cut broken r l = absurd l
  dump_promised (Err (faults.Write done)) w whole m cut broken r l = record {
    headline = λ reader writer gave. absurd (let wrong : false ≡ true = sym writer ∙ broken in cc);
    answers = tt;
    whole = tt;
    memory = tt;
    read = tt;
    too_long = tt;
    write = (broken, of_front stop report before after _ _ done cut.0 (λ script left. dump_cut stop old new told None p.legal script report left done taken cut.1.0 cut.0 cut.1.1) p.answers);
  }
