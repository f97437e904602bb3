-- From one place of a run to another, and what was run of the bytes given so far.
use Rattle.std.proofs.Common.{◌≡◌, ℕ, ◌+◌, ◌&&◌, Bool, true, false, nat_lt, List, [], ◌∷◌, ◌++◌, length, Option, Some, None, refl, sym, ap, ◌∙◌, subst, arith, append_assoc, append-nil, length-append, if◌then◌else◌, ⊎_elim}
use Rattle.std.specs.Prelude.{option_map}
use Rattle.std.proofs.KnownBytes.{Appends-nil}
use Rattle.td_engine.proofs.code_lemmas.Turning.{left_more, turned_fewer, turned_refused}
use Rattle.td_engine.specs.model.Machine.{progress_at_first, nothing}
use Rattle.td_engine.specs.model.Scripts.{AreEnded, AreLeft}
use Rattle.td_engine.specs.model.Standing.{IsLeft, Run, Standing}
use Rattle.td_engine.specs.code.Turns.{Advanced, HasTurned, IsFed, RunPlace, Reached, place_at}
use Rattle.td_engine.specs.declared.run.Report.{Report}
use Rattle.td_scan.proofs.TakenLaws.{end_stays, first_and_after, first_and_later, unended_statement}
use Rattle.td_tree.proofs.law_lemmas.EndLaws.{up_to_cases}
use Rattle.td_tree.proofs.law_lemmas.DivisionLaws.{up_to-ends}
use Rattle.td_tree.proofs.law_lemmas.StatementLaws.{left}
use Rattle.td_tree.specs.model.Division.{up_to}
use Rattle.td_tree.specs.model.Statements.{Held, IsEnded, PlacedToken, after, statement_or_rest, ends, first_statement, statements, tokens}

-- ---- statements that a `;` ends

-- what goes up to the first `;` goes up to its own
up_to_itself : (ts first : List PlacedToken) → up_to ends ts ≡ Some first → up_to ends first ≡ Some first
up_to_itself [] first found = absurd cc
up_to_itself (t ∷ ts) first found = ⊎_elim
    (λ e. subst (λ (f : List PlacedToken). up_to ends f ≡ Some f) (sym e.one) (up_to-ends ends t [] e.yes))
    (λ l. subst (λ (f : List PlacedToken). up_to ends f ≡ Some f) (sym l.more)
    (ap (λ b. if b then Some (t ∷ []) else option_map (λ qs. t ∷ qs) (up_to ends l.inner)) l.no
    ∙ ap (option_map (λ qs. t ∷ qs)) (up_to_itself ts l.inner l.found)))
    (up_to_cases ends t ts first found)

chosen_ended : (all : List PlacedToken) (o : Option (List PlacedToken)) (x : List PlacedToken) → statement_or_rest false all o ≡ Some x → o ≡ Some x
chosen_ended all (Some first) x e = e
chosen_ended [] None x e = absurd cc
chosen_ended (t ∷ ts) None x e = absurd cc

chosen_none : (finished : Bool) (all : List PlacedToken) (o : Option (List PlacedToken)) → statement_or_rest finished all o ≡ None → o ≡ None
chosen_none finished all (Some first) e = absurd cc
chosen_none finished all None e = refl

-- where more may come, the first statement ends with `;`
pub first_ended : (held : Held) (x : List PlacedToken) → first_statement held ≡ Some x → held.finished ≡ false → IsEnded x
unfolding first_statement
first_ended held x e more =
    up_to_itself (tokens held.offset held.bytes) x
    (chosen_ended (tokens held.offset held.bytes) (up_to ends (tokens held.offset held.bytes)) x
    (ap (λ b. statement_or_rest b (tokens held.offset held.bytes) (up_to ends (tokens held.offset held.bytes))) (sym more) ∙ e))

left_unended : (ts : List PlacedToken) → up_to ends ts ≡ None → AreLeft (left ts)
left_unended [] e = tt
left_unended (t ∷ ts) e = record { some = omega arith; none = e }

-- where no statement is whole, the tokens held are ended by none
pub none_ended : (held : Held) → first_statement held ≡ None → AreLeft (statements held.offset held.bytes)
unfolding first_statement
none_ended held e =
    subst AreLeft (sym (unended_statement held e))
    (left_unended (tokens held.offset held.bytes)
    (chosen_none held.finished (tokens held.offset held.bytes) (up_to ends (tokens held.offset held.bytes)) e))

pub ended_more : (done : List (List PlacedToken)) (x : List PlacedToken) → AreEnded done → IsEnded x → AreEnded (done ++ (x ∷ []))
ended_more [] x are is = (is, tt)
ended_more (s ∷ ss) x are is = (are.0, ended_more ss x are.1 is)

-- nothing was fed
pub none_at_first : first_statement (record { bytes = []; offset = 0; finished = false }) ≡ None
unfolding first_statement tokens
none_at_first = refl

-- ---- places

-- the first of those held, with the others, in every continuation
next_of : (given : List ℕ) (done : List (List PlacedToken)) (held : Held) (x : List PlacedToken) (rest : List ℕ) (finished : Bool) → held.finished ≡ finished
    → statements 0 (given ++ rest) ≡ done ++ statements held.offset (held.bytes ++ rest) → (finished ≡ true → rest ≡ []) → first_statement held ≡ Some x
    → statements 0 (given ++ rest) ≡ (done ++ (x ∷ [])) ++ statements (after held).offset ((after held).bytes ++ rest)
next_of given done held x rest true is cut none first =
    cut ∙ ap (λ t. done ++ t) (ap (λ r. statements held.offset (held.bytes ++ r)) (none refl) ∙ ap (statements held.offset) (append-nil held.bytes) ∙ first_and_after held x first
    ∙ ap (λ t. x ∷ t) (sym (ap (λ r. statements (after held).offset ((after held).bytes ++ r)) (none refl) ∙ ap (statements (after held).offset) (append-nil (after held).bytes))))
    ∙ sym (append_assoc done (x ∷ []) (statements (after held).offset ((after held).bytes ++ rest)))
next_of given done held x rest false is cut none first =
    cut ∙ ap (λ t. done ++ t) (first_and_later held x first is rest)
    ∙ sym (append_assoc done (x ∷ []) (statements (after held).offset ((after held).bytes ++ rest)))

reached_more : (stop : Bool) (before : Standing) (given : List ℕ) (old new : RunPlace) → (stop && nat_lt 0 old.report.refused) ≡ false → HasTurned old new
    → Reached stop before given old → Reached stop before given new
reached_more stop before given old new goes t r =
    let x : List PlacedToken = t.first.statement in
    let same : new.held.finished ≡ old.held.finished = ap (λ (h : Held). h.finished) t.held_is in
    record {
      done = r.done ++ (x ∷ []);
      cut = λ rest may.
          let still : old.held.finished ≡ true → rest ≡ [] = λ f. may (same ∙ f) in
          next_of given r.done old.held x rest old.held.finished refl (r.cut rest still) still t.first.is
          ∙ ap (λ (h : Held). (r.done ++ (x ∷ [])) ++ statements h.offset (h.bytes ++ rest)) (sym t.held_is);
      left = left_more (record { stop = stop; old = before; script = [] }) r.done old new goes r.left t;
      each = length-append r.done (x ∷ []) ∙ (ap (λ k. k + 1) r.each ∙ sym t.statements_are);
      ended = λ more.
          let open_yet : old.held.finished ≡ false = sym same ∙ more in
          ended_more r.done x (r.ended open_yet) (first_ended old.held x t.first.is open_yet);
    }

pub stays : (stop : Bool) (place : RunPlace) → Advanced stop place place
stays stop place = record {
  finished_is = refl;
  end_is = refl;
  counted = omega arith;
  refused = λ h. h;
  reached = λ before given r. r;
}

pub advances : (stop : Bool) (from old new : RunPlace) → Advanced stop from old → (stop && nat_lt 0 old.report.refused) ≡ false → HasTurned old new → Advanced stop from new
advances stop from old new a goes t = record {
  finished_is = ap (λ (h : Held). h.finished) t.held_is ∙ a.finished_is;
  end_is = ap (λ (h : Held). h.offset + length h.bytes) t.held_is ∙ end_stays old.held ∙ a.end_is;
  counted = omega (arith, a.counted, turned_fewer old new t, t.statements_are);
  refused = λ h. turned_refused old new t (a.refused h);
  reached = λ before given r. reached_more stop before given old new goes t (a.reached before given r);
}

-- nothing was given yet
pub reached_first : (stop : Bool) (before : Standing)
    → Reached stop before [] (place_at (record { bytes = []; offset = 0; finished = false }) before (record { statements = 0; refused = 0 }))
reached_first stop before = record {
  done = [];
  cut = λ rest may. refl;
  left = record {
    progress = progress_at_first before.state;
    runs = nothing;
    stands = record { state_is = refl; written = Appends-nil before.taken };
    statements_are = refl;
    refused_are = refl;
  };
  each = refl;
  ended = λ more. tt;
}

-- a piece more was given and fed
pub reached_fed : (stop : Bool) (before : Standing) (given : List ℕ) (old new : RunPlace) (from to : Option (List ℕ)) (count : ℕ)
    → old.held.finished ≡ false → Reached stop before given old → (f : IsFed old.held new.held from to count) → new.standing ≡ old.standing → new.report ≡ old.report
    → Reached stop before (given ++ f.piece) new
reached_fed stop before given old new from to count more r f same counts = record {
  done = r.done;
  cut = λ rest may.
      ap (statements 0) (append_assoc given f.piece rest)
      ∙ r.cut (f.piece ++ rest) (λ finished. absurd (let wrong : false ≡ true = sym more ∙ finished in cc))
      ∙ ap (λ b. r.done ++ statements old.held.offset b) (sym (append_assoc old.held.bytes f.piece rest))
      ∙ ap (λ b. r.done ++ statements old.held.offset (b ++ rest)) (sym f.bytes_are)
      ∙ ap (λ n. r.done ++ statements n (new.held.bytes ++ rest)) (sym f.offset_is);
  left =
      let run : Run = record { stop = stop; old = before; script = r.done } in
      subst (λ (s : Standing). IsLeft run s new.report) (sym same) (subst (λ (c : Report). IsLeft run old.standing c) (sym counts) r.left);
  each = r.each ∙ ap (λ c. c.statements) (sym counts);
  ended = λ still. r.ended more;
}
