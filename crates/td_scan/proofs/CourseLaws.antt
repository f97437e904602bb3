-- Whatever list of calls was made, what was taken off are the first statements of all that was fed.
use Rattle.std.proofs.Common.{◌≡◌, ℕ, ◌+◌, ◌-◌, List, [], ◌∷◌, ◌++◌, length, drop, refl, sym, ap, ◌∙◌, subst, arith, Bool, true, false, not, ◌&&◌, Some, None, append_assoc, append-nil, length-append, drop-drop, IsTrue}
use Rattle.std.proofs.lemmas.List.{drop-append-le, length-drop}
use Rattle.td_scan.specs.laws.Calls.{Call, Course, at_first, statements_of, course_after, all_called, may_be_called}
use Rattle.td_scan.specs.laws.Calls.Call.{Feed, Finish, Take}
use Rattle.td_tree.specs.model.Statements.{PlacedToken, Held, statements, first_statement, after, behind}
use Rattle.td_scan.proofs.TakenLaws.{after_none, first_and_after, first_and_later, no_statement, first_within}

-- what was taken off and what is held are all that was fed
pub record Stands (c : Course) : Type 0 where
  pub within : c.held.offset + length c.held.bytes ≡ length c.fed
  pub place : c.held.bytes ≡ drop c.held.offset c.fed
  pub now : statements 0 c.fed ≡ c.taken ++ statements c.held.offset c.held.bytes
  pub later : c.held.finished ≡ false → (more : List ℕ) → statements 0 (c.fed ++ more) ≡ c.taken ++ statements c.held.offset (c.held.bytes ++ more)

stands_first : Stands at_first
stands_first = record { within = refl; place = refl; now = refl; later = λ open_yet more. refl }

fed_more : (c : Course) (piece : List ℕ) → c.held.finished ≡ false → Stands c → Stands (course_after c (Feed piece))
fed_more c piece open_yet s = record {
  within = omega (arith, s.within, length-append c.held.bytes piece, length-append c.fed piece);
  place = ap (λ b. b ++ piece) s.place ∙ sym (drop-append-le c.held.offset c.fed piece (omega (arith, s.within)));
  now = s.later open_yet piece;
  later = λ still more. ap (statements 0) (append_assoc c.fed piece more) ∙ s.later open_yet (piece ++ more) ∙ ap (λ b. c.taken ++ statements c.held.offset b) (sym (append_assoc c.held.bytes piece more));
}

finished : (c : Course) → Stands c → Stands (course_after c Finish)
finished c s = record { within = s.within; place = s.place; now = s.now; later = λ wrong. absurd cc }

none_taken : (c : Course) → first_statement c.held ≡ None → Stands c → Stands (course_after c Take)
none_taken c e s =
    let course : Held → List (List PlacedToken) → Course = λ held taken. record { fed = c.fed; held = held; taken = taken } in
    subst Stands
    (ap (λ h. course h c.taken) (sym (after_none c.held e)) ∙ ap (course (after c.held)) (sym (append-nil c.taken) ∙ ap (λ o. c.taken ++ statements_of o) (sym e)))
    s

one_taken : (c : Course) (first : List PlacedToken) → first_statement c.held ≡ Some first → Stands c → Stands (course_after c Take)
one_taken c first e s =
    let course : List (List PlacedToken) → Course = λ taken. record { fed = c.fed; held = after c.held; taken = taken } in
    let w = first_within c.held in
    subst Stands (ap (λ o. course (c.taken ++ statements_of o)) (sym e)) (record {
      within = omega (arith, s.within, w.stop, w.within, length-drop (behind c.held - c.held.offset) c.held.bytes);
      place = ap (drop (behind c.held - c.held.offset)) s.place ∙ drop-drop (behind c.held - c.held.offset) c.held.offset c.fed
          ∙ ap (λ n. drop n c.fed) (let there : c.held.offset + (behind c.held - c.held.offset) ≡ behind c.held = omega (arith, w.stop) in there);
      now = s.now ∙ ap (λ r. c.taken ++ r) (first_and_after c.held first e) ∙ sym (append_assoc c.taken (first ∷ []) (statements (after c.held).offset (after c.held).bytes));
      later = λ open_yet more. s.later open_yet more ∙ ap (λ r. c.taken ++ r) (first_and_later c.held first e open_yet more)
          ∙ sym (append_assoc c.taken (first ∷ []) (statements (after c.held).offset ((after c.held).bytes ++ more)));
    })

taken : (c : Course) → Stands c → Stands (course_after c Take)
taken c s =
    (elim (first_statement c.held) as (λ o. first_statement c.held ≡ o → Stands (course_after c Take)) [
      | None ↦ λ e. none_taken c e s
      | Some first ↦ λ e. one_taken c first e s
    ]) refl

may_feed : (finished rest : Bool) → (not finished && rest) ≡ true → (finished ≡ false) × (rest ≡ true)
may_feed true rest e = absurd cc
may_feed false rest e = (refl, e)

pub stands_from : (calls : List Call) (c : Course) → may_be_called c.held.finished calls ≡ true → Stands c → Stands (all_called c calls)
stands_from [] c may s = s
stands_from (Feed piece ∷ calls) c may s = let w = may_feed c.held.finished (may_be_called c.held.finished calls) may in stands_from calls (course_after c (Feed piece)) w.1 (fed_more c piece w.0 s)
stands_from (Finish ∷ calls) c may s = stands_from calls (course_after c Finish) may (finished c s)
stands_from (Take ∷ calls) c may s = stands_from calls (course_after c Take) may (taken c s)

pub stands : (calls : List Call) → IsTrue (may_be_called false calls) → Stands (all_called at_first calls)
stands calls may = stands_from calls at_first may stands_first

-- ---- the promises

pub taken_first : (calls : List Call) → IsTrue (may_be_called false calls)
    → statements 0 (all_called at_first calls).fed ≡ (all_called at_first calls).taken ++ statements (all_called at_first calls).held.offset (all_called at_first calls).held.bytes
taken_first calls may = (stands calls may).now

pub taken_stay : (calls : List Call) (more : List ℕ) → IsTrue (may_be_called false calls) → (all_called at_first calls).held.finished ≡ false
    → statements 0 ((all_called at_first calls).fed ++ more) ≡ (all_called at_first calls).taken ++ statements (all_called at_first calls).held.offset ((all_called at_first calls).held.bytes ++ more)
taken_stay calls more may open_yet = (stands calls may).later open_yet more

pub taken_all : (calls : List Call) → IsTrue (may_be_called false calls) → (all_called at_first calls).held.finished ≡ true → first_statement (all_called at_first calls).held ≡ None
    → (all_called at_first calls).taken ≡ statements 0 (all_called at_first calls).fed
taken_all calls may fed none =
    let c = all_called at_first calls in
    sym ((stands calls may).now ∙ ap (λ r. c.taken ++ r) (no_statement c.held none fed) ∙ append-nil c.taken)
