-- What is taken off is the first of the statements, and the others are those of what is still held.
use Rattle.std.proofs.Common.{◌≡◌, ℕ, ◌+◌, ◌-◌, ◌<◌, ◌≤◌, List, [], ◌∷◌, ◌++◌, length, drop, refl, sym, ap, ◌∙◌, subst, arith, Bool, true, false, Option, Some, None, length-drop, ◌⊎◌, inl, inr, ⊎_elim}
use Rattle.td_tree.specs.model.Division.{up_to}
use Rattle.td_tree.specs.model.Statements.{PlacedToken, Held, tokens, ends, split, statements, statement_or_rest, first_statement, end_of, end_of_first, behind, after}
use Rattle.td_tree.proofs.law_lemmas.StatementLaws.{left, split-left, split-first, split_first}
use Rattle.td_tree.proofs.law_lemmas.TokenLaws.{ascends}
use Rattle.td_tree.proofs.law_lemmas.EndLaws.{up_to_cases}
use Rattle.td_tree.specs.laws.Spans.{Ascends}
use Rattle.td_tree.proofs.law_lemmas.HeldLaws.{follows, statements_later, none_behind, last_within}

-- all was fed, and these tokens are left
record LeftOver (finished : Bool) (all : List PlacedToken) (o : Option (List PlacedToken)) (first : List PlacedToken) : Type 0 where
  none : o ≡ None
  fed : finished ≡ true
  token : PlacedToken
  others : List PlacedToken
  are : all ≡ token ∷ others
  is : first ≡ token ∷ others

-- how a first statement came to be: a `;` ends it, or it is what is left
First : Bool → List PlacedToken → Option (List PlacedToken) → List PlacedToken → Type 0
First finished all o first = (o ≡ Some first) ⊎ LeftOver finished all o first

first_cases : (finished : Bool) (all : List PlacedToken) (o : Option (List PlacedToken)) (first : List PlacedToken) → statement_or_rest finished all o ≡ Some first → First finished all o first
unfolding First
first_cases finished all (Some found) first e = inl e
first_cases finished [] None first e = absurd cc
first_cases true (t ∷ ts) None first e = inr (record { none = refl; fed = refl; token = t; others = ts; are = refl; is = (let same : t ∷ ts ≡ first = cc in sym same) })
first_cases false (t ∷ ts) None first e = absurd cc

none_cases : (finished : Bool) (all : List PlacedToken) (o : Option (List PlacedToken)) → statement_or_rest finished all o ≡ None → (o ≡ None) × (finished ≡ true → all ≡ [])
none_cases finished all (Some found) e = absurd cc
none_cases finished [] None e = (refl, λ f. refl)
none_cases true (t ∷ ts) None e = absurd cc
none_cases false (t ∷ ts) None e = (refl, λ f. absurd cc)

-- where the first statement ends
pub behind_first : (h : Held) (first : List PlacedToken) → first_statement h ≡ Some first → behind h ≡ end_of h.offset first
unfolding behind
behind_first h first e = ap (end_of_first h.offset) e

pub behind_none : (h : Held) → first_statement h ≡ None → behind h ≡ h.offset
unfolding behind
behind_none h e = ap (end_of_first h.offset) e

-- where there is no statement, taking it off changes nothing
pub after_none : (h : Held) → first_statement h ≡ None → after h ≡ h
after_none h e =
    let same : behind h ≡ h.offset = behind_none h e in
    let none : behind h - h.offset ≡ 0 = omega (arith, same) in
    let held : List ℕ → ℕ → Held = λ bytes offset. record { bytes = bytes; offset = offset; finished = h.finished } in
    ap (λ n. held (drop n h.bytes) (behind h)) none ∙ ap (held h.bytes) same

split_ended : (at : ℕ) (bs : List ℕ) (first : List PlacedToken) → up_to ends (tokens at bs) ≡ Some first → split (tokens at bs) ≡ first ∷ split (tokens (end_of at first) (drop (end_of at first - at) bs))
split_ended at bs first e = split-first (tokens at bs) first (tokens (end_of at first) (drop (end_of at first - at) bs)) e (follows at bs first e).again

split_last : (at : ℕ) (bs : List ℕ) (t : PlacedToken) (ts : List PlacedToken) → up_to ends (tokens at bs) ≡ None → tokens at bs ≡ t ∷ ts → split (tokens at bs) ≡ (t ∷ ts) ∷ split (tokens (end_of at (t ∷ ts)) (drop (end_of at (t ∷ ts) - at) bs))
split_last at bs t ts none e = split-left (tokens at bs) none ∙ ap left e ∙ ap (λ r. (t ∷ ts) ∷ split r) (sym (none_behind at bs t ts e))

split_all : (h : Held) (first : List PlacedToken) (o : Option (List PlacedToken)) → up_to ends (tokens h.offset h.bytes) ≡ o → LeftOver h.finished (tokens h.offset h.bytes) o first
    → split (tokens h.offset h.bytes) ≡ first ∷ split (tokens (end_of h.offset first) (drop (end_of h.offset first - h.offset) h.bytes))
split_all h first o found l =
    split_last h.offset h.bytes l.token l.others (found ∙ l.none) l.are
    ∙ ap (λ f. f ∷ split (tokens (end_of h.offset f) (drop (end_of h.offset f - h.offset) h.bytes))) (sym l.is)

-- the first statement, and those of what is left once it is taken off
pub first_and_after : (h : Held) (first : List PlacedToken) → first_statement h ≡ Some first → statements h.offset h.bytes ≡ first ∷ statements (after h).offset (after h).bytes
unfolding statements first_statement First
first_and_after h first e =
    ⊎_elim
    (λ ended. split_ended h.offset h.bytes first ended)
    (λ all. split_all h first (up_to ends (tokens h.offset h.bytes)) refl all)
    (first_cases h.finished (tokens h.offset h.bytes) (up_to ends (tokens h.offset h.bytes)) first e)
    ∙ ap (λ n. first ∷ split (tokens n (drop (n - h.offset) h.bytes))) (sym (behind_first h first e))

-- where no statement is left of what was fed whole, there is none
pub no_statement : (h : Held) → first_statement h ≡ None → h.finished ≡ true → statements h.offset h.bytes ≡ []
unfolding statements first_statement
no_statement h e fed = ap split ((none_cases h.finished (tokens h.offset h.bytes) (up_to ends (tokens h.offset h.bytes)) e).1 fed)

-- where more may come, the tokens that no `;` ends are at most one statement so far
pub unended_statement : (h : Held) → first_statement h ≡ None → statements h.offset h.bytes ≡ left (tokens h.offset h.bytes)
unfolding statements first_statement
unended_statement h e = split-left (tokens h.offset h.bytes) (none_cases h.finished (tokens h.offset h.bytes) (up_to ends (tokens h.offset h.bytes)) e).0

-- what is taken off before all was fed is the first statement in every continuation
pub first_and_later : (h : Held) (first : List PlacedToken) → first_statement h ≡ Some first → h.finished ≡ false → (later : List ℕ)
    → statements h.offset (h.bytes ++ later) ≡ first ∷ statements (after h).offset ((after h).bytes ++ later)
unfolding first_statement First
first_and_later h first e more later =
    ⊎_elim
    (λ ended. statements_later h.offset h.bytes first ended later)
    (λ l. absurd (let wrong : false ≡ true = sym more ∙ l.fed in cc))
    (first_cases h.finished (tokens h.offset h.bytes) (up_to ends (tokens h.offset h.bytes)) first e)
    ∙ ap (λ n. first ∷ statements n (drop (n - h.offset) h.bytes ++ later)) (sym (behind_first h first e))

-- the first statement ends within what is held
pub record Within (h : Held) : Type 0 where
  pub stop : h.offset ≤ behind h
  pub within : behind h - h.offset ≤ length h.bytes

within_at : (h : Held) (n : ℕ) → behind h ≡ n → h.offset ≤ n → n - h.offset ≤ length h.bytes → Within h
within_at h n same stop within = record { stop = omega (arith, same); within = omega (arith, same) }

within_left : (h : Held) (first : List PlacedToken) (o : Option (List PlacedToken)) → behind h ≡ end_of h.offset first → LeftOver h.finished (tokens h.offset h.bytes) o first → Within h
within_left h first o same l =
    let w = last_within h.offset h.bytes l.token l.others l.are in
    within_at h (end_of h.offset (l.token ∷ l.others)) (same ∙ ap (end_of h.offset) l.is) w.0 w.1

pub first_within : (h : Held) → Within h
unfolding first_statement First
first_within h =
    (elim (first_statement h) as (λ o. first_statement h ≡ o → Within h) [
      | None ↦ λ e. within_at h h.offset (behind_none h e) (omega arith) (omega arith)
      | Some first ↦ λ e. ⊎_elim
          (λ ended. let f = follows h.offset h.bytes first ended in within_at h (end_of h.offset first) (behind_first h first e) f.stop f.within)
          (λ l. within_left h first (up_to ends (tokens h.offset h.bytes)) (behind_first h first e) l)
          (first_cases h.finished (tokens h.offset h.bytes) (up_to ends (tokens h.offset h.bytes)) first e)
    ]) refl

-- what is held ends where it did
pub end_stays : (h : Held) → (after h).offset + length (after h).bytes ≡ h.offset + length h.bytes
end_stays h = let w = first_within h in omega (arith, w.stop, w.within, length-drop (behind h - h.offset) h.bytes)

pub end_past : (ts : List PlacedToken) (at to start : ℕ) → Ascends at to ts → start ≤ at → start ≤ end_of start ts
end_past [] at to start up low = omega arith
end_past (t ∷ ts) at to start up low = omega (arith, up.0, up.1, low, end_past ts t.stop to t.stop up.2 (omega arith))

pub ascends_front : (xs ys : List PlacedToken) (at to : ℕ) → Ascends at to (xs ++ ys) → (high : ℕ) × Ascends at high xs
ascends_front [] ys at to up = (at, omega arith)
ascends_front (t ∷ xs) ys at to up = let w = ascends_front xs ys t.stop to up.2 in (w.0, (up.0, up.1, w.1))

-- where there is a token the end is past its beginning
past_first : (ts : List PlacedToken) (at to : ℕ) → Ascends at to ts → 0 < length ts → at < end_of at ts
past_first [] at to up some = absurd (omega arith)
past_first (t ∷ ts) at to up some = omega (arith, up.0, up.1, end_past ts t.stop to t.stop up.2 (omega arith))

some_found : (ts first : List PlacedToken) → up_to ends ts ≡ Some first → 0 < length first
some_found [] first found = absurd cc
some_found (t ∷ ts) first found = ⊎_elim
    (λ e. subst (λ (f : List PlacedToken). 0 < length f) (sym e.one) (let one : 0 < length (t ∷ []) = omega arith in one))
    (λ l. subst (λ (f : List PlacedToken). 0 < length f) (sym l.more) (let one : 0 < length (t ∷ l.inner) = omega arith in one))
    (up_to_cases ends t ts first found)

past_ended : (at : ℕ) (bs : List ℕ) (first : List PlacedToken) → up_to ends (tokens at bs) ≡ Some first → at < end_of at first
past_ended at bs first found =
    let w = split_first ends (tokens at bs) first found in
    let front = ascends_front first w.0 at (at + length bs) (subst (Ascends at (at + length bs)) w.1 (ascends at bs)) in
    past_first first at front.0 front.1 (some_found (tokens at bs) first found)

past_left : (h : Held) (first : List PlacedToken) (o : Option (List PlacedToken)) → LeftOver h.finished (tokens h.offset h.bytes) o first → h.offset < end_of h.offset first
past_left h first o l =
    let all : tokens h.offset h.bytes ≡ first = l.are ∙ sym l.is in
    past_first first h.offset (h.offset + length h.bytes) (subst (Ascends h.offset (h.offset + length h.bytes)) all (ascends h.offset h.bytes))
    (subst (λ (f : List PlacedToken). 0 < length f) (sym l.is) (let one : 0 < length (l.token ∷ l.others) = omega arith in one))

-- a statement that is taken off takes bytes off
pub fewer_bytes : (h : Held) (first : List PlacedToken) → first_statement h ≡ Some first → length (after h).bytes < length h.bytes
unfolding first_statement First
fewer_bytes h first e =
    let past : h.offset < end_of h.offset first = ⊎_elim
    (λ ended. past_ended h.offset h.bytes first ended)
    (λ l. past_left h first (up_to ends (tokens h.offset h.bytes)) l)
    (first_cases h.finished (tokens h.offset h.bytes) (up_to ends (tokens h.offset h.bytes)) first e) in
    let w = first_within h in
    omega (arith, past, behind_first h first e, w.stop, w.within, length-drop (behind h - h.offset) h.bytes)
