-- What is held: its first statement, and the statements that are left once it is taken off.
use Rattle.std.proofs.Common.{◌≡◌, ℕ, ◌+◌, ◌-◌, ◌≤◌, List, [], ◌∷◌, ◌++◌, length, drop, refl, sym, ap, ◌∙◌, arith, true, Option, Some, None, ⊎_elim}
use Rattle.std.specs.Prelude.{option_map}
use Rattle.std.proofs.lemmas.List.{drop-append-le}
use Rattle.td_tree.specs.declared.token.Kind.{Kind}
use Rattle.td_tree.specs.model.Division.{up_to}
use Rattle.td_tree.specs.model.Pieces.{pieces, kind_of}
use Rattle.td_tree.specs.model.Statements.{PlacedToken, token_of, tokens_from, tokens, ends, split, statements, end_of}
use Rattle.td_tree.specs.model.Symbols.{Symbol, spell}
use Rattle.td_tree.proofs.law_lemmas.EndLaws.{up_to_cases}
use Rattle.td_tree.proofs.law_lemmas.EndOfStatement.{continuation}
use Rattle.td_tree.proofs.law_lemmas.PieceLaws.{size, size-cons, taken_off}
use Rattle.td_tree.proofs.law_lemmas.StatementLaws.{is_end_of, ends_piece, up_to_tokens, tokens-append, split_first, split-first}

-- ---- where the tokens of some pieces end

end_more : (o : Option Kind) (at start total : ℕ) (text : List ℕ) (rest : List PlacedToken) → ((n : ℕ) → end_of n rest ≡ total) → end_of start (token_of o at text ++ rest) ≡ total
end_more None at start total text rest same = same start
end_more (Some kind) at start total text rest same = same (at + length text)

end_here : (o : Option Kind) (at start : ℕ) (text : List ℕ) → is_end_of o ≡ true → end_of start (token_of o at text ++ []) ≡ at + length text
end_here None at start text e = absurd cc
end_here (Some kind) at start text e = refl

-- the tokens of the pieces up to a `;` end where the pieces do
pub end_of_pieces : (ps front : List (List Symbol)) (at start : ℕ) → up_to ends_piece ps ≡ Some front → end_of start (tokens_from at front) ≡ at + size front
end_of_pieces [] front at start found = absurd cc
end_of_pieces (p ∷ ps) front at start found = ⊎_elim
    (λ e. ap (λ f. end_of start (tokens_from at f)) e.one ∙ end_here (kind_of p) at start (spell p) e.yes
    ∙ (let long : at + length (spell p) ≡ at + size (p ∷ []) = omega (arith, size-cons p []) in long) ∙ ap (λ f. at + size f) (sym e.one))
    (λ l. ap (λ f. end_of start (tokens_from at f)) l.more
    ∙ end_more (kind_of p) at start (at + size (p ∷ l.inner)) (spell p) (tokens_from (at + length (spell p)) l.inner)
    (λ n. end_of_pieces ps l.inner (at + length (spell p)) n l.found ∙ (let long : at + length (spell p) + size l.inner ≡ at + size (p ∷ l.inner) = omega (arith, size-cons p l.inner) in long))
    ∙ ap (λ f. at + size f) (sym l.more))
    (up_to_cases ends_piece p ps front found)

nothing_more : (o : Option Kind) (a b : ℕ) (text : List ℕ) (xs ys : List PlacedToken) → token_of o a text ++ xs ≡ [] → (xs ≡ [] → ys ≡ []) → token_of o b text ++ ys ≡ []
nothing_more None a b text xs ys e same = same e
nothing_more (Some kind) a b text xs ys e same = absurd cc

-- pieces that are no tokens are none at any place
no_tokens : (ps : List (List Symbol)) (a b : ℕ) → tokens_from a ps ≡ [] → tokens_from b ps ≡ []
no_tokens [] a b e = refl
no_tokens (p ∷ ps) a b e = nothing_more (kind_of p) a b (spell p) (tokens_from (a + length (spell p)) ps) (tokens_from (b + length (spell p)) ps) e (no_tokens ps (a + length (spell p)) (b + length (spell p)))

-- the pieces up to the last token, and those behind it
pub record UpToLast (at : ℕ) (ps : List (List Symbol)) : Type 0 where
  pub front : List (List Symbol)
  pub back : List (List Symbol)
  pub parts : ps ≡ front ++ back
  pub stop : (start : ℕ) → end_of start (tokens_from at ps) ≡ at + size front
  pub none : (n : ℕ) → tokens_from n back ≡ []

last_here : (o : Option Kind) (at start : ℕ) (text : List ℕ) (rest : List PlacedToken) (t : PlacedToken) (ts : List PlacedToken) → rest ≡ [] → token_of o at text ++ rest ≡ t ∷ ts → end_of start (token_of o at text ++ rest) ≡ at + length text
last_here None at start text rest t ts none e = let wrong : [] ≡ t ∷ ts = sym none ∙ e in absurd cc
last_here (Some kind) at start text rest t ts none e = ap (end_of (at + length text)) none

pub up_to_last : (at : ℕ) (ps : List (List Symbol)) (t : PlacedToken) (ts : List PlacedToken) → tokens_from at ps ≡ t ∷ ts → UpToLast at ps
up_to_last at [] t ts e = absurd cc
up_to_last at (p ∷ ps) t ts e =
    let next : ℕ = at + length (spell p) in
    (elim (tokens_from next ps) as (λ xs. tokens_from next ps ≡ xs → UpToLast at (p ∷ ps)) [
      | [] ↦ λ none. record {
        front = p ∷ [];
        back = ps;
        parts = refl;
        stop = λ start. last_here (kind_of p) at start (spell p) (tokens_from next ps) t ts none e ∙ (let long : at + length (spell p) ≡ at + size (p ∷ []) = omega (arith, size-cons p []) in long);
        none = λ n. no_tokens ps next n none;
      }
      | u ∷ us ↦ λ some.
          let w = up_to_last next ps u us some in
          record {
            front = p ∷ w.front;
            back = w.back;
            parts = ap (λ r. p ∷ r) w.parts;
            stop = λ start. end_more (kind_of p) at start (at + size (p ∷ w.front)) (spell p) (tokens_from next ps)
                (λ n. w.stop n ∙ (let long : next + size w.front ≡ at + size (p ∷ w.front) = omega (arith, size-cons p w.front) in long));
            none = w.none;
          }
    ]) refl

-- ---- bytes

-- the pieces of the tokens up to a `;`
pub record Ended (at : ℕ) (bs : List ℕ) (first : List PlacedToken) : Type 0 where
  pub front : List (List Symbol)
  pub found : up_to ends_piece (pieces bs) ≡ Some front
  pub is : first ≡ tokens_from at front

pub ended : (at : ℕ) (bs : List ℕ) (first : List PlacedToken) → up_to ends (tokens at bs) ≡ Some first → Ended at bs first
unfolding tokens
ended at bs first e =
    (elim (up_to ends_piece (pieces bs)) as (λ o. up_to ends_piece (pieces bs) ≡ o → option_map (tokens_from at) o ≡ Some first → Ended at bs first) [
      | None ↦ λ found is. absurd cc
      | Some front ↦ λ found is. record { front = front; found = found; is = (let same : tokens_from at front ≡ first = cc in sym same) }
    ]) refl (sym (up_to_tokens at (pieces bs)) ∙ e)

-- what follows a statement that `;` ends
pub record Follows (at : ℕ) (bs : List ℕ) (first : List PlacedToken) : Type 0 where
  pub stop : at ≤ end_of at first
  pub within : end_of at first - at ≤ length bs
  pub again : tokens at bs ≡ first ++ tokens (end_of at first) (drop (end_of at first - at) bs)

pub follows_front : (at : ℕ) (bs : List ℕ) (first : List PlacedToken) (front : List (List Symbol)) → up_to ends_piece (pieces bs) ≡ Some front → first ≡ tokens_from at front → Follows at bs first
unfolding tokens
follows_front at bs first front found is =
    let w = split_first ends_piece (pieces bs) front found in
    let off = taken_off bs front w.0 w.1 in
    let stop : end_of at first ≡ at + size front = ap (end_of at) is ∙ end_of_pieces (pieces bs) front at at found in
    let long : end_of at first - at ≡ size front = omega (arith, stop) in
    record {
      stop = omega (arith, stop);
      within = omega (arith, long, off.within);
      again = ap (tokens_from at) w.1 ∙ tokens-append at front w.0 ∙ ap (λ f. f ++ tokens_from (at + size front) w.0) (sym is)
          ∙ ap (λ r. first ++ tokens_from (at + size front) r) off.again
          ∙ ap (λ n. first ++ tokens_from n (pieces (drop (size front) bs))) (sym stop)
          ∙ ap (λ n. first ++ tokens_from (end_of at first) (pieces (drop n bs))) (sym long);
    }

-- a statement that `;` ends, whatever follows
pub follows_later : (at : ℕ) (bs : List ℕ) (first : List PlacedToken) → up_to ends (tokens at bs) ≡ Some first → (later : List ℕ) → Follows at (bs ++ later) first
follows_later at bs first e later =
    let w = ended at bs first e in
    follows_front at (bs ++ later) first w.front (continuation bs later w.front w.found) w.is

pub follows : (at : ℕ) (bs : List ℕ) (first : List PlacedToken) → up_to ends (tokens at bs) ≡ Some first → Follows at bs first
follows at bs first e = let w = ended at bs first e in follows_front at bs first w.front w.found w.is

-- and it is found there again
pub up_to_first : (at : ℕ) (bs : List ℕ) (first : List PlacedToken) → up_to ends (tokens at bs) ≡ Some first → (later : List ℕ) → up_to ends (tokens at (bs ++ later)) ≡ Some first
unfolding tokens
up_to_first at bs first e later =
    let w = ended at bs first e in
    up_to_tokens at (pieces (bs ++ later)) ∙ ap (option_map (tokens_from at)) (continuation bs later w.front w.found) ∙ ap Some (sym w.is)

-- the statements of bytes whose first `;` ends this one, whatever follows
pub statements_later : (at : ℕ) (bs : List ℕ) (first : List PlacedToken) → up_to ends (tokens at bs) ≡ Some first → (later : List ℕ)
    → statements at (bs ++ later) ≡ first ∷ statements (end_of at first) (drop (end_of at first - at) bs ++ later)
unfolding statements
statements_later at bs first e later =
    let f = follows_later at bs first e later in
    split-first (tokens at (bs ++ later)) first (tokens (end_of at first) (drop (end_of at first - at) (bs ++ later))) (up_to_first at bs first e later) f.again
    ∙ ap (λ r. first ∷ split (tokens (end_of at first) r)) (drop-append-le (end_of at first - at) bs later (follows at bs first e).within)

-- behind the last token there is none
pub none_behind : (at : ℕ) (bs : List ℕ) (t : PlacedToken) (ts : List PlacedToken) → tokens at bs ≡ t ∷ ts → tokens (end_of at (t ∷ ts)) (drop (end_of at (t ∷ ts) - at) bs) ≡ []
unfolding tokens
none_behind at bs t ts e =
    let w = up_to_last at (pieces bs) t ts e in
    let off = taken_off bs w.front w.back w.parts in
    let stop : end_of at (t ∷ ts) ≡ at + size w.front = ap (end_of at) (sym e) ∙ w.stop at in
    let long : end_of at (t ∷ ts) - at ≡ size w.front = omega (arith, stop) in
    ap (λ n. tokens_from (end_of at (t ∷ ts)) (pieces (drop n bs))) long ∙ ap (tokens_from (end_of at (t ∷ ts))) (sym off.again) ∙ w.none (end_of at (t ∷ ts))

pub last_within : (at : ℕ) (bs : List ℕ) (t : PlacedToken) (ts : List PlacedToken) → tokens at bs ≡ t ∷ ts → (at ≤ end_of at (t ∷ ts)) × (end_of at (t ∷ ts) - at ≤ length bs)
unfolding tokens
last_within at bs t ts e =
    let w = up_to_last at (pieces bs) t ts e in
    let off = taken_off bs w.front w.back w.parts in
    let stop : end_of at (t ∷ ts) ≡ at + size w.front = ap (end_of at) (sym e) ∙ w.stop at in
    (omega (arith, stop), omega (arith, stop, off.within))
