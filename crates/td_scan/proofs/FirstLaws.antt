-- The piece at the front, and the tokens of the bytes.
use Rattle.std.proofs.Common.{Option, ◌≡◌, ℕ, ◌+◌, ◌<◌, ◌≤◌, List, [], ◌∷◌, ◌++◌, length, take, drop, refl, sym, ap, ◌∙◌, subst, arith, true, Some, None, append_assoc, append-nil, length-append}
use Rattle.std.specs.Prelude.{option_and_then, ◌==◌}
use Rattle.std.proofs.lemmas.Bool.Decides.{nat_tests}
use Rattle.std.proofs.lemmas.Grind.{flat_map-append}
use Rattle.td_tree.specs.declared.piece.Piece.{Piece}
use Rattle.td_tree.specs.declared.token.Kind.{Kind}
use Rattle.td_tree.specs.model.Division.{run, divide, divide_from}
use Rattle.td_tree.specs.model.Pieces.{begins, continues, pieces, kind_after, kind_of, state}
use Rattle.td_tree.specs.laws.Spans.{AreOfTheirKind}
use Rattle.td_tree.specs.model.Statements.{PlacedToken, token_of, tokens, tokens_from}
use Rattle.td_tree.specs.model.Symbols.{Symbol, symbols, spell}
use Rattle.td_tree.proofs.law_lemmas.DivisionLaws.{state-append}
use Rattle.td_tree.proofs.law_lemmas.PieceLaws.{size, taken_off}
use Rattle.td_tree.proofs.law_lemmas.SliceLaws.{kinds}
use Rattle.td_scan.specs.code.Fronts.{end_from, first_end}

-- the first piece, and the pieces of the rest
record Found (cut : List (List Symbol)) (all : List Symbol) (f : ℕ × Piece) : Type 0 where
  front : List Symbol
  rest : List Symbol
  again : cut ≡ front ∷ divide begins continues rest
  is : state front ≡ Some f.1
  long : f.0 ≡ length (spell front)

found_from : (n : ℕ) (t : Piece) (p xs : List Symbol) → n ≡ length (spell p) → state p ≡ Some t → Found (divide_from begins continues t p xs) (p ++ xs) (end_from n t xs)
found_from n t p [] long is = record { front = p; rest = []; again = refl; is = is; long = long }
found_from n t p (x ∷ xs) long is =
    (elim (continues t x) as (λ o. continues t x ≡ o → Found (elim o as (λ _. List (List Symbol)) [ Some u ↦ divide_from begins continues u (p ++ x ∷ []) xs | None ↦ p ∷ divide_from begins continues (begins x) (x ∷ []) xs ])
    (p ++ x ∷ xs) (elim o as (λ _. ℕ × Piece) [ Some u ↦ end_from (n + length x.text) u xs | None ↦ (n, t) ])) [
      | Some u ↦ λ next. subst (λ all. Found (divide_from begins continues u (p ++ x ∷ []) xs) all (end_from (n + length x.text) u xs)) (append_assoc p (x ∷ []) xs)
          (found_from (n + length x.text) u (p ++ x ∷ []) xs
          (omega (arith, long, ap length (flat_map-append (λ (s : Symbol). s.text) p (x ∷ [])), length-append (spell p) (x.text ++ []), ap length (append-nil x.text)))
          (state-append begins continues p t (x ∷ []) is ∙ ap (λ o. run begins continues o []) next))
      | None ↦ λ next. record { front = p; rest = x ∷ xs; again = refl; is = is; long = long }
    ]) refl

found_of : (xs : List Symbol) → 0 < length xs → Found (divide begins continues xs) xs (first_end xs)
found_of [] some = absurd (omega arith)
found_of (x ∷ xs) some = found_from (length x.text) (begins x) (x ∷ []) xs (sym (ap length (append-nil x.text))) refl

tokens_found : (bs : List ℕ) (f : ℕ × Piece) → Found (pieces bs) (symbols bs) f → f.0 ≤ length bs → (at : ℕ) → tokens at bs ≡ token_of (kind_after f.1 (take f.0 bs)) at (take f.0 bs) ++ tokens (at + f.0) (drop f.0 bs)
unfolding tokens
tokens_found bs f w within at =
    let off = taken_off bs (w.front ∷ []) (divide begins continues w.rest) w.again in
    let alone : spell (w.front ++ []) ≡ spell w.front = ap spell (append-nil w.front) in
    let total : f.0 ≡ size (w.front ∷ []) = w.long ∙ sym (ap length alone) in
    let text : spell w.front ≡ take f.0 bs = sym alone ∙ sym off.text ∙ ap (λ n. take n bs) (sym total) in
    let kind : kind_of w.front ≡ kind_after f.1 (spell w.front) = ap (option_and_then (λ piece. kind_after piece (spell w.front))) w.is in
    ap (tokens_from at) w.again
    ∙ ap (λ k. token_of k at (spell w.front) ++ tokens_from (at + length (spell w.front)) (divide begins continues w.rest)) kind
    ∙ ap (λ ps. token_of (kind_after f.1 (spell w.front)) at (spell w.front) ++ tokens_from (at + length (spell w.front)) ps) (off.again ∙ ap (λ n. pieces (drop n bs)) (sym total))
    ∙ ap (λ n. token_of (kind_after f.1 (spell w.front)) at (spell w.front) ++ tokens_from (at + n) (pieces (drop f.0 bs))) (sym w.long)
    ∙ ap (λ t. token_of (kind_after f.1 t) at t ++ tokens_from (at + f.0) (pieces (drop f.0 bs))) text

some_symbols : (bs : List ℕ) → 0 < length bs → 0 < length (symbols bs)
some_symbols [] some = absurd (omega arith)
some_symbols (b ∷ bs) some = omega arith

-- the first piece, and the tokens of the rest
pub tokens_of_first : (bs : List ℕ) (f : ℕ × Piece) → 0 < length bs → f ≡ first_end (symbols bs) → f.0 ≤ length bs
    → (at : ℕ) → tokens at bs ≡ token_of (kind_after f.1 (take f.0 bs)) at (take f.0 bs) ++ tokens (at + f.0) (drop f.0 bs)
tokens_of_first bs f some is within at =
    tokens_found bs f (subst (λ g. Found (pieces bs) (symbols bs) g) (sym is) (found_of (symbols bs) (some_symbols bs some))) within at

-- the first piece is no longer than the bytes
pub first_within : (bs : List ℕ) → 0 < length bs → (first_end (symbols bs)).0 ≤ length bs
first_within bs some =
    let w = found_of (symbols bs) (some_symbols bs some) in
    let off = taken_off bs (w.front ∷ []) (divide begins continues w.rest) w.again in
    omega (arith, w.long, off.within, ap length (ap spell (append-nil w.front)))

-- no bytes, no tokens
pub no_bytes : (bs : List ℕ) (at : ℕ) → (length bs == 0) ≡ true → tokens at bs ≡ []
unfolding tokens
no_bytes [] at none = refl
no_bytes (b ∷ bs) at none = absurd (let some : 0 < length (b ∷ bs) = omega arith in grind (arith, nat_tests))

-- a token is of its kind
said_first : (o : Option Kind) (at : ℕ) (text : List ℕ) (rest : List PlacedToken) (kind : Kind) → o ≡ Some kind → AreOfTheirKind (token_of o at text ++ rest) → kind_of (symbols text) ≡ Some kind
said_first None at text rest kind is are = absurd cc
said_first (Some k) at text rest kind is are = are.0 ∙ is

pub kind_said : (bytes : List ℕ) (at n : ℕ) (piece : Piece) (kind : Kind) (text : List ℕ) → text ≡ take n bytes → kind_after piece text ≡ Some kind
    → tokens at bytes ≡ token_of (kind_after piece (take n bytes)) at (take n bytes) ++ tokens (at + n) (drop n bytes) → kind_of (symbols text) ≡ Some kind
kind_said bytes at n piece kind text front is all =
    subst (λ t. kind_of (symbols t) ≡ Some kind) (sym front)
    (said_first (kind_after piece (take n bytes)) at (take n bytes) (tokens (at + n) (drop n bytes)) kind (sym (ap (kind_after piece) front) ∙ is) (subst AreOfTheirKind all (kinds at bytes)))
