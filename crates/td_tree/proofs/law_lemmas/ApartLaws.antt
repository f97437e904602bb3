-- Bytes that are a piece by themselves, and end before what follows them: the first piece, and the first token.
use Rattle.std.proofs.Common.{true, ◌≡◌, ℕ, ◌+◌, ◌<◌, List, [], ◌∷◌, ◌++◌, length, refl, sym, ap, ◌∙◌, arith, Option, Some, None, append-nil, length-append}
use Rattle.std.specs.Prelude.{option_and_then}
use Rattle.td_tree.specs.model.Division.{IsDivision, IsNext, divide}
use Rattle.td_tree.specs.model.Pieces.{begins, continues, goes_on, kind_after, kind_of, opens, pieces, state}
use Rattle.td_tree.specs.model.Statements.{token_of, tokens, tokens_from}
use Rattle.td_tree.specs.model.Symbols.{Symbol, spell, symbols}
use Rattle.td_tree.specs.declared.piece.Piece.{Piece}
use Rattle.td_tree.proofs.law_lemmas.Boundaries.{IsBounded, boundary_ascii, is_boundary}
use Rattle.td_tree.proofs.law_lemmas.DivisionLaws.{divides, one_division, stops}
use Rattle.td_tree.proofs.code_lemmas.StableBytes.{spelled}
use Rattle.td_tree.proofs.law_lemmas.SymbolLaws.{front_ascii, symbols-append_ascii}

-- bytes that are this piece by themselves, with which no symbol of what follows goes on
pub record EndsBefore (piece : Piece) (t rest : List ℕ) : Type 0 where
  pub is : state (symbols t) ≡ Some piece
  pub parted : symbols (t ++ rest) ≡ symbols t ++ symbols rest
  pub ends : (x : Symbol) (xs : List Symbol) → symbols rest ≡ x ∷ xs → continues piece x ≡ None

-- ---- pieces

-- a piece that no symbol of what follows goes on with is the longest
whole_next : (p rest : List Symbol) (piece : Piece) → state p ≡ Some piece → ((x : Symbol) (xs : List Symbol) → rest ≡ x ∷ xs → continues piece x ≡ None) → IsNext begins continues p rest
whole_next p [] piece is ends = record {
  piece = record { last = piece; is = is };
  longest = λ q r found same. (let long : length q + length r ≡ length p + 0 = sym (length-append q r) ∙ ap length same ∙ length-append p [] in omega arith);
}
whole_next p (x ∷ xs) piece is ends = stops begins continues p piece x xs is (ends x xs refl)

-- they are the first piece
pub next_piece : (piece : Piece) (t rest : List ℕ) → EndsBefore piece t rest → pieces (t ++ rest) ≡ symbols t ∷ pieces rest
next_piece piece t rest a =
    let all : List Symbol = symbols t ++ symbols rest in
    let next : IsNext begins continues (symbols t) (symbols rest) = whole_next (symbols t) (symbols rest) piece a.is a.ends in
    let division : IsDivision begins continues (symbols t ∷ pieces rest) all = (symbols rest, refl, next, divides begins continues (symbols rest)) in
    ap (divide begins continues) a.parted ∙ sym (one_division begins continues (symbols t ∷ pieces rest) (divide begins continues all) all division (divides begins continues all))

-- ---- what ends

-- at the end
pub ends_at_end : (t : List ℕ) (piece : Piece) → state (symbols t) ≡ Some piece → EndsBefore piece t []
ends_at_end t piece is = record {
  is = is;
  parted = ap symbols (append-nil t) ∙ sym (append-nil (symbols t));
  ends = λ x xs e. absurd cc;
}

first_is : (x y : Symbol) (xs ys : List Symbol) → x ∷ xs ≡ y ∷ ys → x ≡ y
first_is x y xs ys e = cc

abbrev ascii_symbol : ℕ → Symbol
ascii_symbol b = record { character = Some b; text = b ∷ [] }

ascii_first : (b : ℕ) (rest : List ℕ) → b < 128 → symbols (b ∷ rest) ≡ ascii_symbol b ∷ symbols rest
ascii_first b rest ascii = front_ascii (b ∷ rest) (omega arith) ascii

-- before an ASCII byte with which the piece does not go on
pub ends_before : (t rest : List ℕ) (b : ℕ) (piece : Piece) → state (symbols t) ≡ Some piece → b < 128 → goes_on piece (Some b) ≡ None → EndsBefore piece t (b ∷ rest)
ends_before t rest b piece is ascii none = record {
  is = is;
  parted = symbols-append_ascii 0 t rest b ascii (omega arith);
  ends = λ x xs e. (let same : ascii_symbol b ≡ x = first_is (ascii_symbol b) x (symbols rest) xs (sym (ascii_first b rest ascii) ∙ e) in
      ap (λ (s : Symbol). continues piece s) (sym same) ∙ none);
}

-- one ASCII byte that goes on with nothing
pub ends_alone : (b : ℕ) (rest : List ℕ) → b < 128 → ((c : Option ℕ) → goes_on (opens (Some b)) c ≡ None) → EndsBefore (opens (Some b)) (b ∷ []) rest
ends_alone b rest ascii none = record {
  is = ap state (ascii_first b [] ascii);
  parted = ascii_first b rest ascii ∙ ap (λ r. r ++ symbols rest) (sym (ascii_first b [] ascii));
  ends = λ x xs e. none x.character;
}

-- a piece that boundaries end, before one or at the end
pub ends_bounded : (t rest : List ℕ) (piece : Piece) → state (symbols t) ≡ Some piece → ((b : ℕ) → is_boundary b ≡ true → goes_on piece (Some b) ≡ None) → IsBounded rest → EndsBefore piece t rest
ends_bounded t [] piece is ends bounded = ends_at_end t piece is
ends_bounded t (b ∷ rest) piece is ends bounded = ends_before t rest b piece is (boundary_ascii b bounded) (ends b bounded)

-- ---- tokens

-- what the piece is comes before the tokens of the rest
pub next_token : (piece : Piece) (t rest : List ℕ) (at : ℕ) → EndsBefore piece t rest → tokens at (t ++ rest) ≡ token_of (kind_after piece t) at t ++ tokens (at + length t) rest
unfolding tokens
next_token piece t rest at a =
    let kind : kind_of (symbols t) ≡ kind_after piece t = ap (option_and_then (λ p. kind_after p (spell (symbols t)))) a.is ∙ ap (kind_after piece) (spelled 0 t) in
    ap (tokens_from at) (next_piece piece t rest a)
    ∙ ap (λ k. token_of k at (spell (symbols t)) ++ tokens_from (at + length (spell (symbols t))) (pieces rest)) kind
    ∙ ap (λ b. token_of (kind_after piece t) at b ++ tokens_from (at + length b) (pieces rest)) (spelled 0 t)
