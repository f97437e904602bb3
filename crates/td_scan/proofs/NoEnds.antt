-- Where no byte is a `;`, no token is one.
use Rattle.std.proofs.Common.{◌≡◌, ℕ, zero, suc, ◌+◌, ◌-◌, ◌<◌, ◌≤◌, List, [], ◌∷◌, ◌++◌, length, take, drop, refl, sym, ap, ◌∙◌, arith, Bool, true, false, Option, Some, None, if◌then◌else◌, append-nil, drop-drop, length-drop}
use Rattle.std.specs.Prelude.{◌==◌, ◌||◌, option_map}
use Rattle.std.specs.List.{list_any}
use Rattle.std.specs.Char.{is_ascii_digit}
use Rattle.std.specs.Str.{is_utf8}
use Rattle.std.proofs.lemmas.Bool.Decides.{nat_tests}
use Rattle.td_tree.specs.declared.piece.Piece.{Piece}
use Rattle.td_tree.specs.declared.piece.Piece.TheVariants as pieces_are
use Rattle.td_tree.specs.declared.token.Kind.{Kind}
use Rattle.td_tree.specs.declared.token.Kind.TheVariants as kinds
use Rattle.td_tree.specs.declared.token.Sign.{Sign}
use Rattle.td_tree.specs.declared.token.Sign.TheVariants as signs
use Rattle.td_tree.specs.model.Division.{up_to}
use Rattle.td_tree.specs.model.Keywords.{keyword_of}
use Rattle.td_tree.specs.model.Names.{begins_the, is_word_more}
use Rattle.td_tree.specs.model.Pieces.{begins, continues, goes_on, is_character, kind_after, passes, sign_goes_on, text_kind, word_kind, word_kind_of}
use Rattle.td_tree.specs.model.Statements.{PlacedToken, ends, is_end, token_of, tokens}
use Rattle.td_tree.specs.model.Symbols.{Symbol, front_bytes, front_char, symbol_at, symbol_of, symbols, symbols_from}
use Rattle.td_tree.proofs.law_lemmas.FrontLaws.{ascii_byte}
use Rattle.td_tree.proofs.law_lemmas.KindLaws.{as_spelled}
use Rattle.td_tree.proofs.code_lemmas.StableBytes.{cuts}
use Rattle.td_tree.proofs.law_lemmas.StatementLaws.{is_end_of}
use Rattle.td_scan.specs.code.Fronts.{end_from, first_end}
use Rattle.td_scan.specs.code.Progress.{IsBegun, IsWithoutEnd, is_end_piece, read_of}
use Rattle.td_scan.specs.declared.piece.First.{First}
use Rattle.td_scan.proofs.FirstLaws.{first_within, no_bytes, tokens_of_first}

-- ---- pieces that are no `;`

pub word_is_none : (text : List ℕ) → is_end (word_kind text) ≡ false
unfolding word_kind
word_is_none text = elim (keyword_of text) as (λ o. is_end (word_kind_of o (begins_the text)) ≡ false) [
  | Some keyword ↦ refl
  | None ↦ (elim (begins_the text) as (λ b. is_end (if b then kinds.Component else kinds.Name) ≡ false) [ true ↦ refl | false ↦ refl ])
]

text_is_none : (text : List ℕ) → is_end (text_kind text) ≡ false
text_is_none text = elim (is_utf8 text) as (λ b. is_end (if b then kinds.Text else kinds.Bad) ≡ false) [ true ↦ refl | false ↦ refl ]

sign_is_none : (a : Sign) → is_end_piece (pieces_are.Sign a) ≡ false → is_end (kinds.Sign a) ≡ false
sign_is_none signs.Semicolon e = absurd cc
sign_is_none _ e = refl

kind_is_none : (p : Piece) (text : List ℕ) → is_end_piece p ≡ false → is_end_of (kind_after p text) ≡ false
kind_is_none pieces_are.Word text e = word_is_none text
kind_is_none pieces_are.Text text e = text_is_none text
kind_is_none (pieces_are.Sign a) text e = sign_is_none a e
kind_is_none _ text e = refl

-- no piece becomes a `;` by going on
abbrev ends_next : Option Piece → Bool
ends_next None = false
ends_next (Some p) = is_end_piece p

either : (b : Bool) (x y : Option Piece) → ends_next x ≡ false → ends_next y ≡ false → ends_next (if b then x else y) ≡ false
either true x y p q = p
either false x y p q = q

sign_goes : (a : Sign) (c : Option ℕ) → ends_next (sign_goes_on a c) ≡ false
unfolding sign_goes_on
sign_goes signs.Colon c = either (is_character 61 c) (Some (pieces_are.Sign signs.Assign)) None refl refl
sign_goes signs.Less c =
    either (is_character 61 c) (Some (pieces_are.Sign signs.LessOrEqual)) (if is_character 62 c then Some (pieces_are.Sign signs.NotEqual) else None) refl
    (either (is_character 62 c) (Some (pieces_are.Sign signs.NotEqual)) None refl refl)
sign_goes signs.Greater c = either (is_character 61 c) (Some (pieces_are.Sign signs.GreaterOrEqual)) None refl refl
sign_goes signs.Divide c =
    either (is_character 47 c) (Some pieces_are.LineComment) (if is_character 42 c then Some pieces_are.OpenComment else None) refl
    (either (is_character 42 c) (Some pieces_are.OpenComment) None refl refl)
sign_goes _ c = refl

one_of : (b : Bool) (x y : Piece) → is_end_piece x ≡ false → is_end_piece y ≡ false → is_end_piece (if b then x else y) ≡ false
one_of true x y p q = p
one_of false x y p q = q

piece_goes : (p : Piece) (c : Option ℕ) → ends_next (goes_on p c) ≡ false
unfolding goes_on
piece_goes pieces_are.Word c = either (passes is_word_more c) (Some pieces_are.Word) None refl refl
piece_goes pieces_are.Number c = either (passes is_ascii_digit c) (Some pieces_are.Number) None refl refl
piece_goes (pieces_are.Sign a) c = sign_goes a c
piece_goes pieces_are.Bar c = either (is_character 124 c) (Some (pieces_are.Sign signs.Concatenate)) None refl refl
piece_goes pieces_are.OpenText c = one_of (is_character 39 c) pieces_are.Text pieces_are.OpenText refl refl
piece_goes pieces_are.Text c = either (is_character 39 c) (Some pieces_are.OpenText) None refl refl
piece_goes pieces_are.LineComment c = either (is_character 10 c) None (Some pieces_are.LineComment) refl refl
piece_goes pieces_are.OpenComment c = one_of (is_character 42 c) pieces_are.StarredComment pieces_are.OpenComment refl refl
piece_goes pieces_are.StarredComment c =
    one_of (is_character 47 c) pieces_are.Comment (if is_character 42 c then pieces_are.StarredComment else pieces_are.OpenComment) refl
    (one_of (is_character 42 c) pieces_are.StarredComment pieces_are.OpenComment refl refl)
piece_goes pieces_are.Blank c = refl
piece_goes pieces_are.Comment c = refl
piece_goes pieces_are.Bad c = refl

end_is_other : (n : ℕ) (p : Piece) (ss : List Symbol) → is_end_piece p ≡ false → is_end_piece (end_from n p ss).1 ≡ false
end_is_other n p [] other = other
end_is_other n p (s ∷ ss) other =
    (elim (continues p s) as (λ o. ends_next o ≡ false → is_end_piece (elim o as (λ _. ℕ × Piece) [ Some longer ↦ end_from (n + length s.text) longer ss | None ↦ (n, p) ]).1 ≡ false) [
      | Some q ↦ λ more. end_is_other (n + length s.text) q ss more
      | None ↦ λ more. other
    ]) (piece_goes p s.character)

end_is_past : (n : ℕ) (p : Piece) (ss : List Symbol) → n ≤ (end_from n p ss).0
end_is_past n p [] = omega arith
end_is_past n p (s ∷ ss) =
    elim (continues p s) as (λ o. n ≤ (elim o as (λ _. ℕ × Piece) [ Some longer ↦ end_from (n + length s.text) longer ss | None ↦ (n, p) ]).0) [
      | Some q ↦ omega (arith, end_is_past (n + length s.text) q ss)
      | None ↦ omega arith
    ]

-- ---- what a character begins

end_piece : (p : Piece) → is_end_piece p ≡ true → p ≡ pieces_are.Sign signs.Semicolon
end_piece (pieces_are.Sign signs.Semicolon) e = refl
end_piece _ e = absurd cc

opens_other : (s : Symbol) → passes (λ c. c == 59) s.character ≡ false → is_end_piece (begins s) ≡ false
opens_other s other =
    (elim (is_end_piece (begins s)) as (λ b. is_end_piece (begins s) ≡ b → b ≡ false) [
      | false ↦ λ e. refl
      | true ↦ λ e.
          let all : s.character ∷ [] ≡ Some 59 ∷ [] = (as_spelled (s ∷ []) (pieces_are.Sign signs.Semicolon)).0 (ap Some (end_piece (begins s) e)) in
          let same : s.character ≡ Some 59 = cc in
          absurd (let wrong : true ≡ false = ap (passes (λ c. c == 59)) (sym same) ∙ other in cc)
    ]) refl

other_byte : (b : ℕ) (bs : List ℕ) → (b == 59) ≡ false → passes (λ c. c == 59) (symbol_at b bs).character ≡ false
other_byte b bs other =
    (elim (front_char (b ∷ bs)) as (λ o. front_char (b ∷ bs) ≡ o → passes (λ c. c == 59) (symbol_of o (front_bytes (b ∷ bs)) b).character ≡ false) [
      | None ↦ λ is. refl
      | Some c ↦ λ is. (elim (c == 59) as (λ t. (c == 59) ≡ t → t ≡ false) [
        | false ↦ λ e. refl
        | true ↦ λ e. absurd (let same : c ≡ 59 = grind (arith, nat_tests) in let byte : b ≡ 59 = ascii_byte b bs 59 (omega arith) (is ∙ ap Some same) in grind (arith, nat_tests))
      ]) refl
    ]) refl

-- ---- bytes without a `;`

abbrev has_end : List ℕ → Bool
has_end = list_any (λ b. b == 59)

neither : (a b : Bool) → (a || b) ≡ false → (a ≡ false) × (b ≡ false)
neither true b e = absurd cc
neither false b e = (refl, e)

none_dropped : (n : ℕ) (bs : List ℕ) → has_end bs ≡ false → has_end (drop n bs) ≡ false
none_dropped zero bs none = none
none_dropped (suc n) [] none = refl
none_dropped (suc n) (b ∷ bs) none = none_dropped n bs (neither (b == 59) (has_end bs) none).1

first_is_other : (b : ℕ) (bs : List ℕ) → (b == 59) ≡ false → is_end_piece (first_end (symbols (b ∷ bs))).1 ≡ false
first_is_other b bs other =
    let s = symbol_at b bs in
    end_is_other (length s.text) (begins s) (symbols_from (length s.text - 1) bs) (opens_other s (other_byte b bs other))

first_is_some : (b : ℕ) (bs : List ℕ) → 0 < (first_end (symbols (b ∷ bs))).0
first_is_some b bs =
    let s = symbol_at b bs in
    omega (arith, ap length (cuts b bs).text, end_is_past (length s.text) (begins s) (symbols_from (length s.text - 1) bs))

none_before : (o : Option Kind) (at : ℕ) (text : List ℕ) (rest : List PlacedToken) → is_end_of o ≡ false → up_to ends rest ≡ None → up_to ends (token_of o at text ++ rest) ≡ None
none_before None at text rest other none = none
none_before (Some kind) at text rest other none =
    let token : PlacedToken = record { kind = kind; text = text; start = at; stop = at + length text } in
    ap (λ b. if b then Some (token ∷ []) else option_map (λ ts. token ∷ ts) (up_to ends rest)) other ∙ ap (option_map (λ ts. token ∷ ts)) none

-- a first piece that is no `;`, and no `;` in what follows it
none_behind : (bs : List ℕ) (at : ℕ) → 0 < length bs → is_end_piece (first_end (symbols bs)).1 ≡ false
    → up_to ends (tokens (at + (first_end (symbols bs)).0) (drop (first_end (symbols bs)).0 bs)) ≡ None → up_to ends (tokens at bs) ≡ None
none_behind bs at some other none =
    let f = first_end (symbols bs) in
    ap (up_to ends) (tokens_of_first bs f some refl (first_within bs some) at)
    ∙ none_before (kind_after f.1 (take f.0 bs)) at (take f.0 bs) (tokens (at + f.0) (drop f.0 bs)) (kind_is_none f.1 (take f.0 bs) other) none

none_in : (fuel : ℕ) (bs : List ℕ) → length bs ≤ fuel → has_end bs ≡ false → (at : ℕ) → up_to ends (tokens at bs) ≡ None
none_in fuel [] less none at = ap (up_to ends) (no_bytes [] at refl)
none_in zero (b ∷ bs) less none at = absurd (omega (arith, less))
none_in (suc fuel) (b ∷ bs) less none at =
    let f = first_end (symbols (b ∷ bs)) in
    none_behind (b ∷ bs) at (omega arith) (first_is_other b bs (neither (b == 59) (has_end bs) none).0)
    (none_in fuel (drop f.0 (b ∷ bs)) (omega (arith, less, first_is_some b bs, length-drop f.0 (b ∷ bs))) (none_dropped f.0 (b ∷ bs) none) (at + f.0))

pub no_end_in : (bs : List ℕ) → list_any (λ b. b == 59) bs ≡ false → (at : ℕ) → up_to ends (tokens at bs) ≡ None
no_end_in bs none at = none_in (length bs) bs (omega arith) none at

-- so much of the first piece was read
pub no_end_behind : (bs : List ℕ) (f : First) → IsBegun bs (Some f) → is_end_piece f.piece ≡ false → list_any (λ b. b == 59) (drop f.length bs) ≡ false
    → (at : ℕ) → up_to ends (tokens at bs) ≡ None
no_end_behind bs f begun other none at =
    let g = first_end (symbols bs) in
    let rest = symbols (drop f.length bs ++ []) in
    let same : end_from f.length f.piece rest ≡ g = begun.same [] ∙ ap (λ r. first_end (symbols r)) (append-nil bs) in
    let past : f.length ≤ g.0 = omega (arith, end_is_past f.length f.piece rest, ap (λ (e : ℕ × Piece). e.0) same) in
    let back : drop (g.0 - f.length) (drop f.length bs) ≡ drop g.0 bs = drop-drop (g.0 - f.length) f.length bs ∙ ap (λ n. drop n bs) (let n : f.length + (g.0 - f.length) ≡ g.0 = omega (arith, past) in n) in
    none_behind bs at (omega (arith, begun.some, begun.within)) (ap (λ (e : ℕ × Piece). is_end_piece e.1) (sym same) ∙ end_is_other f.length f.piece rest other)
    (no_end_in (drop g.0 bs) (ap (list_any (λ b. b == 59)) (sym back) ∙ none_dropped (g.0 - f.length) (drop f.length bs) none) (at + g.0))

-- ---- what is left of bytes of whose first piece so much was read

pub no_end_left : (bs : List ℕ) (begun : Option First) → IsBegun bs begun → IsWithoutEnd begun bs → (at : ℕ) → up_to ends (tokens at bs) ≡ None
no_end_left bs None begun w at = no_end_in bs w.none at
no_end_left bs (Some f) begun w at = no_end_behind bs f begun w.other w.none at

none_joined : (xs ys : List ℕ) → has_end xs ≡ false → has_end ys ≡ false → has_end (xs ++ ys) ≡ false
none_joined [] ys p q = q
none_joined (b ∷ xs) ys p q = let w = neither (b == 59) (has_end xs) p in ap (λ t. t || has_end (xs ++ ys)) w.0 ∙ none_joined xs ys w.1 q

pub drop_more : (n : ℕ) (xs ys : List ℕ) → n ≤ length xs → drop n (xs ++ ys) ≡ drop n xs ++ ys
drop_more zero xs ys l = refl
drop_more (suc n) [] ys l = absurd (omega (arith, l))
drop_more (suc n) (x ∷ xs) ys l = drop_more n xs ys (omega (arith, l))

-- more bytes that are no `;` either
pub without_more : (begun : Option First) (bs more : List ℕ) → read_of begun ≤ length bs → IsWithoutEnd begun bs → list_any (λ b. b == 59) more ≡ false → IsWithoutEnd begun (bs ++ more)
without_more begun bs more l w none = record {
  other = w.other;
  none = ap has_end (drop_more (read_of begun) bs more l) ∙ none_joined (drop (read_of begun) bs) more w.none none;
}
