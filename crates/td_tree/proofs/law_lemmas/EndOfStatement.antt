-- A `;` is one piece that nothing lengthens, so that what it ends is the same in every continuation.
use Rattle.std.proofs.Common.{◌≡◌, ℕ, List, [], ◌∷◌, ◌++◌, refl, sym, ap, ◌∙◌, true, false, Option, Some, None, if◌then◌else◌}
use Rattle.std.specs.Prelude.{option_and_then}
use Rattle.std.specs.Str.{is_utf8}
use Rattle.td_tree.specs.declared.piece.Piece.{Piece}
use Rattle.td_tree.specs.declared.piece.Piece.TheVariants as pieces_are
use Rattle.td_tree.specs.declared.token.Kind.TheVariants as kinds
use Rattle.td_tree.specs.declared.token.Sign.{Sign}
use Rattle.td_tree.specs.declared.token.Sign.TheVariants as signs
use Rattle.td_tree.specs.model.Division.{up_to, IsDivision}
use Rattle.td_tree.specs.model.Keywords.{keyword_of}
use Rattle.td_tree.specs.model.Names.{begins_the}
use Rattle.td_tree.specs.model.Pieces.{begins, continues, goes_on, sign_goes_on, pieces, kind_after, state, text_kind, word_kind, word_kind_of}
use Rattle.td_tree.specs.laws.Spellings.{characters}
use Rattle.td_tree.specs.model.Statements.{is_end}
use Rattle.td_tree.specs.model.Symbols.{Symbol, symbols, spell}
use Rattle.td_tree.proofs.law_lemmas.DivisionLaws as division
use Rattle.td_tree.proofs.law_lemmas.KindLaws.{as_spelled}
use Rattle.td_tree.proofs.code_lemmas.StableBytes.{IsOneEnd, stable_bytes}
use Rattle.td_tree.proofs.law_lemmas.StatementLaws.{is_end_of, ends_piece}

word_is_no_end : (text : List ℕ) → is_end (word_kind text) ≡ false
unfolding word_kind
word_is_no_end text = elim (keyword_of text) as (λ o. is_end (word_kind_of o (begins_the text)) ≡ false) [
  | Some keyword ↦ refl
  | None ↦ (elim (begins_the text) as (λ b. is_end (if b then kinds.Component else kinds.Name) ≡ false) [ true ↦ refl | false ↦ refl ])
]

text_is_no_end : (text : List ℕ) → is_end (text_kind text) ≡ false
text_is_no_end text = elim (is_utf8 text) as (λ b. is_end (if b then kinds.Text else kinds.Bad) ≡ false) [ true ↦ refl | false ↦ refl ]

semicolon_kind : (a : Sign) → is_end (kinds.Sign a) ≡ true → a ≡ signs.Semicolon
semicolon_kind signs.Semicolon e = refl
semicolon_kind _ e = absurd cc

-- the piece of a `;`
semicolon_state : (t : Piece) (text : List ℕ) → is_end_of (kind_after t text) ≡ true → t ≡ pieces_are.Sign signs.Semicolon
semicolon_state pieces_are.Blank text e = absurd cc
semicolon_state pieces_are.Word text e = let wrong : false ≡ true = sym (word_is_no_end text) ∙ e in absurd cc
semicolon_state pieces_are.Number text e = absurd cc
semicolon_state (pieces_are.Sign a) text e = ap pieces_are.Sign (semicolon_kind a e)
semicolon_state pieces_are.Text text e = let wrong : false ≡ true = sym (text_is_no_end text) ∙ e in absurd cc
semicolon_state _ text e = absurd cc

nothing_longer : (c : Option ℕ) → goes_on (pieces_are.Sign signs.Semicolon) c ≡ None
unfolding goes_on sign_goes_on
nothing_longer c = refl

-- nothing lengthens a `;`
pub closed : (p : List Symbol) (t : Piece) (x : Symbol) → ends_piece p ≡ true → state p ≡ Some t → continues t x ≡ None
closed p t x ends is =
    let last : t ≡ pieces_are.Sign signs.Semicolon = semicolon_state t (spell p) (sym (ap (λ o. is_end_of (option_and_then (λ piece. kind_after piece (spell p)) o)) is) ∙ ends) in
    ap (λ s. continues s x) last ∙ nothing_longer x.character

one_symbol : (p : List Symbol) → characters p ≡ Some 59 ∷ [] → IsOneEnd p
one_symbol [] e = absurd cc
one_symbol (s ∷ []) e = record { symbol = s; alone = refl; is = (let head : s.character ≡ Some 59 = cc in head) }
one_symbol (s ∷ t ∷ p) e = absurd cc

-- it is one symbol
pub one_end : (p : List Symbol) → ends_piece p ≡ true → IsOneEnd p
one_end p =
    (elim (state p) as (λ o. state p ≡ o → is_end_of (option_and_then (λ piece. kind_after piece (spell p)) o) ≡ true → IsOneEnd p) [
      | None ↦ λ is e. absurd cc
      | Some t ↦ λ is e. one_symbol p ((as_spelled p (pieces_are.Sign signs.Semicolon)).0 (is ∙ ap Some (semicolon_state t (spell p) e)))
    ]) refl

pub continuation : (bytes later : List ℕ) (front : List (List Symbol)) → up_to ends_piece (pieces bytes) ≡ Some front → up_to ends_piece (pieces (bytes ++ later)) ≡ Some front
continuation = stable_bytes begins continues ends_piece one_end closed

-- the pieces are the division of the bytes into longest ones
pub divides : (bytes : List ℕ) → IsDivision begins continues (pieces bytes) (symbols bytes)
divides bytes = division.divides begins continues (symbols bytes)

-- and there is no other
pub one_division : (ps : List (List Symbol)) (bytes : List ℕ) → IsDivision begins continues ps (symbols bytes) → ps ≡ pieces bytes
one_division ps bytes is = division.one_division begins continues ps (pieces bytes) (symbols bytes) is (divides bytes)
