-- What the grammar sees of bytes, said from their front: of a printed lexeme, a space or a sign, and then of the rest.
use Rattle.std.proofs.Common.{◌≡◌, ℕ, ◌+◌, ◌<◌, List, [], ◌∷◌, ◌++◌, length, refl, sym, ap, ◌∙◌, arith, append_assoc, Option, Some, None}
use Rattle.td_tree.specs.declared.piece.Piece.TheVariants as pieces_are
use Rattle.td_tree.specs.declared.token.Sign.{Sign}
use Rattle.td_tree.specs.declared.token.Sign.TheVariants as signs
use Rattle.td_tree.specs.model.Lexemes.{Lexeme, printed_text, sign}
use Rattle.td_tree.specs.model.Lists.{with_braces, with_parentheses}
use Rattle.td_tree.specs.model.Pieces.{goes_on, kind_after, opens, sign_at, sign_goes_on}
use Rattle.td_tree.specs.model.Statements.{token_of, tokens}
use Rattle.td_tree.specs.model.TokenLexemes.{lexemes}
use Rattle.td_tree.proofs.law_lemmas.ApartLaws.{ends_alone, next_token}
use Rattle.td_tree.proofs.law_lemmas.Boundaries.{IsBounded}
use Rattle.td_tree.proofs.law_lemmas.PlainLexemes.{IsPlain}
use Rattle.td_tree.proofs.law_lemmas.PrintLaws.{IsProper, prints}
use Rattle.td_tree.proofs.law_lemmas.SpacedLaws.{token_before, tokens_after_space}

-- wherever the bytes begin, the grammar sees their tokens as these
abbrev pub IsSeen : List ℕ → List Lexeme → Type 0
IsSeen bytes ls = (at : ℕ) → lexemes (tokens at bytes) ≡ ls

pub seen_same : (bs cs : List ℕ) (ls ms : List Lexeme) → bs ≡ cs → ls ≡ ms → IsSeen cs ms → IsSeen bs ls
seen_same bs cs ls ms e f seen at = ap (λ b. lexemes (tokens at b)) e ∙ seen at ∙ sym f

pub nothing_seen : IsSeen [] []
unfolding tokens
nothing_seen at = refl

-- a printed lexeme before a boundary, or at the end
pub lexeme_seen : (l : Lexeme) (rest : List ℕ) (ls : List Lexeme) → IsPlain l → IsProper l → IsBounded rest → IsSeen rest ls → IsSeen (printed_text l ++ rest) (l ∷ ls)
lexeme_seen l rest ls plain proper bounded seen at =
    let w = prints l plain proper in
    ap lexemes (token_before (printed_text l) rest w.kind at w.stands bounded)
    ∙ ap (λ x. x ∷ lexemes (tokens (at + length (printed_text l)) rest)) w.same
    ∙ ap (λ r. l ∷ r) (seen (at + length (printed_text l)))

-- ---- what anything may follow

pub space_seen : (rest : List ℕ) (ls : List Lexeme) → IsSeen rest ls → IsSeen (32 ∷ rest) ls
space_seen rest ls seen at = ap lexemes (tokens_after_space rest at) ∙ seen (at + 1)

alone_seen : (s : Sign) (b : ℕ) (rest : List ℕ) (ls : List Lexeme) → b < 128 → opens (Some b) ≡ pieces_are.Sign s → ((c : Option ℕ) → goes_on (opens (Some b)) c ≡ None) → IsSeen rest ls → IsSeen (b ∷ rest) (sign s ∷ ls)
alone_seen s b rest ls ascii is ends seen at =
    ap lexemes (next_token (opens (Some b)) (b ∷ []) rest at (ends_alone b rest ascii ends))
    ∙ ap (λ p. lexemes (token_of (kind_after p (b ∷ [])) at (b ∷ []) ++ tokens (at + 1) rest)) is
    ∙ ap (λ r. sign s ∷ r) (seen (at + 1))

pub open_brace_seen : (rest : List ℕ) (ls : List Lexeme) → IsSeen rest ls → IsSeen (123 ∷ rest) (sign signs.OpenBrace ∷ ls)
unfolding opens goes_on sign_at sign_goes_on
open_brace_seen rest ls seen = alone_seen signs.OpenBrace 123 rest ls (omega arith) refl (λ c. refl) seen

pub close_brace_seen : (rest : List ℕ) (ls : List Lexeme) → IsSeen rest ls → IsSeen (125 ∷ rest) (sign signs.CloseBrace ∷ ls)
unfolding opens goes_on sign_at sign_goes_on
close_brace_seen rest ls seen = alone_seen signs.CloseBrace 125 rest ls (omega arith) refl (λ c. refl) seen

pub open_parenthesis_seen : (rest : List ℕ) (ls : List Lexeme) → IsSeen rest ls → IsSeen (40 ∷ rest) (sign signs.OpenParenthesis ∷ ls)
unfolding opens goes_on sign_at sign_goes_on
open_parenthesis_seen rest ls seen = alone_seen signs.OpenParenthesis 40 rest ls (omega arith) refl (λ c. refl) seen

pub close_parenthesis_seen : (rest : List ℕ) (ls : List Lexeme) → IsSeen rest ls → IsSeen (41 ∷ rest) (sign signs.CloseParenthesis ∷ ls)
unfolding opens goes_on sign_at sign_goes_on
close_parenthesis_seen rest ls seen = alone_seen signs.CloseParenthesis 41 rest ls (omega arith) refl (λ c. refl) seen

pub comma_seen : (rest : List ℕ) (ls : List Lexeme) → IsSeen rest ls → IsSeen (44 ∷ rest) (sign signs.Comma ∷ ls)
unfolding opens goes_on sign_at sign_goes_on
comma_seen rest ls seen = alone_seen signs.Comma 44 rest ls (omega arith) refl (λ c. refl) seen

pub semicolon_seen : (rest : List ℕ) (ls : List Lexeme) → IsSeen rest ls → IsSeen (59 ∷ rest) (sign signs.Semicolon ∷ ls)
unfolding opens goes_on sign_at sign_goes_on
semicolon_seen rest ls seen = alone_seen signs.Semicolon 59 rest ls (omega arith) refl (λ c. refl) seen

pub minus_seen : (rest : List ℕ) (ls : List Lexeme) → IsSeen rest ls → IsSeen (45 ∷ rest) (sign signs.Minus ∷ ls)
unfolding opens goes_on sign_at sign_goes_on
minus_seen rest ls seen = alone_seen signs.Minus 45 rest ls (omega arith) refl (λ c. refl) seen

-- ---- lexemes between signs

pub between_braces : (rest : List ℕ) (xs ls : List Lexeme) → IsSeen rest (xs ++ (sign signs.CloseBrace ∷ ls)) → IsSeen (123 ∷ rest) (with_braces xs ++ ls)
between_braces rest xs ls seen =
    seen_same (123 ∷ rest) (123 ∷ rest) (with_braces xs ++ ls) (sign signs.OpenBrace ∷ (xs ++ (sign signs.CloseBrace ∷ ls)))
    refl (ap (λ r. sign signs.OpenBrace ∷ r) (append_assoc xs (sign signs.CloseBrace ∷ []) ls)) (open_brace_seen rest (xs ++ (sign signs.CloseBrace ∷ ls)) seen)

pub between_parentheses : (rest : List ℕ) (xs ls : List Lexeme) → IsSeen rest (xs ++ (sign signs.CloseParenthesis ∷ ls)) → IsSeen (40 ∷ rest) (with_parentheses xs ++ ls)
between_parentheses rest xs ls seen =
    seen_same (40 ∷ rest) (40 ∷ rest) (with_parentheses xs ++ ls) (sign signs.OpenParenthesis ∷ (xs ++ (sign signs.CloseParenthesis ∷ ls)))
    refl (ap (λ r. sign signs.OpenParenthesis ∷ r) (append_assoc xs (sign signs.CloseParenthesis ∷ []) ls)) (open_parenthesis_seen rest (xs ++ (sign signs.CloseParenthesis ∷ ls)) seen)
