-- Texts of which no two neighbours could be one piece are the pieces of what they make.
use Rattle.std.proofs.Common.{◌≡◌, ℕ, ◌+◌, List, [], ◌∷◌, ◌++◌, length, refl, sym, ap, ◌∙◌, Option, Some, None, append-nil}
use Rattle.std.proofs.lemmas.List.{map-append}
use Rattle.td_tree.specs.declared.token.Kind.{Kind}
use Rattle.td_tree.specs.laws.Apart.{IsApart, TextsApartAreSeenEach, TextsApartAreThePieces, joined_texts}
use Rattle.td_tree.specs.model.Pieces.{kind_after}
use Rattle.td_tree.specs.model.Statements.{PlacedToken, token_of, tokens}
use Rattle.td_tree.specs.model.Symbols.{symbols}
use Rattle.td_tree.specs.model.TokenLexemes.{lexeme_of, lexemes}
use Rattle.td_tree.proofs.law_lemmas.ApartLaws.{EndsBefore, ends_at_end, next_piece, next_token}
use Rattle.td_tree.proofs.law_lemmas.CharacterLaws.{symbols-append_utf8}

first_ends : (t rest : List ℕ) (a : IsApart t rest) → EndsBefore a.piece t rest
first_ends t rest a = record { is = a.is; parted = symbols-append_utf8 t rest a.utf8; ends = a.ends }

pub are_the_pieces : TextsApartAreThePieces
are_the_pieces [] apart = refl
are_the_pieces (t ∷ ts) apart =
    next_piece apart.0.piece t (joined_texts ts) (first_ends t (joined_texts ts) apart.0) ∙ ap (λ r. symbols t ∷ r) (are_the_pieces ts apart.1)

-- what is seen of a token does not depend on where it stands
same_anywhere : (k : Option Kind) (at from : ℕ) (t : List ℕ) → lexemes (token_of k at t) ≡ lexemes (token_of k from t)
same_anywhere None at from t = refl
same_anywhere (Some kind) at from t = refl

lexemes-append : (xs ys : List PlacedToken) → lexemes (xs ++ ys) ≡ lexemes xs ++ lexemes ys
lexemes-append xs ys = map-append (λ (token : PlacedToken). lexeme_of token.kind token.text) xs ys

alone : (t rest : List ℕ) (a : IsApart t rest) → lexemes (tokens 0 t) ≡ lexemes (token_of (kind_after a.piece t) 0 t)
unfolding tokens
alone t rest a =
    ap (λ b. lexemes (tokens 0 b)) (sym (append-nil t))
    ∙ ap lexemes (next_token a.piece t [] 0 (ends_at_end t a.piece a.is))
    ∙ ap lexemes (append-nil (token_of (kind_after a.piece t) 0 t))

pub are_seen_each : TextsApartAreSeenEach
unfolding tokens
are_seen_each at [] apart = refl
are_seen_each at (t ∷ ts) apart =
    let a = apart.0 in
    let front : List PlacedToken = token_of (kind_after a.piece t) at t in
    ap lexemes (next_token a.piece t (joined_texts ts) at (first_ends t (joined_texts ts) a))
    ∙ lexemes-append front (tokens (at + length t) (joined_texts ts))
    ∙ ap (λ xs. xs ++ lexemes (tokens (at + length t) (joined_texts ts))) (same_anywhere (kind_after a.piece t) at 0 t ∙ sym (alone t (joined_texts ts) a))
    ∙ ap (λ r. lexemes (tokens 0 t) ++ r) (are_seen_each (at + length t) ts apart.1)
