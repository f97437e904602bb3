-- Bytes that are a token by themselves, and the tokens of a text in which boundaries stand between.
use Rattle.std.proofs.Common.{◌≡◌, ℕ, ◌+◌, List, [], ◌∷◌, ◌++◌, length, true, Some, None, refl, sym, ap, ◌∙◌, arith, append-nil}
use Rattle.td_tree.specs.model.Pieces.{goes_on, kind_after, opens, state}
use Rattle.td_tree.specs.model.Statements.{PlacedToken, token_of, tokens}
use Rattle.td_tree.specs.model.Symbols.{symbols}
use Rattle.td_tree.specs.declared.piece.Piece.{Piece}
use Rattle.td_tree.specs.declared.token.Kind.{Kind}
use Rattle.td_tree.proofs.law_lemmas.ApartLaws.{ends_alone, ends_bounded, next_token}
use Rattle.td_tree.proofs.law_lemmas.Boundaries.{IsBounded, is_boundary}

-- bytes that are a token of this kind by themselves, which a boundary ends
pub record Stands (t : List ℕ) (kind : Kind) : Type 0 where
  pub piece : Piece
  pub is : state (symbols t) ≡ Some piece
  pub ends : (b : ℕ) → is_boundary b ≡ true → goes_on piece (Some b) ≡ None
  pub kind_is : kind_after piece t ≡ Some kind

abbrev pub token_at : ℕ → List ℕ → Kind → PlacedToken
token_at at t kind = record { kind = kind; text = t; start = at; stop = at + length t }

-- such bytes before a boundary, or at the end, are the first token
pub token_before : (t rest : List ℕ) (kind : Kind) (at : ℕ) → Stands t kind → IsBounded rest → tokens at (t ++ rest) ≡ token_at at t kind ∷ tokens (at + length t) rest
token_before t rest kind at s bounded =
    next_token s.piece t rest at (ends_bounded t rest s.piece s.is s.ends bounded)
    ∙ ap (λ k. token_of k at t ++ tokens (at + length t) rest) s.kind_is

-- a space is no token
pub tokens_after_space : (rest : List ℕ) (at : ℕ) → tokens at (32 ∷ rest) ≡ tokens (at + 1) rest
unfolding opens goes_on
tokens_after_space rest at = next_token (opens (Some 32)) (32 ∷ []) rest at (ends_alone 32 rest (omega arith) (λ c. refl))

-- such bytes before a space are the first token
pub token_before_space : (t rest : List ℕ) (kind : Kind) (at : ℕ) → Stands t kind → tokens at (t ++ 32 ∷ rest) ≡ token_at at t kind ∷ tokens (at + length t + 1) rest
token_before_space t rest kind at s =
    token_before t (32 ∷ rest) kind at s refl ∙ ap (λ ts. token_at at t kind ∷ ts) (tokens_after_space rest (at + length t))

-- at the end they are the only one
pub last_token : (t : List ℕ) (kind : Kind) (at : ℕ) → Stands t kind → tokens at t ≡ token_at at t kind ∷ []
unfolding tokens
last_token t kind at s = ap (tokens at) (sym (append-nil t)) ∙ token_before t [] kind at s tt
