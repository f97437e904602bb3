-- The tokens and statements of a script (this project's own).
use Rattle.std.specs.Prelude.{◌≡◌, ◌<◌, ℕ, ◌+◌, ◌-◌, Bool, true, false, if◌then◌else◌, List, [], ◌∷◌, ◌++◌, length, drop, Option, Some, None}
use Rattle.td_tree.specs.declared.token.Kind.{Kind}
use Rattle.td_tree.specs.declared.token.Kind.TheVariants as kinds
use Rattle.td_tree.specs.declared.token.Sign.TheVariants as signs
use Rattle.td_tree.specs.model.Division.{up_to}
use Rattle.td_tree.specs.model.Pieces.{pieces, kind_of}
use Rattle.td_tree.specs.model.Symbols.{Symbol, spell}

-- a token: what it is, its bytes, and where they begin and end in the script
pub record PlacedToken : Type 0 where
  pub kind : Kind
  pub text : List ℕ
  pub start : ℕ
  pub stop : ℕ

-- the token that a piece is, if it is one
abbrev pub token_of : Option Kind → ℕ → List ℕ → List PlacedToken
token_of None at text = []
token_of (Some kind) at text =
    record { kind = kind; text = text; start = at; stop = at + length text } ∷ []

-- the tokens among these pieces, which begin at this offset
abbrev pub tokens_from : ℕ → List (List Symbol) → List PlacedToken
tokens_from at [] = []
tokens_from at (p ∷ ps) =
    token_of (kind_of p) at (spell p) ++ tokens_from (at + length (spell p)) ps

-- the tokens of these bytes, which begin at this offset of a script
unfoldable pub tokens : ℕ → List ℕ → List PlacedToken
tokens at bytes = tokens_from at (pieces bytes)

-- what ends a statement is a `;`
abbrev pub is_end : Kind → Bool
is_end (kinds.Sign signs.Semicolon) = true
is_end _ = false

-- a `;`
abbrev pub ends : PlacedToken → Bool
ends token = is_end token.kind

-- a token that is no `;`, before the statements of what follows it
abbrev pub put : PlacedToken → List (List PlacedToken) → List (List PlacedToken)
put token [] = (token ∷ []) ∷ []
put token (s ∷ ss) = (token ∷ s) ∷ ss

-- the statements of these tokens: each up to and with a `;`; the tokens left after the last are one
-- more
abbrev pub split : List PlacedToken → List (List PlacedToken)
split [] = []
split (token ∷ rest) = if ends token then (token ∷ []) ∷ split rest else put token (split rest)

-- only its last token is a `;`
abbrev pub IsEnded : List PlacedToken → Type 0
IsEnded statement = up_to ends statement ≡ Some statement

-- there is a token, and none is a `;`
pub record IsUnended (statement : List PlacedToken) : Type 0 where
  pub some : 0 < length statement
  pub none : up_to ends statement ≡ None

-- the statements of these bytes, which begin at this offset of a script
unfoldable pub statements : ℕ → List ℕ → List (List PlacedToken)
statements at bytes = split (tokens at bytes)

-- the statement that the first `;` ends
abbrev pub first_ended : ℕ → List ℕ → Option (List PlacedToken)
first_ended at bytes = up_to ends (tokens at bytes)

-- what a cutter holds: the bytes that were fed and not yet taken off, where they begin, and whether
-- all were fed
pub record Held : Type 0 where
  pub bytes : List ℕ
  pub offset : ℕ
  pub finished : Bool

-- the first statement: up to a `;`; where all was fed, also all the tokens, if there are any
abbrev pub statement_or_rest : Bool → List PlacedToken → Option (List PlacedToken) → Option (List PlacedToken)
statement_or_rest finished all (Some first) = Some first
statement_or_rest finished [] None = None
statement_or_rest finished (token ∷ rest) None = if finished then Some (token ∷ rest) else None

-- the first statement: up to the first `;`; where all was fed also the tokens left
unfoldable pub first_statement : Held → Option (List PlacedToken)
first_statement h = statement_or_rest h.finished (tokens h.offset h.bytes) (first_ended h.offset h.bytes)

-- where the last of the tokens ends; the offset where there is none
abbrev pub end_of : ℕ → List PlacedToken → ℕ
end_of at [] = at
end_of at (token ∷ rest) = end_of token.stop rest

-- where the statement ends, if there is one
abbrev pub end_of_first : ℕ → Option (List PlacedToken) → ℕ
end_of_first at None = at
end_of_first at (Some first) = end_of at first

-- where the first statement ends; the offset where there is none
unfoldable pub behind : Held → ℕ
behind h = end_of_first h.offset (first_statement h)

-- what is held once the bytes up to the end of the first statement are taken off
abbrev pub after : Held → Held
after h =
    record { bytes = drop (behind h - h.offset) h.bytes; offset = behind h; finished = h.finished }
