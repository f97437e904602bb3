-- How far a cutter has read the first statement, and what it found of it.
use Rattle.std.specs.Prelude.{◌≡◌, ◌==◌, ◌+◌, ◌-◌, ◌<◌, ◌≤◌, ◌^◌, ◌∷◌, ◌++◌, ◌||◌, [], ℕ, Bool, IfSome, List}
use Rattle.std.specs.Prelude.{None, Option, Some, drop, false, if◌then◌else◌, length, take, true}
use Rattle.std.specs.List.{list_any}
use Rattle.td_scan.specs.declared.front.FirstToken.{FirstToken}
use Rattle.td_scan.specs.declared.piece.First.{First}
use Rattle.td_scan.specs.declared.reading.Reading.{Reading}
use Rattle.td_scan.specs.code.Fronts.{end_from, first_end}
use Rattle.td_tree.specs.declared.piece.Piece.{Piece}
use Rattle.td_tree.specs.declared.piece.Piece.TheVariants as pieces_are
use Rattle.td_tree.specs.declared.token.Kind.{Kind}
use Rattle.td_tree.specs.declared.token.Kind.TheVariants as kinds
use Rattle.td_tree.specs.declared.token.Sign.{Sign}
use Rattle.td_tree.specs.declared.token.Sign.TheVariants as signs
use Rattle.td_tree.specs.model.Division.{up_to}
use Rattle.td_tree.specs.model.Pieces.{opens, sign_goes_on, word_kind}
use Rattle.td_tree.specs.model.Statements.{Held, PlacedToken, behind, end_of, ends, first_statement, is_end, tokens}
use Rattle.td_tree.specs.model.Symbols.{Symbol, symbols}

-- where the first statement of what is left ends, the last token so far at `so_far`
abbrev pub end_of_statement : Bool → ℕ → ℕ → List PlacedToken → ℕ
end_of_statement finished none so_far [] = if finished then so_far else none
end_of_statement finished none so_far (t ∷ ts) =
    if ends t then t.stop else end_of_statement finished none t.stop ts

abbrev pub is_bad_kind : Kind → Bool
is_bad_kind kinds.Bad = true
is_bad_kind _ = false

-- a token that is bad
abbrev pub is_bad_token : PlacedToken → Bool
is_bad_token t = is_bad_kind t.kind

-- ---- pieces

-- a `;`
abbrev pub is_end_piece : Piece → Bool
is_end_piece (pieces_are.Sign signs.Semicolon) = true
is_end_piece _ = false

-- how many bytes of a piece were read
abbrev pub read_of : Option First → ℕ
read_of None = 0
read_of (Some f) = f.length

-- how the piece ends that was read so far, and then these symbols
abbrev pub end_after : Option First → List Symbol → ℕ × Piece
end_after None ss = first_end ss
end_after (Some f) ss = end_from f.length f.piece ss

-- so much of the first piece of the bytes was read, whatever follows them
pub record IsBegun (bytes : List ℕ) (begun : Option First) : Type 0 where
  pub some : IfSome begun (λ f. 0 < f.length)
  pub within : read_of begun ≤ length bytes
  pub same : (later : List ℕ)
      → end_after begun (symbols (drop (read_of begun) bytes ++ later))
      ≡ first_end (symbols (bytes ++ later))

-- the first piece of the bytes, whatever follows them
pub record IsFirst (bytes : List ℕ) (f : First) : Type 0 where
  pub some : 0 < f.length
  pub within : f.length ≤ length bytes
  pub same : (later : List ℕ) → first_end (symbols (bytes ++ later)) ≡ (f.length, f.piece)

-- ---- tokens

-- the token that so many bytes are which begin here
abbrev pub token_of_front : ℕ → List ℕ → FirstToken → PlacedToken
token_of_front at bytes t =
    record { kind = t.kind; text = take t.length bytes; start = at; stop = at + t.length }

-- the first piece of the bytes is this token, whatever follows them
pub record IsToken (bytes : List ℕ) (t : FirstToken) : Type 0 where
  pub some : 0 < t.length
  pub within : t.length ≤ length bytes
  pub same : (at : ℕ) (later : List ℕ)
      → tokens at (bytes ++ later)
      ≡ token_of_front at bytes t ∷ tokens (at + t.length) (drop t.length bytes ++ later)

-- the first piece of the bytes is a word of so many, whatever follows them
abbrev pub IsWord : List ℕ → ℕ → Type 0
IsWord bytes n = IsToken bytes (record { length = n; kind = word_kind (take n bytes) })

-- the first piece of the bytes is this token
pub record IsNext (bytes : List ℕ) (t : FirstToken) : Type 0 where
  pub some : 0 < t.length
  pub within : t.length ≤ length bytes
  pub same : (at : ℕ)
      → tokens at bytes ≡ token_of_front at bytes t ∷ tokens (at + t.length) (drop t.length bytes)

-- so many bytes at the front are no token
pub record IsNoToken (bytes : List ℕ) (n : ℕ) : Type 0 where
  pub some : 0 < n
  pub within : n ≤ length bytes
  pub same : (at : ℕ) → tokens at bytes ≡ tokens (at + n) (drop n bytes)

-- so many bytes at the front are a token that is neither bad nor a `;`, whatever follows them
pub record IsOrdinary (bytes : List ℕ) (n : ℕ) : Type 0 where
  pub kind : Kind
  pub good : is_bad_kind kind ≡ false
  pub unended : is_end kind ≡ false
  pub token : IsToken bytes (record { length = n; kind = kind })

-- the sign that the byte is goes on with no symbol
pub record IsWholeSign (byte : ℕ) (sign : Sign) : Type 0 where
  pub ascii : byte < 128
  pub is : opens (Some byte) ≡ pieces_are.Sign sign
  pub ends : (c : Option ℕ) → sign_goes_on sign c ≡ None

-- ---- the reading of a statement

-- these are the tokens of the bytes up to a place, whatever follows them
pub record Passes (at : ℕ) (bytes : List ℕ) (ts : List PlacedToken) (to : ℕ) : Type 0 where
  pub from : at ≤ to
  pub within : to - at ≤ length bytes
  pub few : length ts ≤ to - at
  pub same : (later : List ℕ)
      → tokens at (bytes ++ later) ≡ ts ++ tokens to (drop (to - at) bytes ++ later)

-- a reading goes on over bytes that begin where it stood: none of the tokens is a `;` but the last
-- one, where the statement is whole
pub record GoesOn (old new : Reading) (bytes : List ℕ) : Type 0 where
  pub passed : List PlacedToken
  pub passes : Passes old.start bytes passed new.start
  pub count : new.count ≡ old.count + length passed
  pub bad : new.is_bad ≡ (old.is_bad || list_any is_bad_token passed)
  pub unended : new.is_whole ≡ false → up_to ends passed ≡ None
  pub whole : new.is_whole ≡ true
      → (up_to ends passed ≡ Some passed) × (end_of old.start passed ≡ new.start)
  pub begun : IsBegun (drop (new.start - old.start) bytes) new.begun

-- a statement of which nothing was read
abbrev pub unread : ℕ → Reading
unread at = record { count = 0; is_bad = false; is_whole = false; start = at; begun = None }

-- the reading once a token of a kind was read, behind which it stands
abbrev pub past_token : Reading → Kind → ℕ → Reading
past_token r kind start =
    record {
      count = r.count + 1;
      is_bad = r.is_bad || is_bad_kind kind;
      is_whole = is_end kind;
      start = start;
      begun = None;
    }

-- so far the first statement of the bytes was read
pub record Keeps (bytes : List ℕ) (at : ℕ) (r : Reading) : Type 0 where
  pub room : at + length bytes < 2 ^ 64
  pub read : GoesOn (unread at) r bytes

-- no `;` stands in the bytes behind so much of their first piece, nor is this one
pub record IsWithoutEnd (begun : Option First) (bytes : List ℕ) : Type 0 where
  pub other : IfSome begun (λ f. is_end_piece f.piece ≡ false)
  pub none : list_any (λ b. b == 59) (drop (read_of begun) bytes) ≡ false

-- so far the first statement was read, and a `;` stands behind that where it may
pub record IsHeld (bytes : List ℕ) (at : ℕ) (r : Reading) (may_end : Bool) : Type 0 where
  pub keeps : Keeps bytes at r
  pub none : may_end ≡ false → IsWithoutEnd r.begun (drop (r.start - at) bytes)

-- ---- a statement that is whole

-- so many tokens are left, of which the first stands at the front
pub record AreUpcoming (bytes : List ℕ) (at left : ℕ) (first : FirstToken) : Type 0 where
  pub room : at + length bytes < 2 ^ 64
  pub few : left < 2 ^ 32
  pub enough : left ≤ length (tokens at bytes)
  pub next : 0 < left → IsNext bytes first

-- these are the tokens of the first statement, which ends there
pub record IsFirstStatement (h : Held) (ts : List PlacedToken) (has_bad : Bool) (to : ℕ) : Type 0 where
  pub are : first_statement h ≡ Some ts
  pub bad : has_bad ≡ list_any is_bad_token ts
  pub end : to ≡ behind h
