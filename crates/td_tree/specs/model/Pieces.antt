-- The pieces of a script: how one begins, how it goes on, and what it is (this project's own).
use Rattle.std.specs.Prelude.{ℕ, Bool, false, ◌||◌, ◌==◌, if◌then◌else◌, List, Option, Some, None, option_and_then}
use Rattle.std.specs.Char.{is_ascii_digit}
use Rattle.std.specs.Str.{is_utf8}
use Rattle.td_tree.specs.declared.keyword.Keyword.{Keyword}
use Rattle.td_tree.specs.declared.piece.Piece.{Piece}
use Rattle.td_tree.specs.declared.piece.Piece.TheVariants.{Blank, Word, Number, Bar, OpenText, Text, LineComment, OpenComment, StarredComment, Comment, Bad}
use Rattle.td_tree.specs.declared.piece.Piece.TheVariants as pieces_are
use Rattle.td_tree.specs.declared.token.Kind.{Kind}
use Rattle.td_tree.specs.declared.token.Kind.TheVariants as kinds
use Rattle.td_tree.specs.declared.token.Sign.{Sign}
use Rattle.td_tree.specs.declared.token.Sign.TheVariants as signs
use Rattle.td_tree.specs.model.Division as division
use Rattle.td_tree.specs.model.Keywords.{keyword_of}
use Rattle.td_tree.specs.model.Names.{begins_the, is_word_start, is_word_more}
use Rattle.td_tree.specs.model.Symbols.{Symbol, symbols, spell}

-- space, tab, carriage return, line feed, byte order mark
abbrev pub is_blank : ℕ → Bool
is_blank c = (c == 32) || (c == 9) || (c == 13) || (c == 10) || (c == 65279)

-- a byte that begins no character passes no test
abbrev pub passes : (ℕ → Bool) → Option ℕ → Bool
passes test None = false
passes test (Some c) = test c

-- whether the symbol is this character
abbrev pub is_character : ℕ → Option ℕ → Bool
is_character k = passes (λ c. c == k)

-- the sign that the character is by itself
unfoldable pub sign_at : ℕ → Option Sign
sign_at c =
    if c == 123 then Some signs.OpenBrace else (if c == 125 then Some signs.CloseBrace
    else (if c == 40 then Some signs.OpenParenthesis
    else (if c == 41 then Some signs.CloseParenthesis
    else (if c == 44 then Some signs.Comma else (if c == 59 then Some signs.Semicolon
    else (if c == 58 then Some signs.Colon else (if c == 61 then Some signs.Equal
    else (if c == 60 then Some signs.Less else (if c == 62 then Some signs.Greater
    else (if c == 43 then Some signs.Plus else (if c == 45 then Some signs.Minus
    else (if c == 42 then Some signs.Times
    else (if c == 47 then Some signs.Divide else None)))))))))))))

-- the piece that begins with a sign and goes on with the symbol: a longer sign, or a comment
unfoldable pub sign_goes_on : Sign → Option ℕ → Option Piece
sign_goes_on signs.Colon c = if is_character 61 c then Some (pieces_are.Sign signs.Assign) else None
sign_goes_on signs.Less c =
    if is_character 61 c then Some (pieces_are.Sign signs.LessOrEqual)
    else (if is_character 62 c then Some (pieces_are.Sign signs.NotEqual) else None)
sign_goes_on signs.Greater c =
    if is_character 61 c then Some (pieces_are.Sign signs.GreaterOrEqual) else None
sign_goes_on signs.Divide c =
    if is_character 47 c then Some LineComment
    else (if is_character 42 c then Some OpenComment else None)
sign_goes_on _ c = None

-- a sign, else a word, or what begins no other piece
abbrev pub sign_or_word : Option Sign → Bool → Piece
sign_or_word (Some sign) starts = pieces_are.Sign sign
sign_or_word None starts = if starts then Word else Bad

-- the piece that a symbol begins, by its character; None is a byte that begins none
unfoldable pub opens : Option ℕ → Piece
opens None = Bad
opens (Some c) =
    if is_blank c then Blank else (if is_ascii_digit c then Number
    else (if c == 39 then OpenText else (if c == 124 then Bar
    else sign_or_word (sign_at c) (is_word_start c))))

-- the piece with one more symbol; None where it does not go on
unfoldable pub goes_on : Piece → Option ℕ → Option Piece
goes_on Word c = if passes is_word_more c then Some Word else None
goes_on Number c = if passes is_ascii_digit c then Some Number else None
goes_on (pieces_are.Sign sign) c = sign_goes_on sign c
goes_on Bar c = if is_character 124 c then Some (pieces_are.Sign signs.Concatenate) else None
goes_on OpenText c = Some (if is_character 39 c then Text else OpenText)
goes_on Text c = if is_character 39 c then Some OpenText else None
goes_on LineComment c = if is_character 10 c then None else Some LineComment
goes_on OpenComment c = Some (if is_character 42 c then StarredComment else OpenComment)
goes_on StarredComment c =
    Some (if is_character 47 c then Comment
    else (if is_character 42 c then StarredComment else OpenComment))
goes_on Blank c = None
goes_on Comment c = None
goes_on Bad c = None

-- a reserved word, a THE word, else a name
abbrev pub word_kind_of : Option Keyword → Bool → Kind
word_kind_of (Some keyword) the = kinds.Reserved keyword
word_kind_of None the = if the then kinds.Component else kinds.Name

-- what a word is, by its bytes
unfoldable pub word_kind : List ℕ → Kind
word_kind text = word_kind_of (keyword_of text) (begins_the text)

-- what a text in quotes is, by its bytes
abbrev pub text_kind : List ℕ → Kind
text_kind text = if is_utf8 text then kinds.Text else kinds.Bad

-- what a piece with these bytes is; None for a blank or a comment, which are no tokens
abbrev pub kind_after : Piece → List ℕ → Option Kind
kind_after Blank text = None
kind_after LineComment text = None
kind_after Comment text = None
kind_after Word text = Some (word_kind text)
kind_after Number text = Some kinds.Number
kind_after (pieces_are.Sign sign) text = Some (kinds.Sign sign)
kind_after Text text = Some (text_kind text)
kind_after Bar text = Some kinds.Bad
kind_after OpenText text = Some kinds.Bad
kind_after OpenComment text = Some kinds.Bad
kind_after StarredComment text = Some kinds.Bad
kind_after Bad text = Some kinds.Bad

-- the machine over symbols: it asks their characters alone
abbrev pub begins : Symbol → Piece
begins s = opens s.character

-- the piece with one more symbol
abbrev pub continues : Piece → Symbol → Option Piece
continues piece s = goes_on piece s.character

-- the pieces of the bytes, divided from the left
abbrev pub pieces : List ℕ → List (List Symbol)
pieces bytes = division.divide begins continues (symbols bytes)

-- how the machine leaves these symbols; None where they are no piece
abbrev pub state : List Symbol → Option Piece
state = division.state begins continues

-- what a piece is; None for a blank or a comment
abbrev pub kind_of : List Symbol → Option Kind
kind_of p = option_and_then (λ piece. kind_after piece (spell p)) (state p)
