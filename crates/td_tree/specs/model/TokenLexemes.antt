-- What the grammar sees of the tokens of a script (this project's own).
use Rattle.std.specs.Prelude.{ℕ, Bool, ◌&&◌, ◌==◌, List, drop, map, if◌then◌else◌}
use Rattle.std.specs.Char.{is_ascii_digit}
use Rattle.std.specs.List.{list_all}
use Rattle.std.specs.Str.{chars, is_utf8}
use lib.Pointwise.{pointwise}
use Rattle.td_tree.specs.model.Lexemes.{Lexeme, keyword, sign, name, component, number, text, bad}
use Rattle.td_tree.specs.model.Names.{is_name, is_word, begins_the}
use Rattle.td_tree.specs.model.Numbers.{decimal_value}
use Rattle.td_tree.specs.model.Statements.{PlacedToken}
use Rattle.td_tree.specs.model.TextTokens.{text_in_quotes, content}
use Rattle.td_tree.specs.declared.token.Kind.{Kind}
use Rattle.td_tree.specs.declared.token.Kind.TheVariants as kinds

-- a word that begins with THE_ in any ASCII case
abbrev pub is_the_word : List ℕ → Bool
is_the_word t = is_utf8 t && is_word (chars t) && begins_the t

-- a text in quotes that says UTF-8
abbrev pub is_quoted_text : List ℕ → Bool
is_quoted_text t = is_utf8 (content t) && pointwise ◌==◌ (text_in_quotes (content t)) t

-- a token of this kind with these bytes; bad where they are no token of this kind
abbrev pub lexeme_of : Kind → List ℕ → Lexeme
lexeme_of (kinds.Reserved k) t = keyword k
lexeme_of kinds.Component t = if is_the_word t then component (drop 4 t) else bad
lexeme_of kinds.Name t = if is_utf8 t && is_name t then name t else bad
lexeme_of kinds.Number t = if list_all is_ascii_digit t then number (decimal_value t) else bad
lexeme_of kinds.Text t = if is_quoted_text t then text (content t) else bad
lexeme_of (kinds.Sign s) t = sign s
lexeme_of kinds.Bad t = bad

abbrev pub lexemes : List PlacedToken → List Lexeme
lexemes = map (λ (token : PlacedToken). lexeme_of token.kind token.text)
