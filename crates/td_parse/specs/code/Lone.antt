-- Literals and tuples that are expressions by themselves: what stands behind them goes on with no
-- operator.
use Rattle.std.specs.Prelude.{ℕ, Bool, true, false, List, [], ◌∷◌, Option, Some, None, nat_le, if◌then◌else◌}
use Rattle.td_tree.specs.declared.keyword.Keyword.TheVariants as k
use Rattle.td_tree.specs.declared.token.Sign.{Sign}
use Rattle.td_tree.specs.declared.token.Sign.TheVariants as signs
use Rattle.td_tree.specs.model.Lexemes.{Lexeme, keyword, sign}
use Rattle.td_tree.specs.model.Lexemes as lexeme
use Rattle.td_tree.specs.model.Numbers.{numeral_limit}
use Rattle.td_tree.specs.model.Trees as tree
use Rattle.td_tree.specs.model.Trees.{Literal}
use Rattle.td_parse.specs.code.ReadingOperators.{with_rest}
use Rattle.td_parse.specs.code.ReadingSteps.{◌>>=◌, ReadOf, expect}

-- ---- what stands behind

-- a sign that ends an expression among others
abbrev pub ends_expression : Sign → Bool
ends_expression signs.Comma = true
ends_expression signs.CloseParenthesis = true
ends_expression signs.CloseBrace = true
ends_expression _ = false

-- such a sign is next
unfoldable pub end_at : List Lexeme → Bool
end_at (sign s ∷ ts) = ends_expression s
end_at _ = false

-- ---- literals

-- a number in range
abbrev pub number_literal : Bool → ℕ → Option Literal
number_literal minus n = if nat_le n (numeral_limit minus) then Some (tree.number minus n) else None

-- the literal that is this lexeme
abbrev pub literal_of : Lexeme → Option Literal
literal_of (lexeme.number n) = number_literal false n
literal_of (lexeme.text said) = Some (tree.text said)
literal_of (keyword k.True) = Some (tree.truth true)
literal_of (keyword k.False) = Some (tree.truth false)
literal_of _ = None

-- the literal at the front, if it ends there
unfoldable pub lone_literal : List Lexeme → ReadOf Literal
lone_literal [] = None
lone_literal (x ∷ ts) = if end_at ts then with_rest ts (literal_of x) else None

-- ---- tuples

-- the lexemes behind TUPLE and '{', where both are next
unfoldable pub behind_tuple : List Lexeme → Option (List Lexeme)
behind_tuple ts = expect (keyword k.Tuple) ts >>= λ after. expect (sign signs.OpenBrace) after
