-- The signs of the language (this project's own list).
use Rattle.std.specs.Prelude.{ℕ, List, codes}
use Rattle.td_tree.specs.declared.token.Sign.{Sign}
use Rattle.td_tree.specs.declared.token.Sign.TheVariants.{Assign, NotEqual, LessOrEqual, GreaterOrEqual, Concatenate, OpenBrace, CloseBrace, OpenParenthesis, CloseParenthesis, Comma, Semicolon, Colon, Equal, Less, Greater, Plus, Minus, Times, Divide}

-- how a sign is spelled
abbrev pub sign_text : Sign → List ℕ
sign_text Assign = codes ":="
sign_text NotEqual = codes "<>"
sign_text LessOrEqual = codes "<="
sign_text GreaterOrEqual = codes ">="
sign_text Concatenate = codes "||"
sign_text OpenBrace = codes "{"
sign_text CloseBrace = codes "}"
sign_text OpenParenthesis = codes "("
sign_text CloseParenthesis = codes ")"
sign_text Comma = codes ","
sign_text Semicolon = codes ";"
sign_text Colon = codes ":"
sign_text Equal = codes "="
sign_text Less = codes "<"
sign_text Greater = codes ">"
sign_text Plus = codes "+"
sign_text Minus = codes "-"
sign_text Times = codes "*"
sign_text Divide = codes "/"
