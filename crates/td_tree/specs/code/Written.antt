-- What a printer has written of a list of lexemes.
use Rattle.std.specs.Prelude.{◌≡◌, ℕ, Bool, true, false, List, [], ◌∷◌, ◌++◌, IfOk, Result, codes}
use Rattle.std.specs.List.{flat_map}
use Rattle.td_tree.specs.declared.token.Sign.TheVariants as signs
use Rattle.td_tree.specs.model.Lexemes.{Lexeme, sign, printed_text}

-- each lexeme with a space behind it
abbrev pub written_text : List Lexeme → List ℕ
written_text = flat_map (λ (l : Lexeme). printed_text l ++ codes " ")

-- if there was memory, these lexemes were written behind what stood there (own)
abbrev pub Writes : {E : Type 0} → List ℕ → Result (List ℕ) E → List Lexeme → Type 0
Writes before result ls = IfOk result (λ out. out ≡ before ++ written_text ls)

-- what stands before an item: a comma where another item stands before it
abbrev pub comma_lexeme_if : Bool → List Lexeme
comma_lexeme_if true = sign signs.Comma ∷ []
comma_lexeme_if false = []

-- what stands between the quotes: two quotes before a piece that another stands before
abbrev pub quotes_if : Bool → List ℕ
quotes_if true = codes "''"
quotes_if false = []
