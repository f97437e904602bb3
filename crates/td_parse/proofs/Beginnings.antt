-- What is read where no reserved word comes first.
use Rattle.std.proofs.Common.{◌≡◌, List, [], ◌∷◌, true, refl, Some}
use Rattle.td_tree.specs.model.Lexemes as lexeme
use Rattle.td_tree.specs.model.Lexemes.{Lexeme}
use Rattle.td_parse.specs.code.Reading.{read_postfix}
use Rattle.td_parse.specs.code.ReadingStatements.{assignments, body}
use Rattle.td_parse.specs.code.ReadingSteps.{◌>>=◌, attribute_list}
use Rattle.td_tree.specs.model.Trees as tree
use Rattle.td_parse.specs.code.Parsing.{begins_otherwise}

pub projection : (ts : List Lexeme) → begins_otherwise ts ≡ true → read_postfix ts ≡ attribute_list ts >>= λ x. Some (tree.project x.0, x.1)
unfolding read_postfix
projection [] e = refl
projection (lexeme.keyword w ∷ ts) e = absurd cc
projection (x ∷ ts) e = refl

pub assignments_alone : (ts : List Lexeme) → begins_otherwise ts ≡ true → body ts ≡ assignments ts
unfolding body
assignments_alone [] e = refl
assignments_alone (lexeme.keyword w ∷ ts) e = absurd cc
assignments_alone (x ∷ ts) e = refl
