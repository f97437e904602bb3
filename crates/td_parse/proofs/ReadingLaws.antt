-- Reading gives the tree of what is spelled, and of nothing else.
use Rattle.std.proofs.Common.{◌≡◌, ◌≤◌, ◌↔◌, List, Some, refl}
use Rattle.td_tree.specs.model.Grammar.{IsExpression, Spelling, height_limit, loosest}
use Rattle.td_tree.specs.model.Heights.{height}
use Rattle.td_tree.specs.model.Lexemes.{Lexeme}
use Rattle.td_parse.specs.code.ReadingStatements.{read_statement, read_expression}
use Rattle.td_tree.specs.model.StatementGrammar.{StatementSpelling}
use Rattle.td_tree.specs.model.Trees.{Statement, Tree}
use Rattle.td_parse.proofs.AgainStatements.{statement_again}
use Rattle.td_parse.proofs.OneTree.{expression_again}
use Rattle.td_parse.proofs.SoundStatements.{statement_sound, whole_sound}

pub reads_statements : (xs : List Lexeme) (t : Statement) → (read_statement xs ≡ Some t) ↔ StatementSpelling xs t
reads_statements xs t = (statement_sound xs t, λ p. statement_again p)

pub spelled_is_read : (xs : List Lexeme) (t : Tree) → IsExpression loosest xs t → read_expression xs ≡ Some t
unfolding read_expression
spelled_is_read xs t p = rw (expression_again loosest xs t p) refl

pub read_is_spelled : (xs : List Lexeme) (t : Tree) → read_expression xs ≡ Some t → Spelling loosest xs t
read_is_spelled xs t e =
    let p = whole_sound xs t e in
    p.spelled

pub read_is_low : (xs : List Lexeme) (t : Tree) → read_expression xs ≡ Some t → height t ≤ height_limit
read_is_low xs t e =
    let p = whole_sound xs t e in
    p.low
