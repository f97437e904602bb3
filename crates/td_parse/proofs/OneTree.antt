-- No lexemes spell two trees.
use Rattle.std.proofs.Common.{◌≡◌, ℕ, ◌+◌, ◌≤◌, List, [], Option, Some, sym, ap, ◌∙◌, arith}
use Rattle.std.proofs.lemmas.List.{append-nil}
use Rattle.td_tree.specs.declared.operator.Level.{Level}
use Rattle.td_tree.specs.model.Grammar.{TypeSpelling, IsExpression, height_limit}
use Rattle.td_tree.specs.model.Heights.{type_height}
use Rattle.td_tree.specs.model.Lexemes.{Lexeme}
use Rattle.td_parse.specs.code.Reading.{read}
use Rattle.td_parse.specs.code.ReadingSteps.{ReadOf}
use Rattle.td_parse.specs.code.ReadingTypes.{read_type}
use Rattle.td_tree.specs.model.Trees.{TypeTree, Tree, Statement}
use Rattle.td_tree.specs.model.StatementGrammar.{StatementSpelling}
use Rattle.td_parse.proofs.Again.{again_from}
use Rattle.td_parse.proofs.AgainSpelled.{reads}
use Rattle.td_parse.proofs.AgainStatements.{statement_again}
use Rattle.td_parse.proofs.AgainTypes.{type_reads}
use Rattle.td_parse.proofs.Stops.{nothing_stops}

abbrev found : {A : Type 0} → A → ReadOf A
found a = Some (a, [])

found_is : {A : Type 0} (a b : A) → found a ≡ found b → a ≡ b
found_is {A} a b e =
    let p : (a, []) ≡ (b, []) = cc in
    ap (λ (x : A × List Lexeme). x.0) p

-- ---- types

type_again : (xs : List Lexeme) (t : TypeTree) (d : ℕ) → TypeSpelling xs t → type_height t ≤ d → read_type d xs ≡ found t
type_again xs t d p lt = ap (read_type d) (sym (append-nil xs)) ∙ (type_reads p).reads d [] lt

pub one_type : (xs : List Lexeme) (a b : TypeTree) → TypeSpelling xs a → TypeSpelling xs b → a ≡ b
one_type xs a b p q =
    found_is a b (sym (type_again xs a (type_height a + type_height b) p (omega arith)) ∙ type_again xs b (type_height a + type_height b) q (omega arith))

-- ---- expressions

-- what is spelled is read, where nothing follows
pub expression_again : (level : Level) (xs : List Lexeme) (t : Tree) → IsExpression level xs t → read height_limit level xs ≡ found t
expression_again level xs t p = ap (read height_limit level) (sym (append-nil xs)) ∙ (again_from level xs t (reads p.spelled)).reads height_limit [] p.low (nothing_stops level)

pub one_expression : (level : Level) (xs : List Lexeme) (a b : Tree) → IsExpression level xs a → IsExpression level xs b → a ≡ b
one_expression level xs a b p q = found_is a b (sym (expression_again level xs a p) ∙ expression_again level xs b q)

-- ---- statements

-- a statement that is read
abbrev some : Statement → Option Statement
some t = Some t

statement_is : (a b : Statement) → some a ≡ some b → a ≡ b
statement_is a b e = cc

pub one_statement : (xs : List Lexeme) (a b : Statement) → StatementSpelling xs a → StatementSpelling xs b → a ≡ b
one_statement xs a b p q = statement_is a b (sym (statement_again p) ∙ statement_again q)
