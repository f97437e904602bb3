-- What keeps a database legal: laws (Tutorial D's; what names and texts may be is this project's own).
use Rattle.std.specs.Prelude.{◌≡◌, ℕ, Bool, List}
use Rattle.td_catalog.specs.model.Database.{Database}
use Rattle.td_engine.specs.model.Machine.{Accepted, State, effect}
use Rattle.td_engine.specs.model.Legality.{IsLegal, IsLegalState, IsLegalThroughout}
use Rattle.td_tree.specs.model.StatementGrammar.{ExpressionItem, StatementSpelling}
use Rattle.td_tree.specs.model.Statements.{PlacedToken}
use Rattle.td_tree.specs.model.TokenLexemes.{lexemes}
use Rattle.td_tree.specs.model.Trees.{Statement, Tree}
use Rattle.td_tree.specs.model.WrittenTrees.{IsWritten}

-- in an expression that some tokens spell the names are names, and the texts are UTF-8
abbrev pub SpelledExpressionsAreWritten : Type 0
SpelledExpressionsAreWritten = (tokens : List PlacedToken) (e : Tree) → ExpressionItem (lexemes tokens) e → IsWritten e

-- some tokens spell the statement
abbrev pub IsSpelledStatement : Statement → Type 0
IsSpelledStatement s = (tokens : List PlacedToken) × StatementSpelling (lexemes tokens) s

-- what an accepted statement makes of a legal database is legal, where some tokens spell it
abbrev pub AcceptedStatementsKeepLegality : Type 0
AcceptedStatementsKeepLegality =
    (db new : Database) (s : Statement) (text : List ℕ) → IsLegal db → IsSpelledStatement s → effect db s ≡ Accepted new text → IsLegal new

-- from each legal state, in a transaction or not, a run keeps the state legal
abbrev pub RunsKeepLegality : Type 0
RunsKeepLegality = (stop : Bool) (s : State) → IsLegalState s → IsLegalThroughout stop s
