-- The statements of transactions as the code tells them, and the code of a state (this project's own).
use Rattle.std.specs.Prelude.{List, refl}
use Rattle.std.specs.Coded.{Coded, code_by, coded×, coded_list}
use Rattle.td_catalog.specs.model.Database.{Database}
use Rattle.td_catalog.specs.code.DatabaseCode.{database_code}
use Rattle.td_engine.specs.model.Machine.{State, state_of}
use Rattle.td_engine.specs.declared.transaction.Transaction.{Transaction}
use Rattle.td_engine.specs.declared.transaction.Transaction.TheVariants as transactions
use Rattle.td_tree.specs.model.Trees.{Statement, begin_transaction, commit, rollback}

abbrev pub transaction_view : Transaction → Statement
transaction_view transactions.Begin = begin_transaction
transaction_view transactions.Commit = commit
transaction_view transactions.Rollback = rollback

-- the code that a Model asks for
abbrev pub state_code : Coded State
state_code =
    code_by (Database × List Database) (coded× database_code (coded_list database_code)) (λ s. (s.database, s.kept)) (λ p. state_of p.0 p.1)
    (λ _. refl)
