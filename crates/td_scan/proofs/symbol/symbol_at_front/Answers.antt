use Rattle.td_tree.proofs.law_lemmas.SymbolLaws.{front_ascii}
use Rattle.td_scan.proofs.symbol.symbol_at_front.Goals as goal

pub returns-then-first-lt128-clause-step : goal.returns-then-first-lt128-clause-step
returns-then-first-lt128-clause-step c = front_ascii c.args.bytes.now c.requires c.if-first-lt128.true
