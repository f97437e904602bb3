use Rattle.td_parse.specs.code.Reading.{read}
use Rattle.td_parse.proofs.Walks.{walked_is}
use Rattle.td_parse.proofs.grammar.Grammar.by_level.Goals as goal

pub returns-in_default : goal.returns-in_default
returns-in_default g c = rw (walked_is (read c.args.self.now.depth) c.args.self.now.depth c.args.level c.args.tokens.now c.in_default.not-Binding c.in_default.not-Prefixed c.in_default.not-Postfixed c.in_default.not-Primary) c.infix_expression.ensures
