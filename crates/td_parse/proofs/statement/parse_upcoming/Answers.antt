use Rattle.std.proofs.Common.{◌∙◌, subst, sym}
use Rattle.td_tree.specs.code.TreeViews.{statement_view}
use Rattle.td_tree.specs.model.Outcomes.{Answers}
use Rattle.td_parse.specs.code.Parsing.{or_syntax}
use Rattle.td_parse.specs.code.ReadingStatements.{read_statement}
use Rattle.td_parse.proofs.NextTokens.{told_bad}
use Rattle.td_parse.proofs.Parsed.{parsed_from, scanned}
use Rattle.td_parse.proofs.statement.parse_upcoming.Goals as goal

pub returns-then-has_bad : goal.returns-then-has_bad
returns-then-has_bad c = scanned c.args.tokens (told_bad c.args.tokens ∙ sym c.requires ∙ c.if-has_bad.true)

pub returns : goal.returns
returns c =
    parsed_from c.args.tokens c.statement_of_all.result (told_bad c.args.tokens ∙ sym c.requires ∙ c.if-has_bad.false)
    (subst (λ ts. Answers statement_view c.statement_of_all.result (or_syntax (read_statement ts))) c.of_statement-tokens.ensures c.statement_of_all.ensures)
