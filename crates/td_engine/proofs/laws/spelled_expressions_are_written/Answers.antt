use Rattle.td_engine.proofs.law_lemmas.WrittenSpellings.{of_tokens, written}
use Rattle.td_engine.proofs.laws.spelled_expressions_are_written.Goals as goal

pub returns : goal.returns
returns c = λ tokens e p. written p.spelled (of_tokens tokens)
