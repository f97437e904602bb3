use Rattle.td_eval.proofs.law_lemmas.SpelledNumbers.{spelled_numbers_are_in_range}
use Rattle.td_eval.proofs.laws.spelled_numbers_are_in_range.Goals as goal

pub returns : goal.returns
returns c = spelled_numbers_are_in_range
