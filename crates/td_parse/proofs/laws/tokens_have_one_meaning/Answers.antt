use Rattle.td_parse.proofs.Parsed.{one_meaning}
use Rattle.td_parse.proofs.laws.tokens_have_one_meaning.Goals as goal

pub returns : goal.returns
returns c = one_meaning
