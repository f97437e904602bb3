use Rattle.td_scan.proofs.FirstLaws.{tokens_of_first}
use Rattle.td_scan.proofs.piece.first_piece.Goals as goal

pub returns-clause-tokens : goal.returns-clause-tokens
returns-clause-tokens c = tokens_of_first c.args.bytes.now (c.measure.result.length, c.measure.result.piece) c.requires c.measure.ensures.is c.measure.ensures.within
