use Rattle.td_tree.proofs.code_lemmas.Rows.{summarize_by_is}
use Rattle.td_parse.proofs.found.summarized_by.Goals as goal

pub returns : goal.returns
returns c = summarize_by_is c.args.operand c.args.by c.args.added
