use Rattle.td_tree.proofs.code_lemmas.Rows.{select_is}
use Rattle.td_parse.proofs.found.selector_call.Goals as goal

pub returns : goal.returns
returns c = select_is c.args.ty c.args.arguments
