use Rattle.std.proofs.Common.{rules}
use Rattle.td_eval.proofs.code_lemmas.OpHeadings.{given_where}
use Rattle.td_group.specs.model.Closure.{closure}
use Rattle.td_eval.proofs.operators.unnesting.closure_value.Goals as goal

pub returns : goal.returns
returns c = given_where _ (closure c.args.rel.now) _ (search rules) (c.as_value.ensures (closure c.args.rel.now) c.tclose.ensures)
