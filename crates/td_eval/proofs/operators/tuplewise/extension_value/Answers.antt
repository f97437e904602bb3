use Rattle.td_algebra.specs.model.Operators.{extended_relation}
use Rattle.td_eval.proofs.operators.tuplewise.extension_value.Goals as goal

pub returns : goal.returns
returns c = λ additions h. c.as_value.ensures (extended_relation additions c.args.operand.now) (c.extend_all.ensures additions h)
