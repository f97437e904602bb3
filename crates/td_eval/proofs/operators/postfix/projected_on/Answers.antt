use Rattle.std.proofs.Common.{rules}
use Rattle.td_algebra.specs.model.Operators.{projected_relation}
use Rattle.td_eval.proofs.code_lemmas.OpHeadings.{given_where}
use Rattle.td_eval.proofs.operators.postfix.projected_on.Goals as goal

pub returns : goal.returns
returns c =
    given_where _ (projected_relation c.args.names.now c.args.rel.now) _ (search rules)
    (c.as_value.ensures (projected_relation c.args.names.now c.args.rel.now) c.project.ensures)
