use Rattle.td_algebra.specs.model.Operators.{projected_relation}
use Rattle.std.proofs.Common.{subst}
use Rattle.td_eval.specs.model.OperatorValues.{projected_names, relation_where}
use Rattle.td_tree.specs.model.Outcomes.{Answers}
use Rattle.td_tree.specs.model.Trees.{all_but}
use Rattle.td_types.specs.model.Headings.{has_projection}
use Rattle.td_value.specs.model.Values.{Val}
use Rattle.td_eval.proofs.operators.postfix.projected_value.Goals as goal

pub returns-in-AllBut : goal.returns-in-AllBut
returns-in-AllBut c =
    rw c.in-AllBut.is
    (subst (λ ns. Answers (λ (v : Val). v) c.projected_off.result (relation_where (has_projection ns c.args.rel.now.heading)
    (projected_relation (projected_names (all_but ns) c.args.rel.now.heading) c.args.rel.now))) c.deref-in-AllBut.ensures.value c.projected_off.ensures)
