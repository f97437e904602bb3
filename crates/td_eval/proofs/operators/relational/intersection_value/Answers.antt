use Rattle.td_algebra.specs.model.Operators.{intersection}
use Rattle.td_check.specs.model.OperatorTypes.{same_heading}
use Rattle.td_eval.proofs.code_lemmas.OpValues.{related_where}
use Rattle.td_types.specs.code.TypeOrder.{heading_eq-Decides}
use Rattle.std.proofs.Common.{rules}
use Rattle.td_eval.proofs.operators.relational.intersection_value.Goals as goal

pub intersect-requires : goal.intersect-requires
intersect-requires c = (heading_eq-Decides c.in_ok-rel.rel.now.heading c.in_ok-rel.other.now.heading).0 (search rules)

pub returns : goal.returns
returns c =
    related_where (λ r s. same_heading r.heading s.heading) intersection _ _ c.in_ok-rel.rel.now c.in_ok-rel.other.now _
    c.in_ok-rel.ensures (search rules) (c.as_value.ensures _ c.intersect.ensures)
