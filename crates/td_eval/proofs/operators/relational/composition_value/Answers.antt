use Rattle.std.proofs.Common.{rules}
use Rattle.td_algebra.specs.model.Operators.{composition}
use Rattle.td_eval.proofs.code_lemmas.OpValues.{related_where}
use Rattle.td_types.specs.model.Headings.{agree}
use Rattle.td_eval.proofs.operators.relational.composition_value.Goals as goal

pub returns : goal.returns
returns c =
    related_where (λ r s. agree r.heading s.heading) composition _ _ c.in_ok-rel.rel.now c.in_ok-rel.other.now _
    c.in_ok-rel.ensures (search rules) (c.as_value.ensures _ c.compose.ensures)
