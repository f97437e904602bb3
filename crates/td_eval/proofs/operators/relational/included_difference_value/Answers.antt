use Rattle.std.proofs.Common.{◌≡◌, ◌∙◌, refl, rules, sym, true}
use Rattle.td_algebra.specs.model.Operators.{difference, is_subset}
use Rattle.td_eval.proofs.code_lemmas.OpValues.{related_alike}
use Rattle.td_eval.specs.model.OperatorValues.{included_difference}
use Rattle.td_types.specs.code.TypeOrder.{heading_eq-Decides}
use Rattle.td_eval.proofs.operators.relational.included_difference_value.Goals as goal

pub subset-requires : goal.subset-requires
subset-requires c = sym ((heading_eq-Decides c.in_ok-rel.rel.now.heading c.in_ok-rel.other.now.heading).0 (search rules))

pub minus-requires : goal.minus-requires
minus-requires c = (heading_eq-Decides c.in_ok-rel.rel.now.heading c.in_ok-rel.other.now.heading).0 (search rules)

pub returns : goal.returns
returns c =
    let holds : is_subset c.in_ok-rel.other.now c.in_ok-rel.rel.now ≡ true = sym c.subset.ensures ∙ c.in_ok-hold.ensures.holds in
    related_alike included_difference _ _ c.in_ok-rel.rel.now c.in_ok-rel.other.now (difference c.in_ok-rel.rel.now c.in_ok-rel.other.now) _
    c.in_ok-rel.ensures (search rules) (rw holds refl) (c.as_value.ensures _ c.minus.ensures)
