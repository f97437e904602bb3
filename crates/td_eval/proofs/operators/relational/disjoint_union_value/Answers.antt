use Rattle.std.proofs.Common.{◌≡◌, ◌∙◌, refl, rules, sym, true}
use Rattle.td_algebra.specs.model.Operators.{union, is_disjoint}
use Rattle.td_eval.proofs.code_lemmas.OpValues.{related_alike}
use Rattle.td_eval.specs.model.OperatorValues.{disjoint_union}
use Rattle.td_types.specs.code.TypeOrder.{heading_eq-Decides}
use Rattle.td_eval.proofs.operators.relational.disjoint_union_value.Goals as goal

pub disjoint-requires : goal.disjoint-requires
disjoint-requires c = (heading_eq-Decides c.in_ok-rel.rel.now.heading c.in_ok-rel.other.now.heading).0 (search rules)

pub union-requires : goal.union-requires
union-requires c = (heading_eq-Decides c.in_ok-rel.rel.now.heading c.in_ok-rel.other.now.heading).0 (search rules)

pub returns : goal.returns
returns c =
    let holds : is_disjoint c.in_ok-rel.rel.now c.in_ok-rel.other.now ≡ true = sym c.disjoint.ensures ∙ c.in_ok-hold.ensures.holds in
    related_alike disjoint_union _ _ c.in_ok-rel.rel.now c.in_ok-rel.other.now (union c.in_ok-rel.rel.now c.in_ok-rel.other.now) _
    c.in_ok-rel.ensures (search rules) (rw holds refl) (c.as_value.ensures _ c.union.ensures)
