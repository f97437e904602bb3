use Rattle.std.proofs.Common.{◌∙◌, ap, sym}
use Rattle.td_types.specs.code.TypeOrder.{heading_eq-Decides}
use Rattle.td_value.specs.model.Values.{Relation}
use Rattle.td.proofs.tests.bodies.steps.is_headed.Goals as goal

pub returns : goal.returns
returns g c = λ e.
    sym c.heading.ensures ∙ (heading_eq-Decides c.heading.result.now c.heading-2.result.now).0 (sym c.eq-is_headed.ensures ∙ e)
    ∙ c.heading-2.ensures ∙ ap (λ (r : Relation). r.heading) c.in_ok-own.ensures
