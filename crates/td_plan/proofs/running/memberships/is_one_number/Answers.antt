use Rattle.std.proofs.Common.{◌∙◌, Some, ap, sym}
use Rattle.std.proofs.lemmas.Bool.{eqb-true}
use Rattle.td_plan.proofs.Memberships.{one_attribute}
use Rattle.td_types.specs.code.Views.{type_view}
use Rattle.td_plan.proofs.running.memberships.is_one_number.Goals as goal

pub returns-in-Some-Int : goal.returns-in-Some-Int
returns-in-Some-Int c = λ one.
    one_attribute c.args.name.now c.args.heading.now (sym c.len.ensures ∙ eqb-true c.len.result 1 one)
    (sym c.in-Some-Int.ensures ∙ ap (λ t. Some (type_view t)) c.in-Some-Int.field-0-is)
