use Rattle.td_eval.proofs.code_lemmas.OpComparisons.{first_unlike, relations_unlike, second_unlike}
use Rattle.td_types.specs.model.Types.{pack}
use Rattle.td_value.specs.model.Values.{type_of}
use Rattle.td_eval.proofs.operators.comparisons.unlike.Goals as goal

pub returns-in-Rel-Rel : goal.returns-in-Rel-Rel
returns-in-Rel-Rel c =
    rw (← c.first.view_is, ← c.second.view_is, c.in-Rel-Rel.is-0, c.in-Rel-Rel.is-1) (relations_unlike (pack c.in-Rel-Rel.field-0-0.value.heading) (pack c.in-Rel-Rel.field-0-1.value.heading))

pub returns-in_default : goal.returns-in_default
returns-in_default c = λ e.
    rw (← c.first.view_is, ← c.second.view_is, c.in_default.is-0) (second_unlike (pack c.in_default.field-0-0.value.heading) c.second.inside.node c.in_default.not-Rel-1)

pub returns-in_default-2 : goal.returns-in_default-2
returns-in_default-2 c =
    rw (← c.first.view_is) (first_unlike c.first.inside.node (type_of c.args.second.now) c.in_default.not-Rel-0)
