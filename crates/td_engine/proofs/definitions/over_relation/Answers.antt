use Rattle.std.proofs.Common.{Ok, ◌∙◌, ap, subst}
use Rattle.td_check.specs.model.OperatorTypes.{over_relation}
use Rattle.td_engine.proofs.law_lemmas.Admitted.{unpacked}
use Rattle.td_tree.specs.model.Outcomes.{Answers, Valued, with_value}
use Rattle.td_types.specs.code.Views.{type_view}
use Rattle.td_engine.proofs.definitions.over_relation.Goals as goal

pub returns-in-Ok-Rel : goal.returns-in-Ok-Rel
returns-in-Ok-Rel c =
    λ o is.
    let answered = subst (λ a. Answers type_view a o) (c.in-Ok-Rel.is ∙ ap Ok c.in-Ok-Rel.field-0-is) is in
    ap (λ p. with_value p (λ t. over_relation t Valued)) answered ∙ ap Valued (unpacked c.in-Ok-Rel.heading)
