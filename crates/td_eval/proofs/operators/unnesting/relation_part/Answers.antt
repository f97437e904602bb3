use Rattle.std.proofs.Common.{◌≡◌, ◌∙◌, Some, ap, sym}
use Rattle.td_check.specs.model.OperatorTypes.{known_or, over_relation}
use Rattle.td_tree.specs.declared.cause.Cause.TheVariants as causes
use Rattle.td_tree.specs.model.Outcomes.{Valued, with_value}
use Rattle.td_types.specs.code.TypeCode.{unpack_pack}
use Rattle.td_types.specs.model.Types.{pack, relation, type_at}
use Rattle.td_types.specs.code.Views.{type_view}
use Rattle.td_eval.proofs.operators.unnesting.relation_part.Goals as goal

pub returns-in-Some-Rel : goal.returns-in-Some-Rel
returns-in-Some-Rel c =
    let found : type_at c.args.name.now c.args.heading.now ≡ Some (relation (pack c.in-Some-Rel.part)) =
    sym c.in-Some-Rel.ensures ∙ ap (λ t. Some (type_view t)) c.in-Some-Rel.field-0-is in
    ap (λ o. with_value (known_or causes.Heading o) (λ t. over_relation t Valued)) found ∙ ap Valued (unpack_pack c.in-Some-Rel.part)
