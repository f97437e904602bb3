use Rattle.std.proofs.Common.{◌≡◌, ◌∙◌, Some, ap, sym}
use Rattle.td_check.specs.model.OperatorTypes.{known_or, over_tuple}
use Rattle.td_tree.specs.declared.cause.Cause.TheVariants as causes
use Rattle.td_tree.specs.model.Outcomes.{Valued, with_value}
use Rattle.td_types.specs.code.TypeCode.{unpack_pack}
use Rattle.td_types.specs.model.Types.{pack, tuple, type_at}
use Rattle.td_types.specs.code.Views.{type_view}
use Rattle.td_eval.proofs.operators.unnesting.tuple_part.Goals as goal

pub returns-in-Some-Tup : goal.returns-in-Some-Tup
returns-in-Some-Tup c =
    let found : type_at c.args.name.now c.args.heading.now ≡ Some (tuple (pack c.in-Some-Tup.part)) =
    sym c.in-Some-Tup.ensures ∙ ap (λ t. Some (type_view t)) c.in-Some-Tup.field-0-is in
    ap (λ o. with_value (known_or causes.Heading o) (λ t. over_tuple t Valued)) found ∙ ap Valued (unpack_pack c.in-Some-Tup.part)
