use Rattle.std.proofs.Common.{◌∙◌, ap, sym}
use Rattle.std.specs.Rc.{rc_str_bytes}
use Rattle.td_eval.proofs.code_lemmas.OpElements.{zip_past}
use Rattle.td_types.specs.model.Types.{attribute_names}
use Rattle.td_types.specs.code.Views.{pairs_view}
use Rattle.td_value.specs.model.Values.{value_at}
use Rattle.td_eval.proofs.operators.operand.component_named.Goals as goal

pub returns : goal.returns
returns c =
    sym (ap (value_at (rc_str_bytes c.args.name.now)) (zip_past (attribute_names (pairs_view c.loop-value.rest.now)) c.args.values.now c.loop-value.value-index c.loop-value-test.false))
    ∙ c.loop-value.invariant
