use Rattle.std.proofs.Common.{◌∙◌, ◌++◌, ap, sym}
use Rattle.std.proofs.lemmas.List.{append-nil}
use Rattle.td_eval.proofs.code_lemmas.OpElements.{zip_past}
use Rattle.td_types.specs.model.Types.{attribute_names}
use Rattle.td_types.specs.code.Views.{pairs_view}
use Rattle.td_eval.proofs.operators.selectors.component_entries.Goals as goal

pub returns : goal.returns
returns c =
    sym (append-nil c.loop-value.entries.items)
    ∙ ap (λ es. c.loop-value.entries.items ++ es) (sym (zip_past (attribute_names (pairs_view c.loop-value.rest.now)) c.args.values.now c.loop-value.value-index c.loop-value-test.false))
    ∙ c.loop-value.invariant
