use Rattle.std.proofs.Common.{drop, false}
use Rattle.std.specs.String.{string_bytes}
use Rattle.td_tree.specs.code.Fronts.{IsBegun}
use Rattle.td_types.specs.model.Texts.{attributes_text}
use Rattle.td_types.specs.model.Types.{pack}
use Rattle.td_types.specs.code.Views.{heading_view}
use Rattle.td_types.proofs.text.+put.Given as goal

abbrev pub invariant-put_heading-loop-attribute : goal.invariant-put_heading-loop-attribute
invariant-put_heading-loop-attribute l =
    IsBegun (string_bytes l.initial.out) (string_bytes l.out) (attributes_text l.later (pack (heading_view (drop l.attribute-index l.attribute-items))))
    (attributes_text false (pack (heading_view l.attribute-items)))
