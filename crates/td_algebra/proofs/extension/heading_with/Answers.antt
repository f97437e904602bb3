use Rattle.std.proofs.Common.{◌∙◌}
use Rattle.td_types.specs.model.Headings.{add_missing}
use Rattle.td_algebra.proofs.Extensions.{attribute_more, attributes_end}
use Rattle.td_algebra.proofs.extension.heading_with.Goals as goal

pub loop-name-preserved : goal.loop-name-preserved
loop-name-preserved c =
    attribute_more c.args.columns.now c.loop-name.name-index c.loop-name-item.result c.loop-name.extended c.in_ok-extended-2.extended _ c.loop-name-test.true c.loop-name-item.is
    (c.in_ok-extended-2.ensures ∙ (λ i. add_missing c.loop-name.extended (c.in_ok-try_clone.ensures i, c.in_ok-try_clone-2.ensures i)))
    c.loop-name.invariant

pub returns : goal.returns
returns c = attributes_end c.args.columns.now c.loop-name.name-index c.loop-name.extended _ c.loop-name-test.false c.loop-name.invariant
