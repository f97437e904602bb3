use Rattle.std.proofs.Common.{◌∙◌, ◌++◌, ap}
use Rattle.td_check.proofs.Gives.{weaker}
use Rattle.td_check.proofs.NamedTypes.{named_more, named_of_either}
use Rattle.td_check.proofs.mentioned.+named.Goals as goal

pub add_types-returns-in-Tuple : goal.add_types-returns-in-Tuple
add_types-returns-in-Tuple t c =
    weaker _ _ c.add_types_in.result (λ e. e ∙ ap (λ ns. c.args.types.now.items ++ ns) (named_of_either c.args.tree.now c.in-Tuple.heading c.deref.result.now c.in-Tuple.is c.deref.ensures.value))
    c.add_types_in.ensures

pub add_types_in-loop-attribute-preserved : goal.add_types_in-loop-attribute-preserved
add_types_in-loop-attribute-preserved t c =
    named_more c.args.heading.now c.loop-attribute.attribute-index c.attribute-item.result c.loop-attribute-test.true c.attribute-item.is
    c.args.types.now.items c.loop-attribute.types.items c.add_types.new.types.items c.loop-attribute.invariant c.in_ok-add_types.ensures
