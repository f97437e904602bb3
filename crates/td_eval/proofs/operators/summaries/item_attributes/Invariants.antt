use Rattle.std.proofs.Common.{map, take}
use Rattle.td_eval.specs.code.Totals.{attribute_found}
use Rattle.td_tree.specs.code.Gatherings.{IsGathered}
use Rattle.td_types.specs.code.Pairs.{pair_view}
use Rattle.td_eval.proofs.operators.summaries.item_attributes.Given as goal

abbrev pub invariant-loop-item : goal.invariant-loop-item
invariant-loop-item l = IsGathered l.causes (map pair_view l.attributes.items) (map (attribute_found l.fn.scope) (take l.item-index l.items))
