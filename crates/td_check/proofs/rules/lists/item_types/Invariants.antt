use Rattle.std.proofs.Common.{map}
use Rattle.td_check.specs.code.ItemViews.{named_item_view}
use Rattle.td_check.specs.model.OperatorTypes.{item_type}
use Rattle.td_tree.specs.code.Gatherings.{IsGathered}
use Rattle.td_types.specs.code.Views.{pairs_view}
use Rattle.td_check.proofs.rules.lists.item_types.Given as goal

abbrev pub invariant-loop-name : goal.invariant-loop-name
invariant-loop-name l = IsGathered l.causes (pairs_view l.attributes.items) (map (λ item. item_type (named_item_view item)) l.yielded)
