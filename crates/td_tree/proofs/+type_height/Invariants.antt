use Rattle.std.proofs.Common.{◌≡◌, max, min, drop}
use Rattle.td_tree.specs.model.Heights.{attributes_height}
use Rattle.td_tree.specs.code.TreeViews.{heading_tree_view}
use Rattle.td_tree.proofs.+type_height.Given as goal

abbrev pub invariant-height::highest_type-loop-attribute :
    goal.invariant-height::highest_type-loop-attribute
invariant-height::highest_type-loop-attribute l =
    max l.highest (min (attributes_height (heading_tree_view (drop l.attribute-index l.heading))) 18446744073709551615)
    ≡ min (attributes_height (heading_tree_view l.heading)) 18446744073709551615
