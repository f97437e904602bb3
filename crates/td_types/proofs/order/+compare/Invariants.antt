use Rattle.std.proofs.Common.{◌≡◌, ◌≤◌, length, drop}
use Rattle.td_types.specs.model.Types.{attrs_cmp, pack}
use Rattle.td_types.specs.code.Views.{heading_view}
use Rattle.td_types.proofs.order.+compare.Given as goal

abbrev pub invariant-compare_attributes-loop-x : goal.invariant-compare_attributes-loop-x
invariant-compare_attributes-loop-x l =
    (l.place ≡ l.x-index) × (l.place ≤ length l.b)
    × (attrs_cmp (pack (heading_view (drop l.place l.a))) (pack (heading_view (drop l.place l.b))) ≡ attrs_cmp (pack (heading_view l.a)) (pack (heading_view l.b)))
