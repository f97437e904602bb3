use Rattle.std.proofs.Common.{drop, map, take}
use Rattle.td_check.specs.code.CheckViews.{item_found, names_view, part_found}
use Rattle.td_check.specs.code.ItemViews.{items_view}
use Rattle.td_check.specs.code.PlaceViews.{scope_at}
use Rattle.td_check.proofs.CheckedBindings.{IsLeft}
use Rattle.td_check.proofs.CheckedLists.{AreChecked}
use Rattle.td_check.proofs.CheckedRows.{relvars_of, relvars_of_item, relvars_of_part, type_found, types_of_item, types_of_one, types_of_part}
use Rattle.td_types.specs.code.Views.{pairs_view, type_view}
use Rattle.td_check.proofs.expression.+check.Given as goal

abbrev pub invariant-check_all-loop-expr : goal.invariant-check_all-loop-expr
invariant-check_all-loop-expr l =
    AreChecked (type_found (scope_at l.place)) (relvars_of (scope_at l.place)) types_of_one l.causes (map type_view l.types.items)
    (names_view l.initial.seen) (names_view l.seen) (take l.expr-index l.exprs)

abbrev pub invariant-check_items-loop-item : goal.invariant-check_items-loop-item
invariant-check_items-loop-item l =
    AreChecked (item_found (scope_at l.place)) (relvars_of_item (scope_at l.place)) types_of_item l.causes (items_view l.added.items)
    (names_view l.initial.seen) (names_view l.seen) (take l.item-index l.items)

abbrev pub invariant-check_named-loop-part : goal.invariant-check_named-loop-part
invariant-check_named-loop-part l =
    AreChecked (part_found (scope_at l.place)) (relvars_of_part (scope_at l.place)) types_of_part l.causes (pairs_view l.attributes.items)
    (names_view l.initial.seen) (names_view l.seen) (take l.part-index l.parts)

abbrev pub invariant-check_bounds-loop-item : goal.invariant-check_bounds-loop-item
invariant-check_bounds-loop-item l =
    IsLeft (scope_at l.place) l.items (names_view l.initial.seen) l.bounds.items (drop l.item-index l.items) (names_view l.seen)
